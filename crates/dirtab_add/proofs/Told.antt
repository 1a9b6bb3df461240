-- What an answer of adding stands for is one-to-one: no two answers are told alike. Assumes nothing.
use Rattle.std.proofs.Common.{◌≡◌, refl, sym, ap, ◌∙◌, Result, Ok, Err}
use Rattle.units.specs.Told.{Told, gives, refuses}
use Rattle.dirtab_entry.specs.declared.Cause.{Cause}
use Rattle.dirtab_entry.proofs.Told.{for_number, for_number_lem}
use Rattle.dirtab_arena.specs.declared.Held.{Held}
use Rattle.dirtab_add.specs.declared.AddError.{AddError}
use Rattle.dirtab_add.specs.declared.AddError.TheVariants.{BadArena, Refused}
use Rattle.dirtab_add.specs.Add.{Grown, told}

-- the answer for a cause
abbrev cause_err : Cause → Result Held AddError
cause_err c = Err (Refused c)

-- the answer again from what is told of it
back : Told Grown → Result Held AddError
back (gives g) = Ok (record { root = g.root; count = g.count })
back (refuses k vs) = for_number cause_err (Err BadArena) k

back-told : (a : Result Held AddError) → back (told a) ≡ a
unfolding back for_number
back-told (Ok t) = refl
back-told (Err BadArena) = refl
back-told (Err (Refused c)) = for_number_lem cause_err (Err BadArena) c

-- no two answers of adding are told alike
pub told_one : (a b : Result Held AddError) → told a ≡ told b → a ≡ b
told_one a b e = sym (back-told a) ∙ ap back e ∙ back-told b
