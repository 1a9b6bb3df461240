-- What an answer stands for is one-to-one: no two answers are told alike. Assumes nothing.
use Rattle.std.proofs.Common.{◌≡◌, refl, sym, ap, ◌∙◌, [], ◌∷◌, eqb, Result, Ok, Err}
use Rattle.units.specs.Told.{Told, gives, refuses, pick}
use Rattle.dirtab_entry.proofs.Told.{for_number, for_number_lem}
use Rattle.table_model.specs.Table.{Placing}
use Rattle.dirtab.specs.declared.Written.{Written}
use Rattle.dirtab.specs.declared.WriteError.TheVariants as writing
use Rattle.dirtab_list.specs.declared.ListError.{ListError}
use Rattle.dirtab_list.specs.declared.ListError.TheVariants.{Room, Refused, Write}
use Rattle.dirtab_list.specs.Whole.{told}

-- the answer again from what is told of it
back : Told Placing → Result Written ListError
back (gives p) = Ok (record { size = p.size; free = record { 0 = p.free } })
back (refuses k (i ∷ vs)) = Err (for_number (λ c. Refused c i) Room k)
back (refuses k []) =
    Err (pick (eqb k 7) (Write writing.TooManyDirectoryEntries) (pick (eqb k 8) (Write writing.SectorOverflow) (pick (eqb k 9) (Write writing.BufferTooSmall) Room)))

back-told : (a : Result Written ListError) → back (told a) ≡ a
unfolding back
back-told (Ok w) = refl
back-told (Err Room) = refl
back-told (Err (Refused c i)) = ap Err (for_number_lem (λ b. Refused b i) Room c)
back-told (Err (Write writing.TooManyDirectoryEntries)) = refl
back-told (Err (Write writing.SectorOverflow)) = refl
back-told (Err (Write writing.BufferTooSmall)) = refl

-- no two answers of writing a list are told alike
pub told_one : (a b : Result Written ListError) → told a ≡ told b → a ≡ b
told_one a b e = sym (back-told a) ∙ ap back e ∙ back-told b
