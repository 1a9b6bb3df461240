-- What an answer of the strict check stands for is one-to-one: no two answers are told alike. Assumes nothing.
use Prim.Native.Nat.{ℕ}
use mathlib.Core.Path.{◌≡◌, refl, sym, ap, ◌∙◌}
use lib.Dec.{eqb}
use lib.ListN.{get_or}
use Rattle.std.specs.Prelude.{Result, Ok, Err}
use Rattle.units.specs.Told.{Told, gives, refuses, pick}
use Rattle.read_entry.specs.declared.ReadError.TheVariants as reading
use Rattle.strict_rule.specs.declared.CheckError.{CheckError}
use Rattle.strict_rule.specs.declared.CheckError.TheVariants as check_error
use Rattle.strict_rule.specs.Strict.{told}

-- the answer again from what is told of it
back : Told ℕ → Result ℕ CheckError
back (gives n) = Ok n
back (refuses k vs) =
    Err
    (pick (eqb k 6) check_error.Room
    (pick (eqb k 23) (check_error.Read (reading.OutOfBounds (record { 0 = get_or vs 0 0 })))
    (pick (eqb k 24) (check_error.Read (reading.Truncated (record { 0 = get_or vs 0 0 })))
    (pick (eqb k 30) (check_error.Shared (record { 0 = get_or vs 0 0 }))
    (pick (eqb k 31) (check_error.OutOfOrder (record { 0 = get_or vs 0 0 }))
    (pick (eqb k 32) (check_error.BadPlace (record { 0 = get_or vs 0 0 })) check_error.WalkFull))))))

back-told : (a : Result ℕ CheckError) → back (told a) ≡ a
unfolding back
back-told (Ok n) = refl
back-told (Err check_error.Room) = refl
back-told (Err (check_error.Read (reading.OutOfBounds o))) = refl
back-told (Err (check_error.Read (reading.Truncated o))) = refl
back-told (Err check_error.WalkFull) = refl
back-told (Err (check_error.Shared o)) = refl
back-told (Err (check_error.OutOfOrder o)) = refl
back-told (Err (check_error.BadPlace o)) = refl

-- two answers that are told alike are the same
pub told_one : (a b : Result ℕ CheckError) → told a ≡ told b → a ≡ b
told_one a b e = sym (back-told a) ∙ ap back e ∙ back-told b
