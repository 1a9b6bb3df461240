-- What a walk's answer stands for is one-to-one: no two answers are told alike. Assumes nothing.
use Prim.Native.Nat.{ℕ}
use mathlib.Core.Path.{◌≡◌, refl, sym, ap, ◌∙◌}
use lib.Dec.{eqb}
use lib.ListN.{get_or}
use Rattle.std.specs.Prelude.{Result, Ok, Err}
use Rattle.units.specs.Told.{Told, gives, refuses, pick}
use Rattle.read_entry.specs.declared.ReadError.TheVariants as reading
use Rattle.read_walk.specs.declared.WalkError.{WalkError}
use Rattle.read_walk.specs.declared.WalkError.TheVariants as walk_error
use Rattle.read_walk.specs.Walk.{told}

-- the answer again from what is told of it
back : Told ℕ → Result ℕ WalkError
back (gives n) = Ok n
back (refuses k vs) =
    Err
    (pick (eqb k 6) walk_error.Room
    (pick (eqb k 23) (walk_error.Read (reading.OutOfBounds (record { 0 = get_or vs 0 0 })))
    (pick (eqb k 24) (walk_error.Read (reading.Truncated (record { 0 = get_or vs 0 0 }))) walk_error.WalkFull)))

back-told : (a : Result ℕ WalkError) → back (told a) ≡ a
unfolding back
back-told (Ok n) = refl
back-told (Err walk_error.Room) = refl
back-told (Err (walk_error.Read (reading.OutOfBounds o))) = refl
back-told (Err (walk_error.Read (reading.Truncated o))) = refl
back-told (Err walk_error.WalkFull) = refl

pub told_one : (a b : Result ℕ WalkError) → told a ≡ told b → a ≡ b
told_one a b e = sym (back-told a) ∙ ap back e ∙ back-told b
