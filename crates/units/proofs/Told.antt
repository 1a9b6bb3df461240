-- What a region's answer stands for is one-to-one: no two answers are told alike. Assumes nothing.
use Rattle.std.proofs.Common.{ℕ, ◌≡◌, refl, sym, ap, ◌∙◌, get_or}
use Rattle.std.specs.Prelude.{Result, Ok, Err}
use Rattle.units.specs.declared.OutOfBounds.{OutOfBounds}
use Rattle.units.specs.Told.{Told, gives, refuses}
use Rattle.units.specs.Region.{told}

-- the answer again from what is told of it
back : Told ℕ → Result ℕ OutOfBounds
back (gives b) = Ok b
back (refuses k vs) = Err (record { 0 = record { 0 = get_or vs 0 0 } })

back-told : (a : Result ℕ OutOfBounds) → back (told a) ≡ a
unfolding back
back-told (Ok b) = refl
back-told (Err e) = refl

pub told_one : (a b : Result ℕ OutOfBounds) → told a ≡ told b → a ≡ b
told_one a b e = sym (back-told a) ∙ ap back e ∙ back-told b
