-- What an answer stands for is one-to-one: no two answers are told alike. Assumes nothing.
use Prim.Native.Nat.{ℕ}
use mathlib.Core.Path.{◌≡◌, refl, sym, ap, ◌∙◌}
use mathlib.Core.List.{[], ◌∷◌}
use lib.Dec.{eqb}
use Rattle.std.specs.Prelude.{Result, Ok, Err}
use Rattle.units.specs.declared.Sector.{Sector}
use Rattle.units.specs.Told.{Told, gives, refuses, pick}
use Rattle.dirtab_entry.proofs.Told.{for_number, for_number_lem}
use Rattle.img_model.specs.declared.PlanError.{PlanError}
use Rattle.img_model.specs.declared.PlanError.TheVariants as error
use Rattle.img_model.specs.Plan.{told}

-- the answer again from what is told of it
back : Told ℕ → Result Sector PlanError
back (gives f) = Ok (record { 0 = f })
back (refuses k (j ∷ vs)) =
    Err (for_number (λ c. error.Refused c j)
    (pick (eqb k 7) (error.TooManyDirectoryEntries j) (pick (eqb k 8) (error.SectorOverflow j) (error.FileTooLarge j))) k)
back (refuses k []) = Err (pick (eqb k 6) error.Room error.BadTree)

back-told : (a : Result Sector PlanError) → back (told a) ≡ a
unfolding back for_number
back-told (Ok f) = refl
back-told (Err error.Room) = refl
back-told (Err error.BadTree) = refl
back-told (Err (error.FileTooLarge j)) = refl
back-told (Err (error.Refused c j)) = ap Err (for_number_lem (λ b. error.Refused b j) _ c)
back-told (Err (error.TooManyDirectoryEntries d)) = refl
back-told (Err (error.SectorOverflow d)) = refl

-- no two answers of planning are told alike
pub told_one : (a b : Result Sector PlanError) → told a ≡ told b → a ≡ b
told_one a b e = sym (back-told a) ∙ ap back e ∙ back-told b
