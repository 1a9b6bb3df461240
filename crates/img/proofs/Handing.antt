-- What handing out is to take, where the tables can be placed, and what it leaves. Assumes nothing.
use Rattle.std.proofs.Common.{ℕ, ◌≡◌, refl, ap, ◌∙◌, List, Result, Ok, Err, IsErrAnd}
use Rattle.units.specs.declared.Sector.{Sector}
use Rattle.units.specs.Told.{Told, gives, refuses}
use Rattle.img_model.specs.declared.PlanError.{PlanError}
use Rattle.img_model.specs.Plan.{Taking, told}
use Rattle.img_take.specs.declared.PlacingError.{PlacingError}
use Rattle.img_take.specs.declared.PlacingError.TheVariants as error
use Rattle.img_take.specs.inner.Forward.{free_told, told_placed, plan_error}
use Rattle.img.specs.inner.Steps.{Given, HandedOut}

pub given_is : (g : Told Taking) (n : ℕ) → gives n ≡ free_told g → (p : Taking) × (g ≡ gives p)
given_is (gives p) n e = (p, refl)
given_is (refuses k vs) n e = cc

same_refusal : (e : PlacingError) → told (Err (plan_error e)) ≡ told_placed (Err e)
same_refusal (error.TooManyDirectoryEntries d) = refl
same_refusal (error.SectorOverflow d) = refl

-- a table cannot be placed
pub none_handed : (e : PlacingError) (r : Result Sector PlanError) (s : List ℕ) (g : Told Taking) (old : Given) → IsErrAnd r (λ y. y ≡ plan_error e)
    → told_placed (Err e) ≡ free_told g → HandedOut r s g old old
none_handed e (Ok f) s g old h q = absurd h
none_handed (error.TooManyDirectoryEntries d) (Err y) s (gives p) old h q = cc
none_handed (error.SectorOverflow d) (Err y) s (gives p) old h q = cc
none_handed e (Err y) s (refuses k vs) old h q =
    record { answer = ap (λ y. told (Err y)) h ∙ same_refusal e ∙ q; sizes_are = refl; tables_are = refl; sectors_are = refl }

-- all can
pub all_handed : (n : Sector) (s : List ℕ) (g : Told Taking) (old new : Given) → gives n.0 ≡ free_told g → new.sizes ≡ s
    → ((p : Taking) → g ≡ gives p → (new.tables ≡ p.tables) × (new.sectors ≡ p.sectors)) → HandedOut (Ok n) s g old new
all_handed n s (gives p) old new e z t = record { answer = e; sizes_are = z; tables_are = (t p refl).0; sectors_are = (t p refl).1 }
all_handed n s (refuses k vs) old new e z t = cc
