-- The shares added up, and each seen to have its places. Assumes nothing.
use Rattle.std.proofs.Common.{ℕ, ◌+◌, ◌≡◌, List, [], ◌∷◌, ◌&&◌, min, leb, refl, ap, ◌∙◌, sum}
use Rattle.std.proofs.lemmas.List.Sums.{sum_by-cons}
use Rattle.std.specs.List.{list_all}
use Rattle.img_model.specs.Plan.{total}
use Rattle.img_model.specs.Image.{fits}

pub sum_total : (share : List ℕ) → sum share ≡ total share
unfolding total
sum_total [] = refl
sum_total (n ∷ ns) = sum_by-cons (λ x. x) n ns ∙ ap (λ t. n + t) (sum_total ns)

pub all_fit : (n entries : ℕ) (share : List ℕ) → list_all (λ c. leb (min c entries) n) share ≡ fits n entries share
unfolding fits
all_fit n entries [] = refl
all_fit n entries (c ∷ cs) = ap (λ b. leb (min c entries) n && b) (all_fit n entries cs)
