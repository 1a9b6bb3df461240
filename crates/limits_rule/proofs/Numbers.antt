-- Accepted exactly where the conditions hold; a refusal has nothing beside its number; and which numbers there are. Assumes nothing.
use Prim.Native.Nat.{ℕ, zero, suc, ◌+◌, ◌-◌, ◌<◌}
use native.Mathlib.Omega.{arith}
use mathlib.Core.Path.{◌≡◌, refl, sym, subst, ◌∙◌}
use mathlib.Core.Bool.{true}
use mathlib.Core.Logic.{inl, inr}
use mathlib.Core.List.{List, [], ◌∷◌}
use Rattle.units.specs.Told.{refuses}
use Rattle.units.specs.declared.Sector.{Sector}
use Rattle.units.specs.declared.Region.{Region}
use Rattle.layout_volume.specs.declared.Descriptor.{Descriptor}
use Rattle.read_entry.specs.declared.Placed.{Placed}
use Rattle.read_entry.specs.Links.{walk_absent, is_in}
use Rattle.read_path.specs.Path.{path_of}
use Rattle.read_path.proofs.Rules.{path_by_rule}
use Rattle.read_path.proofs.Numbers.{OfPath, path-refuses}
use Rattle.limits_rule.specs.Limits.{Limits, limits_of}
use Rattle.limits_rule.specs.Outcome.{loaded, Accepts, Outcome, accepted, no_volume, no_date, clock_back, too_old, by_path, not_a_file}
use Rattle.limits_rule.proofs.Outcomes.{outcome, outcome_one}

-- 0, and the refusals in the order in which their causes are looked for
abbrev pub numbers : List ℕ
numbers = 0 ∷ 20 ∷ 40 ∷ 41 ∷ 42 ∷ 2 ∷ 28 ∷ 21 ∷ 22 ∷ 23 ∷ 24 ∷ 25 ∷ 27 ∷ 43 ∷ []

-- a path's refusals under rule two
two_refuses : (w : List ℕ) (first : Sector) (t : Region) (path : List ℕ) (k : ℕ) (vs : List ℕ) → path_of 2 w first t path ≡ refuses k vs → OfPath k
two_refuses w first t path k vs e = path-refuses walk_absent w first t path k vs (sym (path_by_rule w first t path).rule_two ∙ e)

not_zero : OfPath 0 → ⊥
not_zero (inl e) = omega arith
not_zero (inr e) = omega (arith, e.0)

from_21 : (j : ℕ) → j < 8 → (j ≡ 5 → ⊥) → is_in (21 + j) numbers ≡ true
unfolding is_in
from_21 zero h n = refl
from_21 (suc zero) h n = refl
from_21 (suc (suc zero)) h n = refl
from_21 (suc (suc (suc zero))) h n = refl
from_21 (suc (suc (suc (suc zero)))) h n = refl
from_21 (suc (suc (suc (suc (suc zero))))) h n = absurd (n refl)
from_21 (suc (suc (suc (suc (suc (suc zero)))))) h n = refl
from_21 (suc (suc (suc (suc (suc (suc (suc zero))))))) h n = refl
from_21 (suc (suc (suc (suc (suc (suc (suc (suc j)))))))) h n = absurd (omega arith)

path_among : (k : ℕ) → OfPath k → is_in k numbers ≡ true
unfolding is_in
path_among k (inl e) = rw e
path_among k (inr e) =
    let q : 21 + (k - 21) ≡ k = omega (arith, e.0) in
    subst (λ (n : ℕ). is_in n numbers ≡ true) q (from_21 (k - 21) (omega (arith, e.0, e.1)) (λ z. e.2 (omega (arith, e.0, z))))

module _ (w : List ℕ) (first : Sector) (path : List ℕ) (time age : ℕ) where
  accepts_by : (r : Limits) → Outcome w first path time age r → r.number ≡ 0 → (d : Descriptor) × (x : Placed) × Accepts w first path time age d x
  accepts_by r (accepted d x a) e = (d, x, a)
  accepts_by r (no_volume h) e = absurd (omega (arith, e))
  accepts_by r (no_date d v k) e = absurd (omega (arith, e))
  accepts_by r (clock_back d v h k) e = absurd (omega (arith, e))
  accepts_by r (too_old d v h k l) e = absurd (omega (arith, e))
  accepts_by r (by_path d k vs h p) e = absurd (not_zero (subst OfPath e (two_refuses w first d.root path k vs p)))
  accepts_by r (not_a_file d x h p k) e = absurd (omega (arith, e))

  -- the number is 0 only where the conditions hold
  pub accepts : (limits_of w first path time age).number ≡ 0 → (d : Descriptor) × (x : Placed) × Accepts w first path time age d x
  accepts e = accepts_by _ (outcome w first path time age) e

  -- and where they hold, the answer is what is loaded
  pub loads : (d : Descriptor) (x : Placed) → Accepts w first path time age d x → limits_of w first path time age ≡ loaded d x
  loads d x a = sym (outcome_one w first path time age (loaded d x) (accepted d x a))

  nothing_by : (r : Limits) → Outcome w first path time age r → (r.number ≡ 0 → ⊥) → (r.sector.0 ≡ 0) × (r.size ≡ 0) × (r.stamp ≡ 0)
  nothing_by r (accepted d x a) h = absurd (h refl)
  nothing_by r (no_volume n) h = (refl, refl, refl)
  nothing_by r (no_date d v k) h = (refl, refl, refl)
  nothing_by r (clock_back d v n k) h = (refl, refl, refl)
  nothing_by r (too_old d v n k l) h = (refl, refl, refl)
  nothing_by r (by_path d k vs n p) h = (refl, refl, refl)
  nothing_by r (not_a_file d x n p k) h = (refl, refl, refl)

  -- any other number comes with nothing
  pub nothing : ((limits_of w first path time age).number ≡ 0 → ⊥)
      → ((limits_of w first path time age).sector.0 ≡ 0) × ((limits_of w first path time age).size ≡ 0) × ((limits_of w first path time age).stamp ≡ 0)
  nothing h = nothing_by _ (outcome w first path time age) h

  known_by : (r : Limits) → Outcome w first path time age r → is_in r.number numbers ≡ true
  unfolding is_in
  known_by r (accepted d x a) = refl
  known_by r (no_volume n) = refl
  known_by r (no_date d v k) = refl
  known_by r (clock_back d v n k) = refl
  known_by r (too_old d v n k l) = refl
  known_by r (by_path d k vs n p) = path_among k (two_refuses w first d.root path k vs p)
  known_by r (not_a_file d x n p k) = refl

  pub known : is_in (limits_of w first path time age).number numbers ≡ true
  known = known_by _ (outcome w first path time age)

-- 29 is none of them
pub not_29 : (w : List ℕ) (first : Sector) (path : List ℕ) (time age : ℕ) → (limits_of w first path time age).number ≡ 29 → ⊥
unfolding is_in
not_29 w first path time age e =
    let q : is_in 29 numbers ≡ true = subst (λ (n : ℕ). is_in n numbers ≡ true) e (known w first path time age) in
    let z : ◌≡◌ {A = ℕ} 0 1 = cc in omega arith
