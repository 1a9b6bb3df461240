-- WHAT A WALK AND A STRICT CHECK ANSWER AND LEAVE, from what they list; and back. Assumes nothing.
use Prim.Native.Nat.{ℕ, ◌-◌, ◌<◌}
use native.Mathlib.Omega.{arith}
use mathlib.Core.Path.{◌≡◌, refl, ap}
use mathlib.Core.Bool.{Bool, true, false}
use mathlib.Core.List.{List, [], ◌++◌}
use lib.Dec.{leb}
use lib.ListN.{length, replicate}
use borrow.Author.Tests.{lt-leb}
use Rattle.units.specs.Told.{Told, gives, refuses, pick}
use Rattle.units.specs.declared.Sector.{Sector}
use Rattle.units.specs.declared.Region.{Region}
use Rattle.read_walk.specs.Walk as walking
use Rattle.read_walk.specs.Walk.{walk_of, counted, listed}
use Rattle.strict_rule.specs.Strict as checking
use Rattle.strict_rule.specs.Strict.{strict_of}

-- where the scratch is longer than the list
by_list : (b : Bool) (g : Told (List ℕ)) (list xs : List ℕ) → b ≡ false → g ≡ gives xs
    → (pick b (refuses 6 []) (counted g) ≡ gives (length xs)) × (pick b list (listed g (length list)) ≡ xs ++ replicate (length list - length xs) 0)
by_list b g list xs p q = (
  (λ k. pick (p k) (refuses 6 []) (counted (q k))),
  (λ k. pick (p k) list (listed (q k) (length list))),
)

-- a number is answered of what is listed alone
back_list : (b : Bool) (g : Told (List ℕ)) (list : List ℕ) (k : ℕ) → pick b (refuses 6 []) (counted g) ≡ gives k
    → (xs : List ℕ) × ((g ≡ gives xs) × ((length xs ≡ k) × (pick b list (listed g (length list)) ≡ xs ++ replicate (length list - k) 0)))
back_list true g list k e = let z : ◌≡◌ {A = ℕ} 0 1 = cc in absurd (omega arith)
back_list false (refuses j vs) list k e = let z : ◌≡◌ {A = ℕ} 0 1 = cc in absurd (omega arith)
back_list false (gives xs) list k e = let q : length xs ≡ k = cc in (xs, (refl, (q, ap (λ (n : ℕ). xs ++ replicate (length list - n) 0) q)))

module _ (w : List ℕ) (first : Sector) (t : Region) (list : List ℕ) where
  module _ (m : ℕ) (longer : length list < m) (xs : List ℕ) where
    pub walk_lists : walk_of w first t (length list) ≡ gives xs
        → (walking.walk_answer w first t (length list) m ≡ gives (length xs)) × (walking.list_after w first t list m ≡ xs ++ replicate (length list - length xs) 0)
    unfolding walking.walk_answer walking.list_after
    walk_lists e = by_list (leb m (length list)) (walk_of w first t (length list)) list xs (lt-leb m (length list) longer) e

    pub check_lists : strict_of w first t (length list) ≡ gives xs
        → (checking.strict_answer w first t (length list) m ≡ gives (length xs)) × (checking.list_after w first t list m ≡ xs ++ replicate (length list - length xs) 0)
    unfolding checking.strict_answer checking.list_after
    check_lists e = by_list (leb m (length list)) (strict_of w first t (length list)) list xs (lt-leb m (length list) longer) e

  pub check_listed : (m k : ℕ) → checking.strict_answer w first t (length list) m ≡ gives k
      → (xs : List ℕ) × ((strict_of w first t (length list) ≡ gives xs) × ((length xs ≡ k) × (checking.list_after w first t list m ≡ xs ++ replicate (length list - k) 0)))
  unfolding checking.strict_answer checking.list_after
  check_listed m k e = back_list (leb m (length list)) (strict_of w first t (length list)) list k e
