-- A turn of each loop over a map of units, over plain lists and numbers. Assumes nothing.
use Prim.Native.Nat.{ℕ, ◌+◌, ◌-◌, ◌%◌, ◌≤◌, ◌<◌}
use mathlib.Core.Path.{◌≡◌}
use mathlib.Core.Bool.{true, false}
use mathlib.Core.Logic.{◌⊎◌, inl, inr, ⊎_elim}
use mathlib.Core.List.{List}
use native.Mathlib.Omega.{arith}
use native.Mathlib.Decide.{dec_lt}
use lib.ListN.{get_or}
use Rattle.strict_map.specs.inner.Map.{Tested}

below_by : (a b : ℕ) → Dec (a < b) → (a < b) ⊎ (b ≤ a)
below_by a b (yes h) = inl h
below_by a b (no n) = inr (omega arith)

-- a number is below another, or not
pub below_or_not : (a b : ℕ) → (a < b) ⊎ (b ≤ a)
below_or_not a b = below_by a b (dec_lt a b)

-- the test's invariant: the last unit is free, and every fourth before i
pub record Passing (m : List ℕ) (from to i : ℕ) : Type 0 where
  pub low : from ≤ i
  pub near : i < to + 4
  pub in_step : (i - from) % 4 ≡ 0
  pub fourth : (u : ℕ) → from ≤ u → u < i → (u - from) % 4 ≡ 0 → get_or m u 0 ≡ 0
  pub last : get_or m (to - 1) 0 ≡ 0

-- a unit is marked: the test says no
pub marked_unit : (m : List ℕ) (from to u : ℕ) → from ≤ u → u < to → (get_or m u 0 ≡ 0 → ⊥) → Tested m from to false
marked_unit m from to u a b n = record {
  fourth = λ e. let z : ◌≡◌ {A = ℕ} 0 1 = cc in absurd (omega arith);
  last = λ e. let z : ◌≡◌ {A = ℕ} 0 1 = cc in absurd (omega arith);
  taken = λ e. record { unit = u; not_before = a; inside = b; marked = n };
}

pub begun : (m : List ℕ) (from to : ℕ) → from < to → get_or m (to - 1) 0 ≡ 0 → Passing m from to from
begun m from to h e = record {
  low = omega arith;
  near = omega arith;
  in_step = omega arith;
  fourth = λ u a b s. absurd (omega arith);
  last = e;
}

module _ (m : List ℕ) (from to i : ℕ) (p : Passing m from to i) where
  pub passed : i < to → get_or m i 0 ≡ 0 → (j : ℕ) → j ≡ i + 4 → Passing m from to j
  passed h e j d = record {
    low = omega (arith, p.low);
    near = omega arith;
    in_step = omega (arith, p.low, p.in_step);
    fourth = λ u a b s. ⊎_elim (λ (l : u < i). p.fourth u a l s) (λ (l : i ≤ u). let z : u ≡ i = omega (arith, p.low, p.in_step) in rw z e) (below_or_not u i);
    last = p.last;
  }

  pub all_passed : to ≤ i → Tested m from to true
  all_passed h = record {
    fourth = λ e u a b s. p.fourth u a (omega arith) s;
    last = λ e. p.last;
    taken = λ e. let z : ◌≡◌ {A = ℕ} 0 1 = cc in absurd (omega arith);
  }
