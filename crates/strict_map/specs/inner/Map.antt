-- A map of units, as a list of marks: what the test of a run of units says, and what marking a run leaves. Assumes
-- nothing.
use Rattle.std.specs.Prelude.{ℕ, ◌-◌, ◌%◌, ◌≤◌, ◌<◌, ◌≡◌, Bool, true, false, ◌⊎◌, List, length, get_or}

-- a unit of a run that is marked
pub record Taken (m : List ℕ) (from to : ℕ) : Type 0 where
  pub unit : ℕ
  pub not_before : from ≤ unit
  pub inside : unit < to
  pub marked : get_or m unit 0 ≡ 0 → ⊥

-- the test of the units from `from` to before `to`: where it says yes, every fourth from the first and the last one
-- are free; where it says no, one is marked
pub record Tested (m : List ℕ) (from to : ℕ) (r : Bool) : Type 0 where
  pub fourth : r ≡ true → (u : ℕ) → from ≤ u → u < to → (u - from) % 4 ≡ 0 → get_or m u 0 ≡ 0
  pub last : r ≡ true → get_or m (to - 1) 0 ≡ 0
  pub taken : r ≡ false → Taken m from to

-- marked from `from` to before `to`: 1 at the first unit, 2 at those after it, and all else as it was
pub record Marked (m : List ℕ) (from to : ℕ) (after : List ℕ) : Type 0 where
  pub kept : length after ≡ length m
  pub first : get_or after from 0 ≡ 1
  pub others : (u : ℕ) → from < u → u < to → get_or after u 0 ≡ 2
  pub beside : (u : ℕ) → (u < from) ⊎ (to ≤ u) → get_or after u 0 ≡ get_or m u 0
