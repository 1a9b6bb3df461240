-- A map of n zeros is long enough for a table of up to 4 n bytes, and one of 65,604 for every table. Assumes nothing.
use Prim.Native.Nat.{ℕ, ◌*◌, ◌≤◌}
use native.Mathlib.Omega.{arith}
use Rattle.strict.specs.inner.Run.{Covers}

pub made_for : (size n : ℕ) → size ≤ 4 * n → Covers size n
made_for size n h = record { unit = λ u a e. omega arith; end = λ e a l. omega arith }

pub made_for_all : (size n : ℕ) → 65604 ≤ n → Covers size n
made_for_all size n h = record { unit = λ u a e. omega arith; end = λ e a l. omega arith }
