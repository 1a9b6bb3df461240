-- The stack that the first places of a list hold, after a store at its height. Assumes nothing.
use Prim.Native.Nat.{ℕ, zero, suc, ◌+◌, ◌-◌, ◌≤◌, ◌<◌}
use mathlib.Core.Path.{◌≡◌, refl, ap₂}
use mathlib.Core.List.{List, ◌∷◌}
use native.Mathlib.Omega.{arith}
use native.Mathlib.Numerals.{add-one}
use lib.ListN.{length, set, get_or}
use lib.Seq.{get_or-set_same, get_or-set_other}
use Rattle.read_walk.specs.inner.Run.{stack_of}

-- a store at or above the height does not reach the stack
pub stack_below : (s : List ℕ) (t i v : ℕ) → t ≤ i → stack_of (set s i v) t ≡ stack_of s t
unfolding stack_of
stack_below s zero i v h = refl
stack_below s (suc t) i v h = ap₂ ◌∷◌ (get_or-set_other s i t v 0 (omega arith)) (stack_below s t i v (omega arith))

-- a store at the height is a push
pub stack_push : (s : List ℕ) (t v : ℕ) → t < length s → stack_of (set s t v) (t + 1) ≡ v ∷ stack_of s t
unfolding stack_of
stack_push s t v h = rw add-one (ap₂ ◌∷◌ (get_or-set_same s t v 0 h) (stack_below s t t v (omega arith)))

-- the top
pub stack_pop : (s : List ℕ) (t : ℕ) → 0 < t → stack_of s t ≡ get_or s (t - 1) 0 ∷ stack_of s (t - 1)
unfolding stack_of
stack_pop s zero h = absurd (omega arith)
stack_pop s (suc t) h = let e : suc t - 1 ≡ t = omega arith in rw e
