-- A test of each number below a bound (more of it in avl_arena/proofs/Tested.antt), and how many of them pass it. Assumes nothing.
use Prim.Native.Nat.{ℕ, zero, suc, ◌+◌, ◌≤◌, ◌<◌}
use native.Mathlib.Omega.{arith}
use native.Mathlib.Decide.{ℕ_discrete}
use mathlib.Core.Path.{◌≡◌, refl, sym, ap, ap₂, subst, ◌∙◌}
use mathlib.Core.Bool.{Bool, true, false, ◌&&◌}
use Rattle.units.specs.Told.{pick}
use Rattle.avl_arena.specs.Test.{every}
use Rattle.img_model.specs.Shares.{tally}

-- two tests that agree on each
pub every_same : (f g : ℕ → Bool) (m : ℕ) → ((j : ℕ) → j < m → f j ≡ g j) → every f m ≡ every g m
every_same f g zero h = refl
every_same f g (suc m) h = ap₂ ◌&&◌ (every_same f g m (λ j k. h j (omega arith))) (h m (omega arith))

-- none passes
pub tally_none : (f : ℕ → Bool) (m : ℕ) → ((j : ℕ) → j < m → f j ≡ false) → tally f m ≡ 0
tally_none f zero h = refl
tally_none f (suc m) h =
    ap (λ (b : Bool). pick b (suc (tally f m)) (tally f m)) (h m (omega arith)) ∙ tally_none f m (λ j k. h j (omega arith))

-- one more number, that passes or does not
pub tally_hit : (f : ℕ → Bool) (i : ℕ) → f i ≡ true → tally f (i + 1) ≡ tally f i + 1
tally_hit f i e =
    ap (tally f) {x = i + 1} {y = suc i} (omega arith) ∙ ap (λ (b : Bool). pick b (suc (tally f i)) (tally f i)) e ∙ omega arith

pub tally_miss : (f : ℕ → Bool) (i : ℕ) → f i ≡ false → tally f (i + 1) ≡ tally f i
tally_miss f i e = ap (tally f) {x = i + 1} {y = suc i} (omega arith) ∙ ap (λ (b : Bool). pick b (suc (tally f i)) (tally f i)) e

pick_grows : (b : Bool) (t : ℕ) → t ≤ pick b (suc t) t
pick_grows true t = omega arith
pick_grows false t = omega arith

-- a longer range has no fewer
pub tally_grows : (f : ℕ → Bool) (i m : ℕ) → i ≤ m → tally f i ≤ tally f m
tally_grows f i zero h = let z : i ≡ 0 = omega arith in subst (λ (v : ℕ). tally f v ≤ tally f 0) (sym z) (omega arith)
tally_grows f i (suc m) h = elim (ℕ_discrete i (suc m)) [
  | yes q ↦ subst (λ (v : ℕ). tally f v ≤ tally f (suc m)) (sym q) (omega arith)
  | no ne ↦ let p : tally f m ≤ pick (f m) (suc (tally f m)) (tally f m) = pick_grows (f m) (tally f m) in omega (arith, tally_grows f i m (omega arith), p)
]
