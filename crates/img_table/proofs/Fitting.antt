-- The first size that four bytes do not hold: step by step, and what it is. Assumes nothing.
use Rattle.std.proofs.Common.{ℕ, zero, suc, ◌+◌, ◌-◌, ◌≤◌, ◌<◌, ◌≡◌, refl, sym, ap, subst, ◌∙◌, Bool, true, false, List, ltb, length, get_or, set, arith}
use native.Mathlib.Decide.{ℕ_discrete}
use lib.Seq.{get_or-set_same, get_or-set_other}
use borrow.Author.Tests.{lt-ltb, le-ltb, ltb-true, ltb-false}
use Rattle.units.specs.Told.{pick}
use Rattle.img_table.specs.inner.Arranging.{fitting}

module _ (f : ℕ → ℕ) where
  turn : (n i : ℕ) → i < n → fitting f (n - i) i ≡ pick (ltb 4294967295 (f i)) i (fitting f (n - (i + 1)) (i + 1))
  unfolding fitting
  turn n i h = ap (λ (k : ℕ). fitting f k i) {x = n - i} {y = suc (n - (i + 1))} (omega arith)

  -- the one from which it is looked for is too large
  pub stops_here : (n i : ℕ) → i < n → 4294967295 < f i → fitting f (n - i) i ≡ i
  stops_here n i h k = turn n i h ∙ rw (lt-ltb 4294967295 (f i) k)

  -- `so_far`: those before i fit
  module _ (n i : ℕ) (so_far : fitting f n 0 ≡ fitting f (n - i) i) where
    pub fit_next : (j z : ℕ) → j ≡ i + 1 → i < n → z ≡ f i → z ≤ 4294967295 → fitting f n 0 ≡ fitting f (n - j) j
    fit_next j z ej h e k = so_far ∙ turn n i h ∙ rw (ej, le-ltb 4294967295 (f i) (omega arith))

    pub fit_stop : (z : ℕ) → i < n → z ≡ f i → 4294967295 < z → i ≡ fitting f n 0
    fit_stop z h e k = sym (so_far ∙ stops_here n i h (omega arith))

    pub fit_last : n ≤ i → i ≤ n → n ≡ fitting f n 0
    unfolding fitting
    fit_last h k = let e : n ≡ i = omega arith in e ∙ sym (so_far ∙ ap (λ (k : ℕ). fitting f k i) {x = n - i} {y = 0} (omega arith))

  low_by : (b : Bool) (k i j : ℕ) → ltb 4294967295 (f i) ≡ b → ((j : ℕ) → i + 1 ≤ j → j < fitting f k (i + 1) → f j ≤ 4294967295)
      → i ≤ j → j < pick b i (fitting f k (i + 1)) → f j ≤ 4294967295
  low_by true k i j e g p q = absurd (omega arith)
  low_by false k i j e g p q = elim (ℕ_discrete i j) [
    | yes s ↦ subst (λ (v : ℕ). f v ≤ 4294967295) s (ltb-false _ _ e)
    | no s ↦ g j (omega (arith, s)) q
  ]

  -- those before it fit
  pub fit_low : (k i j : ℕ) → i ≤ j → j < fitting f k i → f j ≤ 4294967295
  unfolding fitting
  fit_low zero i j p q = absurd (omega arith)
  fit_low (suc k) i j p q = low_by (ltb 4294967295 (f i)) k i j refl (fit_low k (i + 1)) p q

  to_by : (b : Bool) (k i : ℕ) → fitting f k (i + 1) ≤ i + 1 + k → pick b i (fitting f k (i + 1)) ≤ i + suc k
  to_by true k i h = omega arith
  to_by false k i h = omega arith

  -- it is not past the last
  pub fit_to : (k i : ℕ) → fitting f k i ≤ i + k
  unfolding fitting
  fit_to zero i = omega arith
  fit_to (suc k) i = to_by (ltb 4294967295 (f i)) k i (fit_to k (i + 1))

  large_by : (b : Bool) (k i : ℕ) → ltb 4294967295 (f i) ≡ b → (fitting f k (i + 1) < i + 1 + k → 4294967295 < f (fitting f k (i + 1)))
      → pick b i (fitting f k (i + 1)) < i + suc k → 4294967295 < f (pick b i (fitting f k (i + 1)))
  large_by true k i e g h = ltb-true _ _ e
  large_by false k i e g h = g (omega arith)

  -- and where it is one of them, it does not fit
  pub fit_large : (k i : ℕ) → fitting f k i < i + k → 4294967295 < f (fitting f k i)
  unfolding fitting
  fit_large zero i h = absurd (omega arith)
  fit_large (suc k) i h = large_by (ltb 4294967295 (f i)) k i refl (fit_large k (i + 1)) h

  -- a size is stored in its place
  pub stored : (xs : List ℕ) (i j z w : ℕ) → ((k : ℕ) → k < i → get_or xs k 0 ≡ f k) → j ≡ i + 1 → i < length xs → z ≡ f i → w ≡ z → (k : ℕ) → k < j → get_or (set xs i w) k 0 ≡ f k
  stored xs i j z w g ej h e ew k q = elim (ℕ_discrete k i) [
    | yes s ↦ subst (λ (v : ℕ). get_or (set xs i w) v 0 ≡ f v) (sym s) (get_or-set_same xs i w 0 h ∙ ew ∙ e)
    | no s ↦ get_or-set_other xs i k w 0 s ∙ g k (omega (arith, s))
  ]
