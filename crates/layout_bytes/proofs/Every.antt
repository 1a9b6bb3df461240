-- Whether every byte is b, from what a search for another byte tells. Assumes nothing.
use Rattle.std.proofs.Common.{◌≡◌, ℕ, zero, suc, ◌<◌, Bool, true, false, ◌&&◌, List, [], ◌∷◌, length, MatchBool, eqb, refl, sym, ap, ◌∙◌, arith}
use Rattle.std.specs.List.{AllWithin, HoldsAt}
use borrow.Author.Tests.{eq-eqb, ne_eqb}
use Rattle.std.proofs.Math.Bool.{and-false}
use Rattle.layout_bytes.specs.Bytes.{all}

none_other : (b : ℕ) (s : List ℕ) → AllWithin (λ x. x ≡ b) s 0 (length s) → all b s ≡ true
unfolding all
none_other b [] h = refl
none_other b (x ∷ xs) h = rw (eq-eqb x b (h 0 0 (omega arith) (omega arith))) (none_other b xs (λ k d l m. h (suc k) d (omega arith) (omega arith)))

some_other : (b : ℕ) (s : List ℕ) (k : ℕ) → k < length s → HoldsAt (λ x. x ≡ b → ⊥) s k → all b s ≡ false
unfolding all
some_other b [] k l h = absurd (omega arith)
some_other b (x ∷ xs) zero l h = rw (ne_eqb x b (h 0))
some_other b (x ∷ xs) (suc k) l h = ap (λ (c : Bool). eqb x b && c) (some_other b xs k (omega arith) (λ d. h d)) ∙ and-false (eqb x b)

pub every : (b : ℕ) (s : List ℕ) (r : Bool) → MatchBool r (AllWithin (λ x. x ≡ b) s 0 (length s)) ((k : ℕ) × (k < length s) × HoldsAt (λ x. x ≡ b → ⊥) s k)
    → r ≡ all b s
every b s true h = sym (none_other b s h)
every b s false h = sym (some_other b s h.0 h.1 h.2)
