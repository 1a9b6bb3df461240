-- The last of fourteen bytes tells which of the two tests for no entry is needed. Assumes nothing.
use Rattle.std.proofs.Common.{ℕ, zero, suc, ◌<◌, ◌≡◌, sym, ap, ◌∙◌, Bool, false, ◌&&◌, List, [], ◌∷◌, arith, eqb, length, get_or}
use Rattle.std.proofs.Math.Bool.{and-false, or-false}
use borrow.Author.Tests.{ne_eqb}
use Rattle.layout_bytes.specs.Bytes.{all}
use Rattle.layout_node.specs.Header.{is_blank}

-- a byte that is not b: not every byte is b
pub not_all : (b : ℕ) (h : List ℕ) (i : ℕ) → i < length h → (get_or h i 0 ≡ b → ⊥) → all b h ≡ false
unfolding all
not_all b [] i k n = absurd (omega arith)
not_all b (x ∷ xs) zero k n = rw (ne_eqb x b n)
not_all b (x ∷ xs) (suc i) k n = ap (λ (c : Bool). eqb x b && c) (not_all b xs i (omega arith) n) ∙ and-false (eqb x b)

module _ (h : List ℕ) (long : length h ≡ 14) where
  pub ones : (r : Bool) → r ≡ all 255 h → get_or h 13 0 ≡ 255 → r ≡ is_blank h
  unfolding is_blank
  ones r e f = rw (not_all 0 h 13 (omega arith) (λ g. omega arith), ← e) (sym (or-false r))

  pub zeros : (r : Bool) → r ≡ all 0 h → get_or h 13 0 ≡ 0 → r ≡ is_blank h
  unfolding is_blank
  zeros r e f = rw (not_all 255 h 13 (omega arith) (λ g. omega arith)) e

  pub neither : (get_or h 13 0 ≡ 255 → ⊥) → (get_or h 13 0 ≡ 0 → ⊥) → false ≡ is_blank h
  unfolding is_blank
  neither m n = rw (not_all 255 h 13 (omega arith) m, not_all 0 h 13 (omega arith) n)
