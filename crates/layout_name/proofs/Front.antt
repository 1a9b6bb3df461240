-- Bytes that are the same as they stand, one and four: what counting the same front of two names is made of. Assumes nothing.
use Rattle.std.proofs.Common.{◌≡◌, ℕ, ◌+◌, ◌<◌, ◌≤◌, Bool, true, false, ◌&&◌, List, length, get_or, drop, eqb, refl, sym, ◌∙◌, arith}
use borrow.Author.Tests.{eqb-true}
use Rattle.layout_name.specs.Order.{name_order}
use Rattle.layout_name.proofs.Turn.{same_byte}

-- what each of two tests is where both hold
and_l : (x y : Bool) → (x && y) ≡ true → x ≡ true
and_l true y e = refl
and_l false y e = e

and_r : (x y : Bool) → (x && y) ≡ true → y ≡ true
and_r true y e = e
and_r false y e = cc

-- so far the names are alike, and the next four bytes are the same
module _ (a b : List ℕ) where
  one : (i j : ℕ) → name_order a b ≡ name_order (drop i a) (drop i b) → j ≡ i + 1 → j ≤ length a → j ≤ length b → eqb (get_or a i 0) (get_or b i 0) ≡ true
      → name_order a b ≡ name_order (drop j a) (drop j b)
  one i j so_far ej h k e = rw ej (same_byte a b i so_far (omega arith) (omega arith) (eqb-true _ _ e))

  pub four : (i j : ℕ) → name_order a b ≡ name_order (drop i a) (drop i b) → j ≡ i + 4 → j ≤ length a → j ≤ length b → (r : Bool)
      → r ≡ ((eqb (get_or a i 0) (get_or b i 0) && eqb (get_or a (i + 1) 0) (get_or b (i + 1) 0)) && eqb (get_or a (i + 2) 0) (get_or b (i + 2) 0)) && eqb (get_or a (i + 3) 0) (get_or b (i + 3) 0)
      → r ≡ true → name_order a b ≡ name_order (drop j a) (drop j b)
  four i j so_far ej h k r is e =
      let e₄ = sym is ∙ e in
      let e₃ = and_l _ (eqb (get_or a (i + 3) 0) (get_or b (i + 3) 0)) e₄ in
      let e₂ = and_l _ (eqb (get_or a (i + 2) 0) (get_or b (i + 2) 0)) e₃ in
      let in_a : i + 3 < length a = omega arith in
      let in_b : i + 3 < length b = omega arith in
      let s₁ : name_order a b ≡ name_order (drop (i + 1) a) (drop (i + 1) b) = one i (i + 1) so_far refl (omega arith) (omega arith) (and_l _ _ e₂) in
      let s₂ : name_order a b ≡ name_order (drop (i + 2) a) (drop (i + 2) b) = one (i + 1) (i + 2) s₁ (omega arith) (omega arith) (omega arith) (and_r _ _ e₂) in
      let s₃ : name_order a b ≡ name_order (drop (i + 3) a) (drop (i + 3) b) = one (i + 2) (i + 3) s₂ (omega arith) (omega arith) (omega arith) (and_r _ _ e₃) in
      one (i + 3) j s₃ (omega arith) (omega arith) (omega arith) (and_r _ _ e₄)
