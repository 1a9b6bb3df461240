-- Fourteen bytes compared as three numbers of four bytes and two bytes more. Assumes nothing.
use Rattle.std.proofs.Common.{ℕ, zero, suc, ◌+◌, ◌*◌, ◌<◌, ◌≡◌, refl, sym, ap, ◌∙◌, Bool, true, false, ◌&&◌, List, arith, eqb, length, get_or, drop, drop_of_length-le, drop-cons}
use borrow.Author.Tests.{eqb-true, eqb-false, eq-eqb, ne_eqb}
use Rattle.layout_bytes.specs.Bytes.{all, u32_at}

-- the tests of n bytes, from place i on
unfoldable chain : ℕ → List ℕ → ℕ → ℕ → Bool
chain b s zero i = true
chain b s (suc n) i = eqb (get_or s i 0) b && chain b s n (suc i)

chain-all : (b : ℕ) (s : List ℕ) (n i : ℕ) → i + n ≡ length s → all b (drop i s) ≡ chain b s n i
unfolding chain all
chain-all b s zero i e = rw (drop_of_length-le s {i = i} (omega arith))
chain-all b s (suc n) i e = rw (drop-cons s i 0 (omega arith)) (ap (λ (c : Bool). eqb (get_or s i 0) b && c) (chain-all b s n (suc i) (omega arith)))

-- four bytes are b, exactly where their number is that of four times b
module _ (b x y z u : ℕ) (hb : b < 256) (hx : x < 256) (hy : y < 256) (hz : z < 256) (hu : u < 256) where
  four_by : (p q r s : Bool) → eqb x b ≡ p → eqb y b ≡ q → eqb z b ≡ r → eqb u b ≡ s →
      eqb (x + 256 * y + 65536 * (z + 256 * u)) (b + 256 * b + 65536 * (b + 256 * b)) ≡ (p && (q && (r && s)))
  four_by false q r s ex ey ez eu = ne_eqb _ _ (λ k. eqb-false x b ex (omega arith))
  four_by true false r s ex ey ez eu = ne_eqb _ _ (λ k. eqb-false y b ey (omega arith))
  four_by true true false s ex ey ez eu = ne_eqb _ _ (λ k. eqb-false z b ez (omega arith))
  four_by true true true false ex ey ez eu = ne_eqb _ _ (λ k. eqb-false u b eu (omega arith))
  four_by true true true true ex ey ez eu = eq-eqb _ _ (omega (arith, eqb-true x b ex, eqb-true y b ey, eqb-true z b ez, eqb-true u b eu))

  four : eqb (x + 256 * y + 65536 * (z + 256 * u)) (b + 256 * b + 65536 * (b + 256 * b)) ≡ (eqb x b && (eqb y b && (eqb z b && eqb u b)))
  four = four_by (eqb x b) (eqb y b) (eqb z b) (eqb u b) refl refl refl refl

-- the tests by fours are the tests one by one
regroup : (a b c d e f g h i j k l m n : Bool) →
    (a && (b && (c && d))) && ((e && (f && (g && h))) && ((i && (j && (k && l))) && (m && n)))
    ≡ (a && (b && (c && (d && (e && (f && (g && (h && (i && (j && (k && (l && (m && (n && true))))))))))))))
regroup false b c d e f g h i j k l m n = refl
regroup true false c d e f g h i j k l m n = refl
regroup true true false d e f g h i j k l m n = refl
regroup true true true false e f g h i j k l m n = refl
regroup true true true true false f g h i j k l m n = refl
regroup true true true true true false g h i j k l m n = refl
regroup true true true true true true false h i j k l m n = refl
regroup true true true true true true true false i j k l m n = refl
regroup true true true true true true true true false j k l m n = refl
regroup true true true true true true true true true false k l m n = refl
regroup true true true true true true true true true true false l m n = refl
regroup true true true true true true true true true true true false m n = refl
regroup true true true true true true true true true true true true false n = refl
regroup true true true true true true true true true true true true true false = refl
regroup true true true true true true true true true true true true true true = refl

-- the three numbers p, q and o, and the number w of four times b, as the code has them
module _ (s : List ℕ) (long : length s ≡ 14) (bytes : (i : ℕ) → get_or s i 0 < 256) (b : ℕ) (hb : b < 256) (p q o w : ℕ) (p-is : p ≡ u32_at s 0) (q-is : q ≡ u32_at s 4)
    (o_is : o ≡ u32_at s 8) (w_is : w ≡ b + 256 * b + 65536 * (b + 256 * b)) where
  by_four : (i j k l : ℕ) → eqb (get_or s i 0 + 256 * get_or s j 0 + 65536 * (get_or s k 0 + 256 * get_or s l 0)) (b + 256 * b + 65536 * (b + 256 * b))
      ≡ (eqb (get_or s i 0) b && (eqb (get_or s j 0) b && (eqb (get_or s k 0) b && eqb (get_or s l 0) b)))
  by_four i j k l = four b (get_or s i 0) (get_or s j 0) (get_or s k 0) (get_or s l 0) hb (bytes i) (bytes j) (bytes k) (bytes l)

  pub all_by_words : (eqb p w && (eqb q w && (eqb o w && (eqb (get_or s 12 0) b && eqb (get_or s 13 0) b)))) ≡ all b s
  unfolding chain
  all_by_words =
      rw (p-is, q-is, o_is, w_is, by_four 0 1 2 3, by_four 4 5 6 7, by_four 8 9 10 11)
      (regroup (eqb (get_or s 0 0) b) (eqb (get_or s 1 0) b) (eqb (get_or s 2 0) b) (eqb (get_or s 3 0) b) (eqb (get_or s 4 0) b) (eqb (get_or s 5 0) b)
      (eqb (get_or s 6 0) b) (eqb (get_or s 7 0) b) (eqb (get_or s 8 0) b) (eqb (get_or s 9 0) b) (eqb (get_or s 10 0) b) (eqb (get_or s 11 0) b) (eqb (get_or s 12 0) b)
      (eqb (get_or s 13 0) b) ∙ sym (chain-all b s 14 0 (omega arith)))
