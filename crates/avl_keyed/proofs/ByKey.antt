-- A smaller key is a smaller name. Assumes nothing.
use Rattle.std.proofs.Common.{ℕ, suc, ◌+◌, ◌*◌, ◌-◌, ◌≤◌, ◌<◌, arith, mul-suc, mul-zero, mul-le-mul_left, ◌≡◌, refl, sym, ap, ap₂, subst, ◌∙◌, Bool, true, false, List, [], ◌∷◌, leb, get_or}
use Rattle.units.specs.Told.{pick}
use Rattle.std.specs.declared.cmp.Ordering.{Ordering}
use Rattle.std.specs.declared.cmp.Ordering.TheVariants.{Less, Greater}
use Rattle.layout_name.specs.Order.{raised, number_order, and_then, list_order}
use Rattle.layout_name.specs.inner.Order.{raised_copy, opposite}
use Rattle.layout_name.proofs.Laws.{Three, less, equal, greater, three, number_less, number_equal}
use Rattle.layout_name.proofs.Raised.{copy_at}
use Rattle.name_role.specs.Roles.{given_keys, given_order}
use Rattle.name_role.proofs.Roles.{given_opposite, given_listed, given_at_lem}
use Rattle.avl_keyed.specs.inner.Key.{key_of, key_for}

-- each is a byte
abbrev pub Bytes : List ℕ → Type 0
Bytes xs = (i : ℕ) → get_or xs i 0 < 256

abbrev head : List ℕ → ℕ
head [] = 0
head (x ∷ xs) = x

abbrev tail : List ℕ → List ℕ
tail [] = []
tail (x ∷ xs) = xs

tail_bytes : (xs : List ℕ) → Bytes xs → Bytes (tail xs)
tail_bytes [] h = h
tail_bytes (x ∷ xs) h = λ i. h (suc i)

-- K is below m, and a smaller K is a smaller list: then so it is with one byte more in front
module _ (m : ℕ) (K : List ℕ → ℕ) (nil : K [] ≡ 0) (low : (xs : List ℕ) → Bytes xs → K xs < m)
    (law : (xs ys : List ℕ) → Bytes xs → Bytes ys → K xs < K ys → list_order xs ys ≡ Less) where
  abbrev more : List ℕ → ℕ
  more xs = m * head xs + K (tail xs)

  more_nil : more [] ≡ 0
  more_nil = omega (arith, mul-zero m, nil)

  by_three : (x y : ℕ) (xs ys : List ℕ) → Bytes (x ∷ xs) → Bytes (y ∷ ys) → m * x + K xs < m * y + K ys → Three x y → and_then (number_order x y) (list_order xs ys) ≡ Less
  by_three x y xs ys a b h (less q) = ap (λ (o : Ordering). and_then o (list_order xs ys)) (number_less x y q)
  by_three x y xs ys a b h (equal e) =
      let f : m * x ≡ m * y = ap (λ (v : ℕ). m * v) e in
      ap₂ and_then (number_equal x y e) (law xs ys (λ i. a (suc i)) (λ i. b (suc i)) (omega arith))
  by_three x y xs ys a b h (greater q) =
      let f : m * suc y ≤ m * x = mul-le-mul_left m q in
      absurd (omega (arith, mul-suc m y, low ys (λ i. b (suc i))))

  pub more_law : (xs ys : List ℕ) → Bytes xs → Bytes ys → more xs < more ys → list_order xs ys ≡ Less
  unfolding list_order
  more_law [] [] a b h = absurd (omega arith)
  more_law [] (y ∷ ys) a b h = refl
  more_law (x ∷ xs) [] a b h = absurd (omega (arith, more_nil))
  more_law (x ∷ xs) (y ∷ ys) a b h = by_three x y xs ys a b h (three x y)

-- one byte, two, three, four
head_law : (xs ys : List ℕ) → Bytes xs → Bytes ys → head xs < head ys → list_order xs ys ≡ Less
unfolding list_order
head_law [] [] a b h = absurd (omega arith)
head_law [] (y ∷ ys) a b h = refl
head_law (x ∷ xs) [] a b h = absurd (omega arith)
head_law (x ∷ xs) (y ∷ ys) a b h = ap (λ (o : Ordering). and_then o (list_order xs ys)) (number_less x y h)

head_low : (xs : List ℕ) → Bytes xs → head xs < 256
head_low [] h = omega arith
head_low (x ∷ xs) h = h 0

abbrev two : List ℕ → ℕ
two xs = 256 * head xs + head (tail xs)

abbrev three_of_lem : List ℕ → ℕ
three_of_lem xs = 65536 * head xs + two (tail xs)

abbrev four : List ℕ → ℕ
four xs = 16777216 * head xs + three_of_lem (tail xs)

two_low : (xs : List ℕ) → Bytes xs → two xs < 65536
two_low xs h = omega (arith, head_low xs h, head_low (tail xs) (tail_bytes xs h))

three_low : (xs : List ℕ) → Bytes xs → three_of_lem xs < 16777216
three_low xs h = omega (arith, head_low xs h, two_low (tail xs) (tail_bytes xs h))

two_law : (xs ys : List ℕ) → Bytes xs → Bytes ys → two xs < two ys → list_order xs ys ≡ Less
two_law = more_law 256 head refl head_low head_law

three_law : (xs ys : List ℕ) → Bytes xs → Bytes ys → three_of_lem xs < three_of_lem ys → list_order xs ys ≡ Less
three_law = more_law 65536 two refl two_low two_law

four_law : (xs ys : List ℕ) → Bytes xs → Bytes ys → four xs < four ys → list_order xs ys ≡ Less
four_law = more_law 16777216 three_of_lem refl three_low three_law

head_is : (xs : List ℕ) → head xs ≡ get_or xs 0 0
head_is [] = refl
head_is (x ∷ xs) = refl

tail_is : (xs : List ℕ) (i : ℕ) → get_or (tail xs) i 0 ≡ get_or xs (suc i) 0
tail_is [] i = refl
tail_is (x ∷ xs) i = refl

four_is : (xs : List ℕ) → four xs ≡ key_of xs
four_is xs =
    let a = head_is xs in
    let b = head_is (tail xs) ∙ tail_is xs 0 in
    let c = head_is (tail (tail xs)) ∙ tail_is (tail xs) 0 ∙ tail_is xs 1 in
    let d = head_is (tail (tail (tail xs))) ∙ tail_is (tail (tail xs)) 0 ∙ tail_is (tail xs) 1 ∙ tail_is xs 2 in
    omega (arith, a, b, c, d)

-- the raised copy has the name's keys
copied : (a : List ℕ) (i : ℕ) → get_or (raised_copy a) i 0 ≡ get_or (given_keys a) i 0
copied a i = copy_at a i ∙ sym (given_at_lem a i)

key_is : (a : List ℕ) → key_for a ≡ four (given_keys a)
unfolding key_for
key_is a = omega (arith, four_is (given_keys a), copied a 0, copied a 1, copied a 2, copied a 3)

raised_low : (x : ℕ) → x < 256 → raised x < 256
unfolding raised
raised_low x h = low (leb 97 x) (leb x 122)
  where
    low : (p q : Bool) → pick p (pick q (x - 32) x) x < 256
    low true true = omega arith
    low true false = h
    low false q = h

key_bytes : (a : List ℕ) → Bytes a → Bytes (given_keys a)
key_bytes a h = λ i. subst (λ (v : ℕ). v < 256) (sym (given_at_lem a i)) (raised_low (get_or a i 0) (h i))

module _ (a b : List ℕ) (ba : Bytes a) (bb : Bytes b) where
  pub key_less : key_for a < key_for b → given_order a b ≡ Less
  key_less h = given_listed a b ∙ four_law (given_keys a) (given_keys b) (key_bytes a ba) (key_bytes b bb) (omega (arith, key_is a, key_is b))

pub key_greater : (a b : List ℕ) → Bytes a → Bytes b → key_for b < key_for a → given_order a b ≡ Greater
key_greater a b ba bb h = given_opposite b a ∙ ap opposite (key_less b a bb ba h)
