-- The order of names by any key is a lawful total order on names up to their keys. Assumes nothing.
--     number_less, number_equal, number_greater, number_opposite, number_equal→     the order of two numbers
--     order_opposite, order_equal, order_equal→, order_trans                  the order of two lists
--     by_total, by_antisymmetric, by_trans, by_equal, by-equal→                the order of two names by any key
--     by_opposite, by_same_left                                               the same the other way round, and to a third
--     high_is_greater                                                         a byte of 0x80 and above is greater than every ASCII byte
--     name_step, name_left_ends, name_right_ends, name_both_end               one turn of a comparison
use Rattle.std.proofs.Common.{ℕ, ◌+◌, ◌-◌, ◌≤◌, ◌<◌, ◌≡◌, refl, sym, ap, ap₂, ◌∙◌, Bool, true, false, ◌⊎◌, inl, inr, List, [], ◌∷◌, map, arith, add-one, leb, length, drop, get_or, drop_of_length-le, drop-cons}
use Rattle.std.proofs.Math.Decide.{dec_lt}
use borrow.Author.Tests.{lt-ltb, le-ltb, le-leb, lt-leb}
use Rattle.units.specs.Told.{pick}
use Rattle.std.specs.declared.cmp.Ordering.{Ordering}
use Rattle.std.specs.declared.cmp.Ordering.TheVariants.{Less, Equal, Greater}
use Rattle.layout_name.specs.Order.{raised, number_order, and_then, list_order, order_by, name_order}
use Rattle.layout_name.specs.inner.Order.{opposite}

-- two numbers are in one of three orders
pub data Three (x y : ℕ) : Type 0 where
  less : x < y → Three x y
  equal : x ≡ y → Three x y
  greater : y < x → Three x y

three_of_lem : (x y : ℕ) → Dec (x < y) → Dec (y < x) → Three x y
three_of_lem x y (yes h) d = less h
three_of_lem x y (no g) (yes h) = greater h
three_of_lem x y (no g) (no h) = equal (omega arith)

pub three : (x y : ℕ) → Three x y
three x y = three_of_lem x y (dec_lt x y) (dec_lt y x)

pub number_less : (x y : ℕ) → x < y → number_order x y ≡ Less
unfolding number_order
number_less x y h = simp (lt-ltb _ _ h)

pub number_greater : (x y : ℕ) → y < x → number_order x y ≡ Greater
unfolding number_order
number_greater x y h = let g : y ≤ x = omega arith in simp (le-ltb _ _ g, lt-ltb _ _ h)

pub number_equal : (x y : ℕ) → x ≡ y → number_order x y ≡ Equal
unfolding number_order
number_equal x y h =
    let g : y ≤ x = omega arith in
    let k : x ≤ y = omega arith in
    simp (le-ltb x y g, le-ltb y x k)

opposite_by : {x y : ℕ} → Three x y → number_order y x ≡ opposite (number_order x y)
opposite_by {x} {y} (less h) = number_greater y x h ∙ ap opposite (sym (number_less x y h))
opposite_by {x} {y} (equal h) = number_equal y x (sym h) ∙ ap opposite (sym (number_equal x y h))
opposite_by {x} {y} (greater h) = number_less y x h ∙ ap opposite (sym (number_greater x y h))

pub number_opposite : (x y : ℕ) → number_order y x ≡ opposite (number_order x y)
number_opposite x y = opposite_by (three x y)

-- what the order of two numbers says of them
equal_by : {x y : ℕ} → Three x y → number_order x y ≡ Equal → x ≡ y
equal_by {x} {y} (less h) e = let z : Less ≡ Equal = cc (number_less x y h) in let k : ◌≡◌ {A = ℕ} 0 1 = cc in omega arith
equal_by {x} {y} (equal h) e = h
equal_by {x} {y} (greater h) e = let z : Greater ≡ Equal = cc (number_greater x y h) in let k : ◌≡◌ {A = ℕ} 0 1 = cc in omega arith

pub number_equal→ : (x y : ℕ) → number_order x y ≡ Equal → x ≡ y
number_equal→ x y e = equal_by (three x y) e

less_by : {x y : ℕ} → Three x y → number_order x y ≡ Less → x < y
less_by {x} {y} (less h) e = h
less_by {x} {y} (equal h) e = let k : ◌≡◌ {A = ℕ} 0 1 = cc (number_equal x y h) in omega arith
less_by {x} {y} (greater h) e = let k : ◌≡◌ {A = ℕ} 0 1 = cc (number_greater x y h) in omega arith

pub number_less→ : (x y : ℕ) → number_order x y ≡ Less → x < y
number_less→ x y e = less_by (three x y) e

-- the order of two lists, the other way round
opposite_then : (o p : Ordering) → and_then (opposite o) (opposite p) ≡ opposite (and_then o p)
opposite_then Less p = refl
opposite_then Equal p = refl
opposite_then Greater p = refl

pub order_opposite : (a b : List ℕ) → list_order b a ≡ opposite (list_order a b)
unfolding list_order
order_opposite [] [] = refl
order_opposite [] (y ∷ ys) = refl
order_opposite (x ∷ xs) [] = refl
order_opposite (x ∷ xs) (y ∷ ys) =
    ap₂ and_then (number_opposite x y) (order_opposite xs ys) ∙ opposite_then (number_order x y) (list_order xs ys)

pub order_equal : (a : List ℕ) → list_order a a ≡ Equal
unfolding list_order
order_equal [] = refl
order_equal (x ∷ xs) = ap₂ and_then (number_equal x x refl) (order_equal xs)

-- what the first of two orders says, where both together say a thing
then_equal : (o p : Ordering) → and_then o p ≡ Equal → (o ≡ Equal) × (p ≡ Equal)
then_equal Less p e = let k : ◌≡◌ {A = ℕ} 0 1 = cc in absurd (omega arith)
then_equal Equal p e = (refl, e)
then_equal Greater p e = let k : ◌≡◌ {A = ℕ} 0 1 = cc in absurd (omega arith)

then_less : (o p : Ordering) → and_then o p ≡ Less → (o ≡ Less) ⊎ ((o ≡ Equal) × (p ≡ Less))
then_less Less p e = inl refl
then_less Equal p e = inr (refl, e)
then_less Greater p e = let k : ◌≡◌ {A = ℕ} 0 1 = cc in absurd (omega arith)

pub order_equal→ : (a b : List ℕ) → list_order a b ≡ Equal → a ≡ b
unfolding list_order
order_equal→ [] [] e = refl
order_equal→ [] (y ∷ ys) e = let k : ◌≡◌ {A = ℕ} 0 1 = cc in absurd (omega arith)
order_equal→ (x ∷ xs) [] e = let k : ◌≡◌ {A = ℕ} 0 1 = cc in absurd (omega arith)
order_equal→ (x ∷ xs) (y ∷ ys) e =
    let h = then_equal (number_order x y) (list_order xs ys) e in
    ap₂ ◌∷◌ (number_equal→ x y h.0) (order_equal→ xs ys h.1)

pub order_trans : (a b c : List ℕ) → list_order a b ≡ Less → list_order b c ≡ Less → list_order a c ≡ Less
unfolding list_order
order_trans [] [] c p q = let k : ◌≡◌ {A = ℕ} 0 1 = cc in absurd (omega arith)
order_trans [] (y ∷ ys) [] p q = let k : ◌≡◌ {A = ℕ} 0 1 = cc in absurd (omega arith)
order_trans [] (y ∷ ys) (z ∷ zs) p q = refl
order_trans (x ∷ xs) [] c p q = let k : ◌≡◌ {A = ℕ} 0 1 = cc in absurd (omega arith)
order_trans (x ∷ xs) (y ∷ ys) [] p q = let k : ◌≡◌ {A = ℕ} 0 1 = cc in absurd (omega arith)
order_trans (x ∷ xs) (y ∷ ys) (z ∷ zs) p q =
    go (then_less (number_order x y) (list_order xs ys) p) (then_less (number_order y z) (list_order ys zs) q) (order_trans xs ys zs)
  where
    first : x < z → and_then (number_order x z) (list_order xs zs) ≡ Less
    first h = rw (number_less x z h)

    go : (number_order x y ≡ Less) ⊎ ((number_order x y ≡ Equal) × (list_order xs ys ≡ Less)) →
        (number_order y z ≡ Less) ⊎ ((number_order y z ≡ Equal) × (list_order ys zs ≡ Less)) →
        (list_order xs ys ≡ Less → list_order ys zs ≡ Less → list_order xs zs ≡ Less) →
        and_then (number_order x z) (list_order xs zs) ≡ Less
    go (inl h) (inl k) ih = first (omega (arith, number_less→ x y h, number_less→ y z k))
    go (inl h) (inr k) ih = first (omega (arith, number_less→ x y h, number_equal→ y z k.0))
    go (inr h) (inl k) ih = first (omega (arith, number_equal→ x y h.0, number_less→ y z k))
    go (inr h) (inr k) ih = rw (number_equal x z (number_equal→ x y h.0 ∙ number_equal→ y z k.0)) (ih h.1 k.1)

one_of : (o p : Ordering) → p ≡ opposite o → (o ≡ Less) ⊎ ((o ≡ Equal) ⊎ (p ≡ Less))
one_of Less p e = inl refl
one_of Equal p e = inr (inl refl)
one_of Greater p e = inr (inr e)

-- the laws of the order of names by a key, which are those of the lists of keys
module _ (key : ℕ → ℕ) where
  -- the other way round, the opposite
  pub by_opposite : (a b : List ℕ) → order_by key b a ≡ opposite (order_by key a b)
  unfolding order_by
  by_opposite a b = order_opposite (map key a) (map key b)

  -- equal exactly where the lists of keys are: there, and nowhere else
  pub by_equal : (a b : List ℕ) → map key a ≡ map key b → order_by key a b ≡ Equal
  unfolding order_by
  by_equal a b e = rw e (order_equal (map key b))

  pub by-equal→ : (a b : List ℕ) → order_by key a b ≡ Equal → map key a ≡ map key b
  unfolding order_by
  by-equal→ a b e = order_equal→ (map key a) (map key b) e

  -- transitive
  pub by_trans : (a b c : List ℕ) → order_by key a b ≡ Less → order_by key b c ≡ Less → order_by key a c ≡ Less
  unfolding order_by
  by_trans a b c p q = order_trans (map key a) (map key b) (map key c) p q

  -- total: less, equal, or less the other way round
  pub by_total : (a b : List ℕ) → (order_by key a b ≡ Less) ⊎ ((order_by key a b ≡ Equal) ⊎ (order_by key b a ≡ Less))
  by_total a b = one_of (order_by key a b) (order_by key b a) (by_opposite a b)

  -- antisymmetric: never less both ways
  pub by_antisymmetric : (a b : List ℕ) → order_by key a b ≡ Less → order_by key b a ≡ Less → ⊥
  by_antisymmetric a b p q = let z : Less ≡ Greater = sym q ∙ by_opposite a b ∙ ap opposite p in let k : ◌≡◌ {A = ℕ} 0 1 = cc in omega arith

  -- names with equal keys stand alike to any third
  pub by_same_left : (a b c : List ℕ) → order_by key a b ≡ Equal → order_by key a c ≡ order_by key b c
  unfolding order_by
  by_same_left a b c e = rw (by-equal→ a b e)

raised_low : (b : ℕ) → b < 128 → raised b < 128
unfolding raised
raised_low b h = by (leb 97 b) (leb b 122)
  where
    by : (p q : Bool) → pick p (pick q (b - 32) b) b < 128
    by true true = omega arith
    by true false = h
    by false q = h

raised_high : (b : ℕ) → 128 ≤ b → raised b ≡ b
unfolding raised
raised_high b h =
    let g : 97 ≤ b = omega arith in
    let k : 122 < b = omega arith in
    simp (le-leb _ _ g, lt-leb _ _ k)

-- a byte of 0x80 and above is greater than every ASCII byte
pub high_is_greater : (a b : ℕ) → a < 128 → 128 ≤ b → number_order (raised a) (raised b) ≡ Less
high_is_greater a b h k = number_less (raised a) (raised b) (omega (arith, raised_low a h, raised_high b k))

-- one turn of a comparison: both names have a byte at i
pub name_step : (a b : List ℕ) (i : ℕ) → i < length a → i < length b →
    name_order (drop i a) (drop i b)
    ≡ and_then (number_order (raised (get_or a i 0)) (raised (get_or b i 0))) (name_order (drop (i + 1) a) (drop (i + 1) b))
unfolding name_order order_by list_order
name_step a b i h k = rw (add-one, drop-cons a i 0, drop-cons b i 0)

-- one of them ends at i
pub name_left_ends : (a b : List ℕ) (i : ℕ) → length a ≤ i → i < length b → name_order (drop i a) (drop i b) ≡ Less
unfolding name_order order_by list_order
name_left_ends a b i h k = rw (drop_of_length-le a h, drop-cons b i 0)

pub name_right_ends : (a b : List ℕ) (i : ℕ) → i < length a → length b ≤ i → name_order (drop i a) (drop i b) ≡ Greater
unfolding name_order order_by list_order
name_right_ends a b i h k = rw (drop_of_length-le b k, drop-cons a i 0)

pub name_both_end : (a b : List ℕ) (i : ℕ) → length a ≤ i → length b ≤ i → name_order (drop i a) (drop i b) ≡ Equal
unfolding name_order order_by list_order
name_both_end a b i h k = rw (drop_of_length-le a h, drop_of_length-le b k)
