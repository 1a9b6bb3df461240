-- What a byte more makes of a number, and what it leaves of the bytes after it. Assumes nothing.
--     no_digit, too_large, one_more                    one byte more
--     stays_too_large                                  a number that is too large stays so
--     more, no_more                                    a byte and those after it
--     empty, begins, goes_on, ends_here, all_read      the reading loop
use Prim.Native.Nat.{ℕ, suc, ◌+◌, ◌*◌, ◌-◌, ◌/◌, ◌≤◌, ◌<◌}
use mathlib.Core.Path.{◌≡◌, refl, sym, ap, ◌∙◌}
use mathlib.Core.Bool.{Bool, true, false}
use mathlib.Core.Logic.{◌⊎◌, inl, inr}
use mathlib.Core.List.{List, [], ◌∷◌}
use mathlib.Core.Option.{Option, some, none}
use native.Mathlib.Omega.{arith}
use native.Mathlib.Numerals.{add-one}
use lib.Dec.{ltb}
use lib.ListN.{length, drop, get_or, drop_of_length-le}
use lib.Seq.{drop-cons}
use borrow.Author.Tests.{lt-ltb, le-ltb, le-leb, lt-leb, ltb-false}
use Rattle.std.proofs.lemmas.Bool.Decides.{nat_tests}
use Rattle.units.specs.Told.{pick}
use Rattle.std.specs.Prelude.{◌==◌, Some, None, SomeIff, Option as Maybe}
use Rattle.loading.specs.Decimal.{told, is_digit, with_digits, fitting, decimal_of}

low_is_none : (b : ℕ) → b < 48 → is_digit b ≡ false
unfolding is_digit
low_is_none b h = simp (lt-leb 48 b h)

high_is_none : (b : ℕ) → 57 < b → is_digit b ≡ false
unfolding is_digit
high_is_none b h = let g : 48 ≤ b = omega arith in simp (le-leb 48 b g, lt-leb b 57 h)

digit : (b : ℕ) → 48 ≤ b → b ≤ 57 → is_digit b ≡ true
unfolding is_digit
digit b g h = simp (le-leb 48 b g, le-leb b 57 h)

too_far : (m : ℕ) → 18446744073709551616 ≤ m → none ≡ fitting (some m)
unfolding fitting
too_far m h = simp (le-ltb m 18446744073709551616 h)

near : (m : ℕ) → m < 18446744073709551616 → some m ≡ fitting (some m)
unfolding fitting
near m h = simp (lt-ltb m 18446744073709551616 h)

-- a byte that is no digit, below 0 or past 9
pub no_digit : (n b : ℕ) → (b < 48) ⊎ ((48 ≤ b) × (57 < b)) → none ≡ fitting (with_digits n (b ∷ []))
unfolding with_digits fitting
no_digit n b (inl h) = simp (low_is_none b h)
no_digit n b (inr h) = simp (high_is_none b h.1)

-- a digit more: too large, or a number
pub too_large : (n b : ℕ) → 48 ≤ b → b ≤ 57 → 18446744073709551616 ≤ 10 * n + (b - 48) → none ≡ fitting (with_digits n (b ∷ []))
unfolding with_digits
too_large n b g h l = too_far (10 * n + (b - 48)) l ∙ simp (digit b g h)

pub one_more : (n b : ℕ) → 48 ≤ b → b ≤ 57 → (k : ℕ) → k ≡ 10 * n + (b - 48) → k < 18446744073709551616 → some k ≡ fitting (with_digits n (b ∷ []))
unfolding with_digits
one_more n b g h k e l = rw e (near (10 * n + (b - 48)) (omega arith) ∙ simp (digit b g h))

-- as the code multiplies and adds
pub mul_none : (n b : ℕ) → 48 ≤ b → b ≤ 57 → (n * 10 < 18446744073709551616 → ⊥) → (r : Maybe ℕ) → r ≡ None → told r ≡ fitting (with_digits n (b ∷ []))
mul_none n b g h l r e = rw e (too_large n b g h (omega arith))

pub added : (n b m d : ℕ) → 48 ≤ b → b ≤ 57 → m ≡ n * 10 → d ≡ b - 48 → (r : Maybe ℕ) → SomeIff r (m + d < 18446744073709551616) (m + d)
    → told r ≡ fitting (with_digits n (b ∷ []))
added n b m d g h e f None l = too_large n b g h (omega arith)
added n b m d g h e f (Some k) l = one_more n b g h k (omega (arith, l.1)) (omega (arith, l.0, l.1))

if_digit : (t : Bool) (x : Option ℕ) → none ≡ fitting x → none ≡ fitting (pick t x none)
unfolding fitting
if_digit true x e = e
if_digit false x e = refl

-- whatever bytes follow
stays_too_large : (m : ℕ) (s : List ℕ) → 18446744073709551616 ≤ m → none ≡ fitting (with_digits m s)
unfolding with_digits
stays_too_large m [] h = too_far m h
stays_too_large m (b ∷ s) h = if_digit (is_digit b) _ (stays_too_large (10 * m + (b - 48)) s (omega arith))

-- a byte and those after it: these go on from the number that it makes, and where it makes none there is none
number_by : (u : Bool) (k m : ℕ) → some m ≡ pick u (some k) none → m ≡ k
number_by true k m e = cc
number_by false k m e = let z : ◌≡◌ {A = ℕ} 0 1 = cc in omega arith

more_by : (t : Bool) (k m : ℕ) (s : List ℕ) → some m ≡ fitting (pick t (some k) none) → fitting (pick t (with_digits k s) none) ≡ fitting (with_digits m s)
unfolding fitting
more_by true k m s e = ap (λ (x : ℕ). fitting (with_digits x s)) (sym (number_by (ltb k 18446744073709551616) k m e))
more_by false k m s e = let z : ◌≡◌ {A = ℕ} 0 1 = cc in absurd (omega arith)

more : (n b m : ℕ) (s : List ℕ) → some m ≡ fitting (with_digits n (b ∷ [])) → fitting (with_digits n (b ∷ s)) ≡ fitting (with_digits m s)
unfolding with_digits
more n b m s e = more_by (is_digit b) (10 * n + (b - 48)) m s e

large_by : (u : Bool) (k : ℕ) → ltb k 18446744073709551616 ≡ u → none ≡ pick u (some k) none → 18446744073709551616 ≤ k
large_by true k t e = let z : ◌≡◌ {A = ℕ} 0 1 = cc in omega arith
large_by false k t e = ltb-false k 18446744073709551616 t

none_by : (t : Bool) (k : ℕ) (s : List ℕ) → none ≡ fitting (pick t (some k) none) → none ≡ fitting (pick t (with_digits k s) none)
unfolding fitting
none_by true k s e = stays_too_large k s (large_by (ltb k 18446744073709551616) k refl e)
none_by false k s e = refl

no_more : (n b : ℕ) (s : List ℕ) → none ≡ fitting (with_digits n (b ∷ [])) → none ≡ fitting (with_digits n (b ∷ s))
unfolding with_digits
no_more n b s e = none_by (is_digit b) (10 * n + (b - 48)) s e

-- the reading loop
pub empty : (s : List ℕ) → true ≡ (length s == 0) → none ≡ decimal_of s
unfolding decimal_of
empty [] e = refl
empty (b ∷ s) e = absurd (grind (arith, nat_tests))

pub begins : (s : List ℕ) → false ≡ (length s == 0) → decimal_of s ≡ fitting (with_digits 0 s)
unfolding decimal_of
begins [] e = let z : ◌≡◌ {A = ℕ} 0 1 = cc in absurd (omega arith)
begins (b ∷ s) e = refl

module _ (s : List ℕ) (i n : ℕ) (so : decimal_of s ≡ fitting (with_digits n (drop i s))) where
  -- the byte at i is read, and its answer goes on or ends the reading
  pub goes_on : (j m : ℕ) → i < length s → told (Some m) ≡ fitting (with_digits n (get_or s i 0 ∷ [])) → j ≡ i + 1 → decimal_of s ≡ fitting (with_digits m (drop j s))
  goes_on j m h e f =
      so ∙ ap (λ (x : List ℕ). fitting (with_digits n x)) (drop-cons s i 0 h)
      ∙ more n (get_or s i 0) m (drop (suc i) s) e
      ∙ ap (λ (x : ℕ). fitting (with_digits m (drop x s))) (sym (f ∙ add-one i))

  pub ends_here : i < length s → told None ≡ fitting (with_digits n (get_or s i 0 ∷ [])) → (r : Maybe ℕ) → r ≡ None → told r ≡ decimal_of s
  ends_here h e r k = rw k (no_more n (get_or s i 0) (drop (suc i) s) e ∙ ap (λ (x : List ℕ). fitting (with_digits n x)) (sym (drop-cons s i 0 h)) ∙ sym so)

  pub all_read : length s ≤ i → n < 18446744073709551616 → some n ≡ decimal_of s
  unfolding with_digits
  all_read h f = near n f ∙ ap (λ (x : List ℕ). fitting (with_digits n x)) (sym (drop_of_length-le s h)) ∙ sym so
