-- Tests and what they say: of two tests both, of a list with one more at its end, of an entry clear of another.
-- Assumes nothing.
use Prim.Native.Nat.{ℕ, ◌≤◌, ◌<◌}
use mathlib.Core.Path.{◌≡◌, refl, ap, ◌∙◌}
use mathlib.Core.Bool.{Bool, true, false, ◌&&◌, and-eq-true_iff}
use mathlib.Core.Logic.{◌⊎◌, inl, inr}
use mathlib.Core.List.{List, [], ◌∷◌, ◌++◌}
use mathlib.Core.Option.{Option}
use native.Mathlib.Omega.{arith}
use borrow.Author.Tests.{eq-eqb, ne_eqb, le-leb, lt-leb, leb-true}
use lib.Dec.{leb, eqb}
use Rattle.units.specs.Told.{Told, pick}
use Rattle.read_entry.specs.declared.Placed.{Placed}
use Rattle.read_entry.specs.Links.{is_in}
use Rattle.strict_rule.specs.Strict.{end_by, clear}

-- a test that is not true is false
pub not_true_is_false : (b : Bool) → (b ≡ true → ⊥) → b ≡ false
not_true_is_false true n = absurd (n refl)
not_true_is_false false n = refl

pub true_not_false : {b : Bool} → b ≡ true → b ≡ false → ⊥
true_not_false p q = let z : ◌≡◌ {A = ℕ} 0 1 = cc in omega arith

pub both_first : (a b : Bool) → (a && b) ≡ true → a ≡ true
both_first a b e = ((and-eq-true_iff a b).0 e).0

pub both_second : (a b : Bool) → (a && b) ≡ true → b ≡ true
both_second a b e = ((and-eq-true_iff a b).0 e).1

-- a list with one more at its end
pub is_in_last : (u x : ℕ) (xs : List ℕ) → u ≡ x → is_in u (xs ++ (x ∷ [])) ≡ true
unfolding is_in
is_in_last u x [] e = rw (eq-eqb u x e)
is_in_last u x (y ∷ ys) e = ap (pick (eqb u y) true) (is_in_last u x ys e) ∙ always (eqb u y)
  where
    always : (t : Bool) → pick t true true ≡ true
    always true = refl
    always false = refl

pub is_in_other : (u x : ℕ) (xs : List ℕ) → (u ≡ x → ⊥) → is_in u (xs ++ (x ∷ [])) ≡ is_in u xs
unfolding is_in
is_in_other u x [] n = rw (ne_eqb u x n)
is_in_other u x (y ∷ ys) n = ap (pick (eqb u y) true) (is_in_other u x ys n)

module _ (f : ℕ → Told (Option Placed)) where
  clear_by : (e o p q : ℕ) (t : Bool) → leb e p ≡ t → pick t true (leb q o) ≡ true → (e ≤ p) ⊎ (q ≤ o)
  clear_by e o p q true d h = inl (leb-true e p d)
  clear_by e o p q false d h = inr (leb-true q o h)

  -- clear, in numbers
  pub clear_says : (o e x : ℕ) → clear f o e x ≡ true → (e ≤ x) ⊎ (end_by (f x) x ≤ o)
  clear_says o e x h = clear_by e o x (end_by (f x) x) (leb e x) refl h

  pub is_clear_lem : (o e x : ℕ) → (e ≤ x) ⊎ (end_by (f x) x ≤ o) → clear f o e x ≡ true
  is_clear_lem o e x (inl h) = rw (le-leb e x h)
  is_clear_lem o e x (inr h) = after (leb e x)
    where
      after : (t : Bool) → pick t true (leb (end_by (f x) x) o) ≡ true
      after true = refl
      after false = le-leb _ _ h

  pub not_clear : (o e x : ℕ) → x < e → o < end_by (f x) x → clear f o e x ≡ false
  not_clear o e x a b = rw (lt-leb e x a) (lt-leb _ _ b)
