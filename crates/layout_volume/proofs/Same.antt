-- Two lists compared place by place, and the mark found at a place. Assumes nothing.
use Rattle.std.proofs.Common.{◌≡◌, ℕ, ◌<◌, ◌-◌, Bool, true, false, ◌&&◌, List, [], ◌∷◌, length, take, drop, eqb, leb, refl, sym, ap, ap₂, ◌∙◌, arith, length-drop}
use Rattle.std.proofs.Math.ListN.{length-take}
use Rattle.std.proofs.Math.Seq.{take-length}
use lib.Pointwise.{pointwise}
use Rattle.std.proofs.Math.Bool.{and-false}
use borrow.Author.Tests.{eq-eqb, ne_eqb, eqb-true, eqb-false, lt-leb}
use Rattle.layout_volume.specs.Descriptor.{mark, same_list}

-- a list is the same as itself
pub same_self : (p : List ℕ) → same_list p p ≡ true
unfolding same_list
same_self [] = refl
same_self (x ∷ xs) = rw (eq-eqb x x refl) (same_self xs)

-- a shorter list is another
pub shorter : (p m : List ℕ) → length p < length m → same_list p m ≡ false
unfolding same_list
shorter p [] h = absurd (omega arith)
shorter [] (y ∷ ys) h = refl
shorter (x ∷ xs) (y ∷ ys) h = ap (λ (c : Bool). eqb x y && c) (shorter xs ys (omega arith)) ∙ and-false (eqb x y)

-- two numbers compare the same either way round
flipped : (x y : ℕ) (b : Bool) → eqb x y ≡ b → eqb y x ≡ b
flipped x y true e = eq-eqb y x (sym (eqb-true x y e))
flipped x y false e = ne_eqb y x (λ k. eqb-false x y e (sym k))

-- what `==` answers at slices, the second first
pub pairwise : (m p : List ℕ) → pointwise eqb m p ≡ same_list p m
unfolding same_list
pairwise [] [] = refl
pairwise [] (x ∷ xs) = refl
pairwise (y ∷ ys) [] = refl
pairwise (y ∷ ys) (x ∷ xs) = ap₂ ◌&&◌ (flipped x y (eqb x y) refl) (pairwise ys xs)

-- the mark at a place of a list: by a comparison of twenty bytes, and where the list ends before the place
module _ (s : List ℕ) (at : ℕ) where
  pub compared : (r : Bool) → r ≡ pointwise eqb mark (take 20 (take (length s - at) (drop at s))) → r ≡ same_list (take 20 (drop at s)) mark
  compared r e =
      e ∙ ap (λ (l : List ℕ). pointwise eqb mark (take 20 l)) (ap (λ (n : ℕ). take n (drop at s)) (sym (length-drop at s)) ∙ take-length (drop at s))
      ∙ pairwise mark (take 20 (drop at s))

  pub cut_before : length s < at → leb at (length s) ≡ same_list (take 20 (drop at s)) mark
  cut_before h = lt-leb _ _ h ∙ sym (shorter (take 20 (drop at s)) mark (simp (length-take, length-drop) (omega arith)))
