-- One turn of a comparison of two names, and its end, over plain lists. Assumes nothing.
use Rattle.std.proofs.Common.{◌≡◌, ℕ, ◌+◌, ◌<◌, min, true, false, List, length, get_or, drop, refl, sym, ap, ap₂, ◌∙◌, arith}
use Rattle.std.specs.Ordering.{nat_cmp, is_ne}
use Rattle.std.specs.declared.cmp.Ordering.{Ordering}
use Rattle.std.specs.declared.cmp.Ordering.TheVariants.{Less, Equal, Greater}
use Rattle.layout_name.specs.Order.{raised, number_order, and_then, name_order}
use Rattle.layout_name.proofs.Keys.{number_cmp}
use Rattle.layout_name.proofs.Laws.{Three, less, equal, greater, three, number_less, number_equal, number_greater, name_step, name_left_ends, name_right_ends, name_both_end}

-- an order that decides, and one that does not
then_ne : (o p : Ordering) → is_ne o ≡ true → and_then o p ≡ o
then_ne Less p e = refl
then_ne Equal p e = cc
then_ne Greater p e = refl

then_eq : (o p : Ordering) → is_ne o ≡ false → and_then o p ≡ p
then_eq Less p e = cc
then_eq Equal p e = refl
then_eq Greater p e = cc

-- so far the names are alike: what is left of them decides
module _ (a b : List ℕ) (i : ℕ) (so_far : name_order a b ≡ name_order (drop i a) (drop i b)) where
  module _ (in_a : i < length a) (in_b : i < length b) where
    abbrev next : Ordering
    next = name_order (drop (i + 1) a) (drop (i + 1) b)

    step : (o : Ordering) → o ≡ number_order (raised (get_or a i 0)) (raised (get_or b i 0)) → name_order a b ≡ and_then o next
    step o e = so_far ∙ name_step a b i in_a in_b ∙ ap (λ (p : Ordering). and_then p next) (sym e)

    -- the bytes at i are the same as they stand
    pub same_byte : get_or a i 0 ≡ get_or b i 0 → name_order a b ≡ next
    same_byte e = step Equal (sym (number_equal _ _ (ap raised e)))

    -- or they are compared raised
    module _ (x y : ℕ) (at_x : x ≡ raised (get_or a i 0)) (at_y : y ≡ raised (get_or b i 0)) (o : Ordering) (is : o ≡ nat_cmp x y) where
      decided : name_order a b ≡ and_then o next
      decided = step o (is ∙ number_cmp x y ∙ ap₂ number_order at_x at_y)

      pub differs : is_ne o ≡ true → o ≡ name_order a b
      differs e = sym (decided ∙ then_ne o next e)

      pub alike : is_ne o ≡ false → name_order a b ≡ next
      alike e = decided ∙ then_eq o next e

  -- one of them ends at i
  ended_by : i ≡ min (length a) (length b) → Three (length a) (length b) → nat_cmp (length a) (length b) ≡ name_order a b
  ended_by e (less h) = number_cmp _ _ ∙ number_less _ _ h ∙ sym (so_far ∙ name_left_ends a b i (omega arith) (omega arith))
  ended_by e (equal h) = number_cmp _ _ ∙ number_equal _ _ h ∙ sym (so_far ∙ name_both_end a b i (omega arith) (omega arith))
  ended_by e (greater h) = number_cmp _ _ ∙ number_greater _ _ h ∙ sym (so_far ∙ name_right_ends a b i (omega arith) (omega arith))

  pub ended : i ≡ min (length a) (length b) → nat_cmp (length a) (length b) ≡ name_order a b
  ended e = ended_by e (three (length a) (length b))
