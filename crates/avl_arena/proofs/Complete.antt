-- The arena test takes every held tree of at most 65,535 nodes: with `Sound`, it says exactly that. And there is one such tree at most.
use Rattle.std.proofs.Common.{ℕ, suc, ◌+◌, ◌≤◌, ◌<◌, max, arith, ◌≡◌, refl, sym, ap, ◌∙◌, Bool, true, ◌||◌, ◌⊎◌, inl, inr, length, get_or, take, length-take-le, leb, le-leb, eq-eqb}
use Rattle.std.proofs.Math.Decide.{dec_lt}
use Rattle.std.proofs.Math.Bool.{or-true}
use Rattle.std.specs.declared.cmp.Ordering.{Ordering}
use Rattle.avl_model.specs.Lists.{Lists}
use Rattle.avl_model.specs.Names.{Names, by_name, is_less, Before}
use Rattle.avl_model.specs.Tree.{Tree, leaf, node, none, top, ht, cnt}
use Rattle.avl_model.specs.Rep.{Cell, Rep}
use Rattle.avl_model.specs.Rep.{arr_of}
use Rattle.avl_model.specs.Laws.{Avl, All, Ordered, size}
use Rattle.avl_model.specs.Seek.{tree_at}
use Rattle.avl_model.proofs.Avl.{all_map}
use Rattle.avl_model.proofs.Seeking.{tree_at_is}
use Rattle.avl_model.proofs.Counted.{all_below, rep_below, low_22}
use Rattle.avl_model.proofs.Adding.{links_of, links_part}
use Rattle.avl_arena.specs.Test.{places, between, cell_ok, ok_tree, decoded, is_whole, holds_tree}
use Rattle.avl_arena.specs.HeldTree.{Places, HeldTree}
use Rattle.avl_arena.proofs.Tested.{and_both, every_of}
use Rattle.avl_arena.proofs.ByName.{Lo, Hi}
use Rattle.avl_arena.proofs.Decoded.{part_named, part_whole}

module _ (S : Lists) (N : Names) (n : ℕ) where
  bound_ok : (b i j : ℕ) → (n ≤ b) ⊎ Before N i j → (leb n b || is_less (by_name N i j)) ≡ true
  bound_ok b i j (inl h) = ap (λ (x : Bool). x || is_less (by_name N i j)) (le-leb n b h)
  bound_ok b i j (inr h) = ap (λ (o : Ordering). leb n b || is_less o) h ∙ or-true (leb n b)

  between_ok : (lo hi i : ℕ) → Lo N n lo i → Hi N n hi i → between N n lo hi i ≡ true
  unfolding between
  between_ok lo hi i p q = and_both (bound_ok lo lo i p) (bound_ok hi i hi q)

  cell_ok_lem : (up : ℕ) (l : Tree) (i : ℕ) (r : Tree) → Cell (arr_of S) n up l i r → ht l ≤ suc (ht r) → ht r ≤ suc (ht l) → cell_ok S i up (top l) (top r) (ht l) (ht r) ≡ true
  unfolding cell_ok
  cell_ok_lem up l i r c p q =
      and_both (eq-eqb (get_or S.L i 0) (top l) c.left) (and_both (eq-eqb (get_or S.R i 0) (top r) c.right)
      (and_both (eq-eqb (get_or S.P i 0) up c.up) (and_both (eq-eqb (get_or S.H i 0) (max (ht l) (ht r) + 1) (c.high ∙ omega arith))
      (and_both (le-leb (ht l) (ht r + 1) (omega arith)) (le-leb (ht r) (ht l + 1) (omega arith))))))

  ok_from : (lo hi up : ℕ) (t : Tree) → Rep (arr_of S) n up t → Avl t → Ordered (Before N) t → All (Lo N n lo) t → All (Hi N n hi) t → ok_tree S N n lo hi up t ≡ true
  ok_from lo hi up leaf c a o p q = refl
  ok_from lo hi up (node l i r) c a o p q =
      and_both (between_ok lo hi i p.0 q.0)
      (and_both (ok_from lo i i l c.1 a.2 o.2 p.1 (all_map (λ j. Before N j i) (Hi N n i) l (λ j h. inr h) o.0))
      (and_both (ok_from i hi i r c.2 a.3 o.3 (all_map (λ j. Before N i j) (Lo N n i) r (λ j h. inr h) o.1) q.2) (cell_ok_lem up l i r c.0 a.0 a.1)))

  places_ok : Places S N n → places S N.start N.len n ≡ true
  unfolding places
  places_ok w =
      and_both (le-leb n (length S.L) w.l) (and_both (le-leb n (length S.R) w.r) (and_both (le-leb n (length S.P) w.p)
      (and_both (le-leb n (length S.H) w.h) (and_both (le-leb n (length N.start) w.start) (le-leb n (length N.len) w.len)))))

all_of : (P : ℕ → Type 0) (t : Tree) → ((j : ℕ) → P j) → All P t
all_of P leaf f = tt
all_of P (node l i r) f = (f i, all_of P l f, all_of P r f)

-- a held tree has the numbers below n alone, and each once
module _ (S : Lists) (N : Names) (n : ℕ) (t : Tree) (w : HeldTree S N n t) where
  pub held_below : All (λ j. j < n) t
  held_below = rep_below (arr_of S) n none t w.rep

  pub held_once : (j : ℕ) → cnt j t ≤ 1
  held_once j = elim (dec_lt j n) [ yes h ↦ omega (arith, w.each j h) | no h ↦ omega (arith, all_below n t j held_below (omega arith)) ]

module _ (S : Lists) (N : Names) (n : ℕ) (small : n ≤ 65535) (t : Tree) (w : HeldTree S N n t) where
  -- a held tree is no higher than the test looks
  pub held_low : ht t ≤ 22
  held_low = low_22 t (omega (arith, w.size_is)) w.balanced

  -- it is the tree that the links hold
  pub decoded_is : decoded S n ≡ t
  unfolding decoded
  decoded_is =
      let long : length (take n S.L) ≡ n = length-take-le n S.L w.places.l in
      ap (tree_at 22 (take n S.L) (take n S.R)) w.root_is
      ∙ tree_at_is (take n S.L) (take n S.R) t 22 (omega arith) (links_part S.L S.R n (length (take n S.L)) t long (links_of S n none t w.rep)) held_low

  -- and it passes the test
  pub complete : holds_tree S N n ≡ true
  unfolding holds_tree
  complete =
      and_both (places_ok S N n w.places) (and_both (part_named S N n ∙ every_of N n w.named) (part_whole S N n w.places.l
      ∙ ap (is_whole S N n) decoded_is ∙ and_both (ok_from S N n none none none t w.rep w.balanced w.ordered (all_of (Lo N n none) t (λ j. inl small)) (all_of (Hi N n none) t (λ j. inl small)))
      (and_both (eq-eqb (top t) S.root (sym w.root_is)) (eq-eqb (size t) n w.size_is))))
