-- The arena test is right: what passes it is a held tree, namely the one that the links hold.
use Rattle.std.proofs.Common.{ℕ, suc, ◌+◌, ◌≤◌, ◌<◌, max, arith, ◌≡◌, refl, sym, ◌∙◌, Bool, true, false, ◌||◌, ◌⊎◌, inl, inr, get_or, leb, eqb, leb-true, eqb-true}
use Rattle.avl_model.specs.Lists.{Lists}
use Rattle.avl_model.specs.Names.{Names, by_name, is_less, Before}
use Rattle.avl_model.specs.Tree.{Tree, leaf, node, none, top, ht}
use Rattle.avl_model.specs.Rep.{Cell, Rep}
use Rattle.avl_model.specs.Rep.{arr_of}
use Rattle.avl_model.specs.Laws.{Avl, All, Ordered, size}
use Rattle.avl_model.proofs.Avl.{all_map}
use Rattle.avl_model.proofs.Counted.{ordered_once, each_once}
use Rattle.avl_model.proofs.Search.{before_trans}
use Rattle.avl_arena.specs.Test.{part_names, places, every, inside, between, cell_ok, ok_tree, decoded, is_whole, holds_tree}
use Rattle.avl_arena.specs.HeldTree.{Places, HeldTree}
use Rattle.avl_arena.proofs.Tested.{and_l, and_r, each_inside}
use Rattle.avl_arena.proofs.Parts.{places_of}
use Rattle.avl_arena.proofs.ByName.{Lo, Hi, before_never, less_is}
use Rattle.avl_arena.proofs.Decoded.{part_named, part_whole, decoded_below}

or_not : (a b : Bool) → (a || b) ≡ true → (a ≡ true) ⊎ (b ≡ true)
or_not true b e = inl refl
or_not false b e = inr e

module _ (S : Lists) (N : Names) (n : ℕ) where
  bound_of : (b i j : ℕ) → (leb n b || is_less (by_name N i j)) ≡ true → (n ≤ b) ⊎ Before N i j
  bound_of b i j e = go (or_not (leb n b) (is_less (by_name N i j)) e)
    where
      go : (leb n b ≡ true) ⊎ (is_less (by_name N i j) ≡ true) → (n ≤ b) ⊎ Before N i j
      go (inl h) = inl (leb-true n b h)
      go (inr h) = inr (less_is (by_name N i j) h)

  between_of : (lo hi i : ℕ) → between N n lo hi i ≡ true → Lo N n lo i × Hi N n hi i
  unfolding between
  between_of lo hi i e =
      (bound_of lo lo i (and_l (leb n lo || is_less (by_name N lo i)) _ e), bound_of hi i hi (and_r (leb n lo || is_less (by_name N lo i)) _ e))

  cell_of : (up : ℕ) (l : Tree) (i : ℕ) (r : Tree) → i < n → cell_ok S i up (top l) (top r) (ht l) (ht r) ≡ true
      → Cell (arr_of S) n up l i r × ((ht l ≤ suc (ht r)) × (ht r ≤ suc (ht l)))
  unfolding cell_ok
  cell_of up l i r f c0 =
      let c1 = and_r (eqb (get_or S.L i 0) (top l)) _ c0 in
      let c2 = and_r (eqb (get_or S.R i 0) (top r)) _ c1 in
      let c3 = and_r (eqb (get_or S.P i 0) up) _ c2 in
      let c4 = and_r (eqb (get_or S.H i 0) (max (ht l) (ht r) + 1)) _ c3 in (
        record {
          fits = f;
          left = eqb-true (get_or S.L i 0) (top l) (and_l _ _ c0);
          right = eqb-true (get_or S.R i 0) (top r) (and_l _ _ c1);
          up = eqb-true (get_or S.P i 0) up (and_l _ _ c2);
          high = eqb-true (get_or S.H i 0) (max (ht l) (ht r) + 1) (and_l _ _ c3) ∙ omega arith;
        },
        (omega (arith, leb-true (ht l) (ht r + 1) (and_l _ _ c4)), omega (arith, leb-true (ht r) (ht l + 1) (and_r (leb (ht l) (ht r + 1)) _ c4))),
      )

  -- what the test of a tree between lo and hi, below up, tells
  record Right (lo hi up : ℕ) (t : Tree) : Type 0 where
    rep : Rep (arr_of S) n up t
    avl : Avl t
    ordered : Ordered (Before N) t
    low : All (Lo N n lo) t
    high : All (Hi N n hi) t

  -- a bound that is a node bounds what its own bound bounds
  strict : {X : Type 0} {i : ℕ} → i < n → (n ≤ i) ⊎ X → X
  strict f (inl h) = absurd (omega arith)
  strict f (inr h) = h

  low_more : (lo i j : ℕ) → Lo N n lo i → Before N i j → Lo N n lo j
  low_more lo i j (inl h) k = inl h
  low_more lo i j (inr h) k = inr (before_trans N lo i j h k)

  high_more : (hi i j : ℕ) → Hi N n hi i → Before N j i → Hi N n hi j
  high_more hi i j (inl h) k = inl h
  high_more hi i j (inr h) k = inr (before_trans N j i hi k h)

  right_node : (lo hi up : ℕ) (l : Tree) (i : ℕ) (r : Tree) → i < n → between N n lo hi i ≡ true → cell_ok S i up (top l) (top r) (ht l) (ht r) ≡ true
      → Right lo i i l → Right i hi i r → Right lo hi up (node l i r)
  right_node lo hi up l i r f b c p q =
      let w = between_of lo hi i b in
      let d = cell_of up l i r f c in
      let before : All (λ j. Before N j i) l = all_map (Hi N n i) (λ j. Before N j i) l (λ j x. strict f x) p.high in
      let after : All (λ j. Before N i j) r = all_map (Lo N n i) (λ j. Before N i j) r (λ j x. strict f x) q.low in
      record {
        rep = (d.0, p.rep, q.rep);
        avl = (d.1.0, d.1.1, p.avl, q.avl);
        ordered = (before, after, p.ordered, q.ordered);
        low = (w.0, p.low, all_map (λ j. Before N i j) (Lo N n lo) r (λ j x. low_more lo i j w.0 x) after);
        high = (w.1, all_map (λ j. Before N j i) (Hi N n hi) l (λ j x. high_more hi i j w.1 x) before, q.high);
      }

  right : (lo hi up : ℕ) (t : Tree) → All (λ j. j < n) t → ok_tree S N n lo hi up t ≡ true → Right lo hi up t
  right lo hi up leaf a e = record { rep = tt; avl = tt; ordered = tt; low = tt; high = tt }
  right lo hi up (node l i r) a e =
      let e1 = and_r (between N n lo hi i) _ e in
      let e2 = and_r (ok_tree S N n lo i i l) _ e1 in
      right_node lo hi up l i r a.0 (and_l (between N n lo hi i) _ e) (and_r (ok_tree S N n i hi i r) _ e2)
      (right lo i i l a.1 (and_l (ok_tree S N n lo i i l) _ e1)) (right i hi i r a.2 (and_l (ok_tree S N n i hi i r) _ e2))

  -- columns that pass the test hold the tree that their links hold
  pub sound : holds_tree S N n ≡ true → HeldTree S N n (decoded S n)
  unfolding holds_tree
  sound e =
      let e1 = and_r (places S N.start N.len n) _ e in
      let room : Places S N n = places_of S N n (and_l (places S N.start N.len n) _ e) in
      let named : every (inside N) n ≡ true = sym (part_named S N n) ∙ and_l (every (inside (part_names n N)) n) _ e1 in
      let whole : is_whole S N n (decoded S n) ≡ true = sym (part_whole S N n room.l) ∙ and_r (every (inside (part_names n N)) n) _ e1 in
      let below : All (λ j. j < n) (decoded S n) = decoded_below S N n room.l in
      held room named below whole
    where
      held : Places S N n → every (inside N) n ≡ true → {t : Tree} → All (λ j. j < n) t → is_whole S N n t ≡ true → HeldTree S N n t
      held room named {t} below whole =
          let w = right none none none t below (and_l (ok_tree S N n none none none t) _ whole) in
          let w1 = and_r (ok_tree S N n none none none t) _ whole in
          let many : size t ≡ n = eqb-true (size t) n (and_r (eqb (top t) S.root) _ w1) in
          record {
            places = room;
            root_is = sym (eqb-true (top t) S.root (and_l _ _ w1));
            rep = w.rep;
            each = each_once n t below (ordered_once (Before N) (before_trans N) (before_never N) t w.ordered) many;
            size_is = many;
            balanced = w.avl;
            ordered = w.ordered;
            named = each_inside N n named;
          }
