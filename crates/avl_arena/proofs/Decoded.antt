-- The tree that the links of the first n places hold, and its test on the whole columns.
use Rattle.std.proofs.Common.{ℕ, zero, suc, ◌+◌, ◌≤◌, ◌<◌, max, arith, ◌≡◌, refl, ap₂, subst, Bool, true, false, ◌&&◌, List, length, get_or, take, get_or-take, length-take-le, ltb, leb, eqb, ltb-true}
use Rattle.avl_model.specs.Lists.{Lists}
use Rattle.avl_model.specs.Names.{Names}
use Rattle.avl_model.specs.Tree.{Tree, leaf, node, none, top, ht}
use Rattle.avl_model.specs.Laws.{All}
use Rattle.avl_model.specs.Seek.{tree_at}
use Rattle.avl_arena.specs.Test.{part_of, part_names, inside, every, cell_ok, ok_tree, tree_of, decoded, is_whole, whole_tree}
use Rattle.avl_arena.proofs.ByName.{part_between}

-- its nodes are indices
pub tree_at_below : (f : ℕ) (L R : List ℕ) (i : ℕ) → All (λ j. j < length L) (tree_at f L R i)
unfolding tree_at
tree_at_below zero L R i = tt
tree_at_below (suc f) L R i = go (ltb i (length L)) refl (tree_at_below f L R (get_or L i 0)) (tree_at_below f L R (get_or R i 0))
  where
    go : (b : Bool) → ltb i (length L) ≡ b → All (λ j. j < length L) (tree_at f L R (get_or L i 0)) → All (λ j. j < length L) (tree_at f L R (get_or R i 0))
        → All (λ j. j < length L) (elim b [ true ↦ node (tree_at f L R (get_or L i 0)) i (tree_at f L R (get_or R i 0)) | false ↦ leaf ])
    go true e l r = (ltb-true i (length L) e, l, r)
    go false e l r = tt

module _ (S : Lists) (N : Names) (n : ℕ) where
  part_cell : (i up a b x y : ℕ) → i < n → cell_ok (part_of n S) i up a b x y ≡ cell_ok S i up a b x y
  unfolding cell_ok
  part_cell i up a b x y h = λ q.
      eqb (get_or-take n S.L i 0 h q) a && (eqb (get_or-take n S.R i 0 h q) b && (eqb (get_or-take n S.P i 0 h q) up
      && (eqb (get_or-take n S.H i 0 h q) (max x y + 1) && (leb x (y + 1) && leb y (x + 1)))))

  -- the test of a tree of numbers below n reads the first n places alone
  pub part_ok : (lo hi up : ℕ) (t : Tree) → All (λ j. j < n) t → ok_tree (part_of n S) (part_names n N) n lo hi up t ≡ ok_tree S N n lo hi up t
  part_ok lo hi up leaf a = refl
  part_ok lo hi up (node l i r) a = λ q.
      part_between N n lo hi i a.0 q && (part_ok lo i i l a.1 q && (part_ok i hi i r a.2 q && part_cell i up (top l) (top r) (ht l) (ht r) a.0 q))

  part_inside : (i : ℕ) → i < n → inside (part_names n N) i ≡ inside N i
  unfolding inside
  part_inside i h = λ q. leb (get_or-take n N.start i 0 h q + get_or-take n N.len i 0 h q) (length N.bytes)

  part_every : (m : ℕ) → m ≤ n → every (inside (part_names n N)) m ≡ every (inside N) m
  part_every zero h = refl
  part_every (suc m) h = ap₂ ◌&&◌ (part_every m (omega arith)) (part_inside m (omega arith))

  pub part_named : every (inside (part_names n N)) n ≡ every (inside N) n
  part_named = part_every n (omega arith)

  pub decoded_below : n ≤ length S.L → All (λ j. j < n) (decoded S n)
  unfolding decoded
  decoded_below h = subst (λ (m : ℕ). All (λ j. j < m) (tree_of (part_of n S))) (length-take-le n S.L h) (tree_at_below 22 (take n S.L) (take n S.R) S.root)

  pub part_whole : n ≤ length S.L → whole_tree (part_of n S) (part_names n N) n ≡ is_whole S N n (decoded S n)
  unfolding whole_tree decoded
  part_whole h = rw (part_ok none none none (tree_of (part_of n S)) (decoded_below h))
