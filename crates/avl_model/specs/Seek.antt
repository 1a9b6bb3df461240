-- Where a new node goes, in the tree and in the arrays.
use Rattle.std.specs.Prelude.{ℕ, zero, suc, true, false, List, length, get_or, ltb}
use Rattle.std.specs.declared.cmp.Ordering.{Ordering}
use Rattle.std.specs.declared.cmp.Ordering.TheVariants.{Less, Equal, Greater}
use Rattle.avl_model.specs.declared.Place.{Place}
use Rattle.avl_model.specs.declared.Place.TheVariants.{Left, Right}
use Rattle.avl_model.specs.declared.Spot.{Spot}
use Rattle.avl_model.specs.declared.Spot.TheVariants.{Same, Free}
use Rattle.avl_model.specs.Tree.{Tree, leaf, node}

-- where an order sends the search: to the node itself, or to what is found left or right of it
abbrev pub spot_by : Ordering → Spot → Spot → Spot → Spot
spot_by Less s l r = l
spot_by Equal s l r = s
spot_by Greater s l r = r

-- where a name goes in a tree that hangs at q; `by i` is the order of the name to that of node i
abbrev pub spot_in : (ℕ → Ordering) → Tree → Place → Spot
spot_in by leaf q = Free q
spot_in by (node l i r) q = spot_by (by i) (Same i) (spot_in by l (Left i)) (spot_in by r (Right i))

-- the tree that the links hold from i down, to a depth
unfoldable pub tree_at : ℕ → List ℕ → List ℕ → ℕ → Tree
tree_at zero L R i = leaf
tree_at (suc f) L R i =
    elim (ltb i (length L)) [
      | true ↦ node (tree_at f L R (get_or L i 0)) i (tree_at f L R (get_or R i 0))
      | false ↦ leaf
    ]
