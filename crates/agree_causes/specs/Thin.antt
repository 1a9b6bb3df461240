-- The thinnest trees: each height with as few nodes as a balanced tree of it can have. Assumes nothing.
use Rattle.std.specs.Prelude.{ℕ, zero, suc}
use Rattle.avl_model.specs.Tree.{Tree, leaf, node}

-- over a tree of each of the two heights below
unfoldable pub thin : ℕ → Tree
thin zero = leaf
thin (suc zero) = node leaf 0 leaf
thin (suc (suc h)) = node (thin (suc h)) 0 (thin h)
