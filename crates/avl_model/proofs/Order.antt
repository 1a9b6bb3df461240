-- How long the preorder of a tree is.
use Rattle.std.proofs.Common.{arith, ◌≡◌, refl, length, length-append}
use Rattle.avl_model.specs.Tree.{Tree, leaf, node}
use Rattle.avl_model.specs.Laws.{size}
use Rattle.avl_model.specs.Order.{order}

-- the preorder of a tree has each of its nodes once
pub order-length : (t : Tree) → length (order t) ≡ size t
order-length leaf = refl
order-length (node l i r) = simp length-append (omega (arith, order-length l, order-length r))
