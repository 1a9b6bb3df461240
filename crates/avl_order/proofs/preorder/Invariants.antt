-- `avl_order::preorder` meets its contract. The invariant, for every tree that the links hold: the list begins with the first numbers of the tree's
-- preorder, and the trees on the stack give the rest.
use Rattle.std.proofs.Common.{◌≡◌, length}
use Rattle.avl_model.specs.inner.Order.{Listed}
use Rattle.avl_order.proofs.Stack.{Going}
use Rattle.avl_order.proofs.preorder.Given as goal

abbrev pub invariant-loop-done : goal.invariant-loop-done
invariant-loop-done l =
    let b = l.branches in
    (length l.stack ≡ 23)
    × ((w : Listed b.left.now b.right.now b.root (length l.initial.list)) → Going b.left.now b.right.now w.t l.initial.list l.stack l.held l.done l.list)
