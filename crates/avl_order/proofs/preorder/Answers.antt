-- `avl_order::preorder` meets its contract: what the code's numbers are while a tree is on the stack (`bounds`), and what a turn leaves (`again`).
use Rattle.std.proofs.Common.{ℕ, refl, sym, subst, set, replicate, length-set, arith}
use Rattle.avl_order.proofs.Stack.{Going, start, bounds, all_done, finished, again}
use Rattle.avl_order.proofs.preorder.Goals as goal

pub loop-done-init : goal.loop-done-init
loop-done-init c =
    let b = c.args.branches in
    let l = c.args.list.now in (
      refl,
      λ w. subst (λ (v : ℕ). Going b.left.now b.right.now w.t l (set (replicate 23 0) 0 b.root) v 0 l) (sym c.count_node-held.ensures.0)
          (start b.left.now b.right.now l (replicate 23 0) b.root refl w),
    )

pub returns-then-held-eq0 : goal.returns-then-held-eq0
returns-then-held-eq0 c = λ w. finished w (c.loop-done.invariant.1 w) (omega arith)

pub offset_bounds-stack-held : goal.offset_bounds-stack-held
offset_bounds-stack-held c = omega (arith, bounds c.requires (c.loop-done.invariant.1 c.requires) (omega arith))

pub bounds-stack-held : goal.bounds-stack-held
bounds-stack-held c = omega (arith, bounds c.requires (c.loop-done.invariant.1 c.requires) (omega arith))

pub bounds-branches-node : goal.bounds-branches-node
bounds-branches-node c = omega (arith, bounds c.requires (c.loop-done.invariant.1 c.requires) (omega arith), c.requires.n_is)

pub offset_bounds-stack-held-in-loop-done : goal.offset_bounds-stack-held-in-loop-done
offset_bounds-stack-held-in-loop-done c = omega (arith, bounds c.requires (c.loop-done.invariant.1 c.requires) (omega arith))

pub bounds-stack-held-in-loop-done : goal.bounds-stack-held-in-loop-done
bounds-stack-held-in-loop-done c = omega (arith, bounds c.requires (c.loop-done.invariant.1 c.requires) (omega arith))

pub bounds-branches-node-in-loop-done : goal.bounds-branches-node-in-loop-done
bounds-branches-node-in-loop-done c = omega (arith, bounds c.requires (c.loop-done.invariant.1 c.requires) (omega arith))

pub offset_bounds-stack-held-in-loop-done-2 : goal.offset_bounds-stack-held-in-loop-done-2
offset_bounds-stack-held-in-loop-done-2 c = omega (arith, bounds c.requires (c.loop-done.invariant.1 c.requires) (omega arith), c.count_node-held-in-loop-done.ensures.1)

pub bounds-stack-held-in-loop-done-2 : goal.bounds-stack-held-in-loop-done-2
bounds-stack-held-in-loop-done-2 c = omega (arith, bounds c.requires (c.loop-done.invariant.1 c.requires) (omega arith), c.count_node-held-in-loop-done.ensures.1)

pub overflow_add-held-in-loop-done : goal.overflow_add-held-in-loop-done
overflow_add-held-in-loop-done c = omega (arith, bounds c.requires (c.loop-done.invariant.1 c.requires) (omega arith), c.count_node-held-in-loop-done.ensures.1)

pub loop-done-preserved : goal.loop-done-preserved
loop-done-preserved c = (
  simp length-set c.loop-done.invariant.0,
  λ w. again w (c.loop-done.invariant.1 w) (omega arith) c.loop-done.invariant.0 _ _ _ refl
      c.count_node-held-in-loop-done.ensures.0 c.count_node-held-in-loop-done-2.ensures.0,
)

pub returns : goal.returns
returns c = λ w. all_done w (c.loop-done.invariant.1 w) (omega (arith, c.loop-done.auto.list))
