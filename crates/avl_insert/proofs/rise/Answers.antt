-- `rise` meets its contract: the laws of `FirstStep`, and what `rebalance` leaves from the parent on.
use Rattle.std.proofs.Common.{arith}
use Rattle.avl_model.specs.Lent.{lists_of}
use Rattle.avl_insert.proofs.FirstStep.{alone, parent_ready, risen_whole}
use Rattle.avl_insert.proofs.rise.Goals as goal

pub rebalance-requires : goal.rebalance-requires
rebalance-requires c =
    let r = c.requires in
    parent_ready (lists_of c.args.links.now) c.args.new r.childless.0 r.childless.1 r.ready (omega arith)

pub returns-then-parent-clause-balanced : goal.returns-then-parent-clause-balanced
returns-then-parent-clause-balanced c = λ w.
    let r = c.requires in
    risen_whole (lists_of c.args.links.now) c.args.new r.childless.0 r.childless.1 w (omega arith) c.rebalance.ensures.balanced

pub returns-else-parent-clause-balanced : goal.returns-else-parent-clause-balanced
returns-else-parent-clause-balanced c = λ w.
    let r = c.requires in
    alone (lists_of c.args.links.now) c.args.new r.childless.0 r.childless.1 w c.if-parent.false
