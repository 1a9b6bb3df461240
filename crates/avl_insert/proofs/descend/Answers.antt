-- `descend` meets its contract, by the laws of `Seeking` at the node that the loop has come to.
use Rattle.std.proofs.Common.{arith}
use Rattle.avl_model.specs.Lent.{names_of}
use Rattle.avl_model.proofs.Seeking.{told, inside, known, found, go_left, go_right, less_left, less_right}
use Rattle.avl_insert.proofs.descend.Goals as goal

pub node_name-requires : goal.node_name-requires
node_name-requires c = known c.requires.sought.linked.small (c.loop-at.invariant c.requires.sought) c.loop-at-test.true

pub returns-in-Equal : goal.returns-in-Equal
returns-in-Equal c = λ w.
    found w.linked.small (c.loop-at.invariant w) c.loop-at-test.true
    (told (names_of c.args.names) c.args.name.now c.loop-at.at c.node_name.ensures.named c.compare_raised.ensures c.in-Equal.is)

pub bounds-branches-i : goal.bounds-branches-i
bounds-branches-i c = inside c.requires.sought.linked.small (c.loop-at.invariant c.requires.sought) c.loop-at-test.true

pub loop-at-smaller-in-Less : goal.loop-at-smaller-in-Less
loop-at-smaller-in-Less c = less_left c.requires.sought.linked.small (c.loop-at.invariant c.requires.sought) c.loop-at-test.true

pub loop-at-preserved-in-Less : goal.loop-at-preserved-in-Less
loop-at-preserved-in-Less c = λ w.
    go_left w.linked.small (c.loop-at.invariant w) c.loop-at-test.true
    (told (names_of c.args.names) c.args.name.now c.loop-at.at c.node_name.ensures.named c.compare_raised.ensures c.in-Less.is)

pub bounds-branches-i-in-Greater : goal.bounds-branches-i-in-Greater
bounds-branches-i-in-Greater c =
    let w = c.requires.sought in
    omega (arith, inside w.linked.small (c.loop-at.invariant w) c.loop-at-test.true, w.linked.n_is)

pub loop-at-smaller : goal.loop-at-smaller
loop-at-smaller c = less_right c.requires.sought.linked.small (c.loop-at.invariant c.requires.sought) c.loop-at-test.true

pub loop-at-preserved : goal.loop-at-preserved
loop-at-preserved c = λ w.
    go_right w.linked.small (c.loop-at.invariant w) c.loop-at-test.true
    (told (names_of c.args.names) c.args.name.now c.loop-at.at c.node_name.ensures.named c.compare_raised.ensures c.in-Greater.is)
