-- `seek` meets its contract, by the laws of `Seeking` and `Turn` at the node that the loop has come to.
use Rattle.std.proofs.Common.{refl, arith, true, false}
use Rattle.avl_model.specs.Lent.{names_of}
use Rattle.avl_model.proofs.Seeking.{told, inside, known, found}
use Rattle.avl_keyed.proofs.Turn.{chosen, lower, by_key}
use Rattle.avl_keyed.proofs.seek.Goals as goal

pub bounds-key-i : goal.bounds-key-i
bounds-key-i c = let w = c.requires.key_sought in (known w.linked.small (c.loop-at.invariant w) c.loop-at-test.true).has

pub bounds-branches-i : goal.bounds-branches-i
bounds-branches-i c = let w = c.requires.key_sought in inside w.linked.small (c.loop-at.invariant w) c.loop-at-test.true

pub bounds-branches-i-in-loop-at : goal.bounds-branches-i-in-loop-at
bounds-branches-i-in-loop-at c =
    let w = c.requires.key_sought in
    omega (arith, inside w.linked.small (c.loop-at.invariant w) c.loop-at-test.true, w.linked.n_is)

pub node_name-requires : goal.node_name-requires
node_name-requires c = let w = c.requires.key_sought in (known w.linked.small (c.loop-at.invariant w) c.loop-at-test.true).inside

pub returns-in-Equal : goal.returns-in-Equal
returns-in-Equal c = λ w.
    found w.linked.small (c.loop-at.invariant w) c.loop-at-test.true
    (told (names_of c.args.names) c.args.name.now c.loop-at.at c.node_name.ensures.named c.compare.ensures c.in-Equal.is)

pub loop-at-smaller-in-Less : goal.loop-at-smaller-in-Less
loop-at-smaller-in-Less c =
    let w = c.requires.key_sought in
    lower w.linked.small (c.loop-at.invariant w) c.loop-at-test.true true refl
    (told (names_of c.args.names) c.args.name.now c.loop-at.at c.node_name.ensures.named c.compare.ensures c.in-Less.is)

pub loop-at-preserved-in-Less : goal.loop-at-preserved-in-Less
loop-at-preserved-in-Less c = λ w.
    chosen w.linked.small (c.loop-at.invariant w) c.loop-at-test.true true refl
    (told (names_of c.args.names) c.args.name.now c.loop-at.at c.node_name.ensures.named c.compare.ensures c.in-Less.is)

pub loop-at-smaller-in-Greater : goal.loop-at-smaller-in-Greater
loop-at-smaller-in-Greater c =
    let w = c.requires.key_sought in
    lower w.linked.small (c.loop-at.invariant w) c.loop-at-test.true false refl
    (told (names_of c.args.names) c.args.name.now c.loop-at.at c.node_name.ensures.named c.compare.ensures c.in-Greater.is)

pub loop-at-preserved-in-Greater : goal.loop-at-preserved-in-Greater
loop-at-preserved-in-Greater c = λ w.
    chosen w.linked.small (c.loop-at.invariant w) c.loop-at-test.true false refl
    (told (names_of c.args.names) c.args.name.now c.loop-at.at c.node_name.ensures.named c.compare.ensures c.in-Greater.is)

pub node_name-other-requires : goal.node_name-other-requires
node_name-other-requires c = let w = c.requires.key_sought in (known w.linked.small (c.loop-at.invariant w) c.loop-at-test.true).inside

pub loop-at-smaller : goal.loop-at-smaller
loop-at-smaller c =
    let w = c.requires.key_sought in
    lower w.linked.small (c.loop-at.invariant w) c.loop-at-test.true _ c.choose-at.ensures
    (by_key (names_of c.args.names) c.args.name.now (λ j. omega (arith, c.type_inv.name j)) c.loop-at.at c.node_name-other.ensures.named c.node_name-other.ensures.in_range
    c.requires.key_is (known w.linked.small (c.loop-at.invariant w) c.loop-at-test.true).key_is c.if-k-q.false)

pub loop-at-preserved : goal.loop-at-preserved
loop-at-preserved c = λ w.
    chosen w.linked.small (c.loop-at.invariant w) c.loop-at-test.true _ c.choose-at.ensures
    (by_key (names_of c.args.names) c.args.name.now (λ j. omega (arith, c.type_inv.name j)) c.loop-at.at c.node_name-other.ensures.named c.node_name-other.ensures.in_range
    c.requires.key_is (known w.linked.small (c.loop-at.invariant w) c.loop-at-test.true).key_is c.if-k-q.false)
