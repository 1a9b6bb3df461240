-- `turn` meets its contract: `requires` gives a `Heavy`, the `ensures` speaks of every `Heavy` (`λ w.`).
use Rattle.avl_model.specs.Lent.{lists_of}
use Rattle.avl_model.proofs.Weigh.{three_single, double_up, single_up}
use Rattle.avl_turn.proofs.turn.Goals as goal

pub l_rotate-requires-clause-three : goal.l_rotate-requires-clause-three
l_rotate-requires-clause-three c = three_single (lists_of c.args.links.now) c.args.a c.args.b c.requires _ _ c.height_of.ensures c.height_of-2.ensures c.if-height_of.false

pub returns-then-height_of-clause-turned : goal.returns-then-height_of-clause-turned
returns-then-height_of-clause-turned c = λ w.
    double_up (lists_of c.args.links.now) c.args.a c.args.b w _ _ c.height_of.ensures c.height_of-2.ensures
    c.if-height_of.true c.rl_rotate.ensures.rotated

pub returns-else-height_of-clause-turned : goal.returns-else-height_of-clause-turned
returns-else-height_of-clause-turned c = λ w.
    single_up (lists_of c.args.links.now) c.args.a c.args.b w _ _ c.height_of.ensures c.height_of-2.ensures
    c.if-height_of.false c.l_rotate.ensures.rotated
