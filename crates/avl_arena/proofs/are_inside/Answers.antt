-- `avl_arena::are_inside` meets its contract: a name outside, or one more inside.
use Rattle.avl_model.specs.Lent.{names_of}
use Rattle.avl_arena.proofs.Tested.{not_inside, one_more}
use Rattle.avl_arena.proofs.are_inside.Goals as goal

pub returns-then-names-start : goal.returns-then-names-start
returns-then-names-start c = not_inside (names_of c.args.names) _ c.loop-i.i c.loop-i-test.true c.if-names-start.true

pub loop-i-preserved : goal.loop-i-preserved
loop-i-preserved c = one_more (names_of c.args.names) c.loop-i.i c.loop-i.invariant c.if-names-start.false
