-- `layout_name::same_front` meets its contract: a turn shows four more bytes alike. Assumes nothing.
use Rattle.std.proofs.Common.{◌*◌, arith, rules}
use Rattle.layout_name.proofs.Front.{four}
use Rattle.layout_name.proofs.same_front.Goals as goal

pub loop-i-preserved : goal.loop-i-preserved
loop-i-preserved c =
    four c.args.a.now c.args.b.now (4 * c.loop-i.i) _ c.loop-i.invariant (omega arith) (omega arith) (omega arith) c.same_four.result c.same_four.ensures (search rules)
