-- `layout_bytes::put_bytes`: one byte more is copied. Assumes nothing.
use Rattle.std.proofs.Common.{◌+◌, arith, List, ℕ, set, get_or, length-set}
use mathlib.Core.Path.{ap, ◌∙◌}
use Rattle.layout_bytes.proofs.Turns.{copy_turn}
use Rattle.layout_bytes.proofs.put_bytes.Goals as goal

pub loop-i-preserved : goal.loop-i-preserved
loop-i-preserved c = let k = c.loop-i.invariant in
    let i = c.loop-i.i in
    let a = c.args in
    (omega arith, simp length-set (omega arith), ap (λ (l : List ℕ). set l (a.at + i) (get_or a.s.now i 0)) k.2 ∙ copy_turn a.out.now a.at a.s.now i (omega arith) (omega arith))
