-- `layout_name::compare_by` meets its contract: by a turn over one byte of each name, and by the lengths at the end. Assumes nothing.
use Rattle.std.proofs.Common.{arith, rules, ◌∙◌}
use Rattle.layout_name.proofs.Turn.{same_byte, differs, alike, ended}
use Rattle.layout_name.proofs.compare_by.Goals as goal
use Rattle.layout_name.proofs.compare_by.Goals.{then-a-i+else-is_ne, else-a-i}

pub returns-then-is_ne : goal.returns-then-is_ne
returns-then-is_ne g c =
    differs _ _ _ c.loop-i.invariant (omega arith) (omega arith) _ _ (c.requires.raises _ _ (omega arith) c.raised_at.ensures) c.raise.ensures c.cmp-order.result
    c.cmp-order.ensures (search rules)

pub loop-i-preserved : goal.loop-i-preserved
loop-i-preserved g c = elim c.if-a-i.branch [
  | then-a-i+else-is_ne w ↦
      alike _ _ _ c.loop-i.invariant (omega arith) (omega arith) _ _ (c.requires.raises _ _ (omega arith) w.raised_at.ensures) w.raise.ensures w.cmp-order.result
      w.cmp-order.ensures (search rules)
  | else-a-i w ↦ same_byte _ _ _ c.loop-i.invariant (omega arith) (omega arith) w.if-a-i.false
]

pub returns : goal.returns
returns g c = c.cmp.ensures ∙ ended _ _ c.loop-i.i c.loop-i.invariant (omega arith)
