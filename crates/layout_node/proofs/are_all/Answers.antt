-- `layout_node::are_all` meets its contract: by the numbers of its bytes, four by four. Assumes nothing.
use Rattle.std.proofs.Common.{arith}
use Rattle.layout_node.proofs.Words.{all_by_words}
use Rattle.layout_node.proofs.are_all.Goals as goal

pub returns : goal.returns
returns c =
    all_by_words c.args.h.now c.requires (λ i. omega (arith, c.type_inv.h i)) c.args.b (omega arith) _ _ _ c.from_le_bytes-four.result c.u32_at.ensures
    c.u32_at-2.ensures c.u32_at-3.ensures (omega arith)
