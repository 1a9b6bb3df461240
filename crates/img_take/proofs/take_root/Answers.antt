-- `take_root` meets its contract: the first taking is not refused.
use Rattle.std.proofs.Common.{arith, ap, ◌+◌, ◌∙◌}
use Rattle.layout_sector.specs.Counter.{sectors_for}
use Rattle.img_take.proofs.Along.{root_free, root_fits}
use Rattle.img_take.proofs.take_root.Goals as goal

pub unwrap-requires : goal.unwrap-requires
unwrap-requires c = root_fits c.from.result c.take.result _ c.new.ensures c.take.ensures (omega arith)

pub returns : goal.returns
returns c =
    root_free c.from.result c.take.result _ c.new.ensures c.take.ensures c.unwrap.result c.unwrap.ensures
    ∙ ap (λ n. 33 + sectors_for n) c.from.ensures
