-- `size_table` meets its contract: the preorder may be measured (`measurable`), and that is the table's size
-- (`measured`).
use Rattle.std.proofs.Common.{◌∙◌}
use Rattle.img_model.specs.Plan.{table_in}
use Rattle.img_model.specs.Columns.{share_in}
use Rattle.img_table.proofs.Measuring.{measurable, measured}
use Rattle.img_table.proofs.size_table.Goals as goal

pub measure-requires : goal.measure-requires
measure-requires c =
    measurable (share_in c.args.share) (table_in c.args.sized.now) c.arrange.new.order c.in_ok-arrange.ensures.arranged
    c.requires.named (c.arrange.auto.order ∙ c.requires.o)

pub returns-clause-sized : goal.returns-clause-sized
returns-clause-sized c =
    measured (share_in c.args.share) (table_in c.args.sized.now) c.arrange.new.order c.in_ok-arrange.ensures.arranged _
    c.measure.ensures
