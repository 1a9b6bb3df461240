-- `is_tree` meets its contract. The loop's invariant is `Sofar` of proofs/Whole.antt: the entries of the directories below
-- d are marked.
use Rattle.std.proofs.Common.{rules, arith}
use Rattle.img_model.specs.Columns.{columns_in}
use Rattle.img_tree.proofs.Whole.{some_first, no_directory, onwards, refused, all_done}
use Rattle.img_tree.proofs.is_tree.Goals as goal

pub returns-then-is_empty : goal.returns-then-is_empty
returns-then-is_empty c = no_directory _ (search rules)

pub returns-then-not-mark_directory : goal.returns-then-not-mark_directory
returns-then-not-mark_directory c = search refused

pub loop-d-preserved : goal.loop-d-preserved
loop-d-preserved c = search onwards

pub returns : goal.returns
returns c =
    all_done (columns_in c.args.request) c.loop-d.d c.loop-d.named c.loop-d.invariant c.all_marked.result
    (some_first _ _ c.is_empty.ensures c.if-is_empty.false) (omega arith) (omega arith) c.all_marked.ensures
