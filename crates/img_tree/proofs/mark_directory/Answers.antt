-- `mark_directory` meets its contract.
use Rattle.std.proofs.Common.{arith}
use Rattle.img_tree.proofs.Reach.{past_list, in_list}
use Rattle.img_tree.proofs.mark_directory.Goals as goal

pub returns-then-request-to-clause-answer : goal.returns-then-request-to-clause-answer
returns-then-request-to-clause-answer c = past_list _ _ _ _ _ _ (omega arith)

pub returns-clause-answer : goal.returns-clause-answer
returns-clause-answer c = search in_list
