-- `mark_share` meets its contract. The loop's invariant is `Part` of proofs/Turn.antt: the first i entries are marked.
use Rattle.std.proofs.Common.{rules}
use Rattle.img_tree.proofs.Turn.{past, stop, done}
use Rattle.img_tree.proofs.mark_share.Goals as goal

pub returns-then-not-mark_entry-clause-answer : goal.returns-then-not-mark_entry-clause-answer
returns-then-not-mark_entry-clause-answer c = search stop

pub loop-i-preserved : goal.loop-i-preserved
loop-i-preserved c = (search rules, search past)

pub returns-clause-answer : goal.returns-clause-answer
returns-clause-answer c = search (rules, done)
