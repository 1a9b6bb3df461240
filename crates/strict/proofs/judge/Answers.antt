-- `strict::judge` meets its contract, by the cases of `judged`. Assumes nothing.
use Rattle.strict.proofs.Judging.{shared, no_place, bad_place, out_of_order, good}
use Rattle.strict.proofs.judge.Goals as goal

pub returns-then-is_start : goal.returns-then-is_start
returns-then-is_start c = search shared

pub returns-then-left-eq0 : goal.returns-then-left-eq0
returns-then-left-eq0 c = search no_place

pub returns-then-not-is_placed : goal.returns-then-not-is_placed
returns-then-not-is_placed c = search bad_place

pub returns-then-not-is_ordered : goal.returns-then-not-is_ordered
returns-then-not-is_ordered c = search out_of_order

pub returns : goal.returns
returns c = search good
