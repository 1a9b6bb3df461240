-- `limits::volume_in` meets its contract: the window starts past the descriptor, ends before it, or has it. Assumes nothing.
use Rattle.limits.proofs.Answers.{starts_past, ends_before, stands_there}
use Rattle.limits.proofs.volume_in.Goals as goal

pub returns-then-n-gt32 : goal.returns-then-n-gt32
returns-then-n-gt32 c = search starts_past

pub returns-then-w-start : goal.returns-then-w-start
returns-then-w-start c = search ends_before

pub returns : goal.returns
returns c = search stands_there
