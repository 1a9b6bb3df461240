-- `limits::date_in_time` meets its contract, by its tests. Assumes nothing.
use Rattle.std.proofs.Common.{refl}
use Rattle.limits.proofs.Answers.{missing, back, old, good}
use Rattle.limits.proofs.date_in_time.Goals as goal

pub returns-then-time-stamp : goal.returns-then-time-stamp
returns-then-time-stamp c = (41, (search back, refl))

pub returns-then-age-time : goal.returns-then-age-time
returns-then-age-time c = (42, (search old, refl))

pub returns-in_default : goal.returns-in_default
returns-in_default c = (40, (search missing, refl))

pub returns : goal.returns
returns c = search good
