-- `strict::name_at` meets its contract: inside the table the offset is the place. Assumes nothing.
use Rattle.strict.proofs.Here.{name_outside, name_inside}
use Rattle.strict.proofs.name_at.Goals as goal

pub returns-then-table-o : goal.returns-then-table-o
returns-then-table-o c = search name_outside

pub returns : goal.returns
returns c = search name_inside
