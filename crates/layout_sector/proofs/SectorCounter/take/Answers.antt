-- `layout_sector::SectorCounter::take` meets its contract: by its test. Assumes nothing.
use Rattle.layout_sector.proofs.Taking.{overflow, taken}
use Rattle.layout_sector.proofs.SectorCounter.take.Goals as goal

pub returns-then-left-count : goal.returns-then-left-count
returns-then-left-count c = search overflow

pub returns : goal.returns
returns c = search taken
