-- `layout_volume::read_descriptor` meets its contract: by the two tests for the mark. Assumes nothing.
use Rattle.layout_volume.proofs.Reading.{no_first, no_second, volume}
use Rattle.layout_volume.proofs.read_descriptor.Goals as goal
use Rattle.layout_volume.proofs.read_descriptor.Goals.{else-has_mark-via-then-has_mark+else-has_mark-2, else-has_mark-via-else-has_mark}

pub returns-then-has_mark-2 : goal.returns-then-has_mark-2
returns-then-has_mark-2 c = search volume

pub returns-else-has_mark : goal.returns-else-has_mark
returns-else-has_mark c = elim c.else-has_mark.branch [
  | else-has_mark-via-then-has_mark+else-has_mark-2 w ↦ search no_second
  | else-has_mark-via-else-has_mark w ↦ search no_first
]
