-- `layout_volume::has_mark` meets its contract: by what `starts_with` compares, and where the bytes end before the place. Assumes nothing.
use Rattle.layout_volume.proofs.Same.{cut_before, compared}
use Rattle.layout_volume.proofs.has_mark.Goals as goal

pub returns-then-at-s : goal.returns-then-at-s
returns-then-at-s c = search compared

pub returns-else-at-s : goal.returns-else-at-s
returns-else-at-s c = search cut_before
