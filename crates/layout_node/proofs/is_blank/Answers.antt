-- `layout_node::is_blank` meets its contract: by the last byte. Assumes nothing.
use Rattle.layout_node.proofs.Blank.{ones, zeros, neither}
use Rattle.layout_node.proofs.is_blank.Goals as goal

pub returns-in-0 : goal.returns-in-0
returns-in-0 c = search zeros

pub returns-in-255 : goal.returns-in-255
returns-in-255 c = search ones

pub returns-in_default : goal.returns-in_default
returns-in_default c = search neither
