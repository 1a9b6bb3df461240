-- `layout_name::raise_name` meets its contract: by one more byte at a time. Assumes nothing.
use Rattle.layout_name.proofs.Raised.{raised_more, raised_none, raised_all}
use Rattle.layout_name.proofs.raise_name.Goals as goal

pub loop-i-init : goal.loop-i-init
loop-i-init c = search raised_none

pub loop-i-preserved : goal.loop-i-preserved
loop-i-preserved c = search raised_more

pub returns : goal.returns
returns c = search raised_all
