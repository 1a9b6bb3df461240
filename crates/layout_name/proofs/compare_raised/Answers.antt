-- `layout_name::compare_raised` meets its contract: the copy has each byte raised. Assumes nothing.
use Rattle.std.proofs.Common.{rules}
use Rattle.layout_name.proofs.Raised.{raised_at}
use Rattle.layout_name.proofs.compare_raised.Goals as goal

pub compare_by-requires-clause-raises : goal.compare_by-requires-clause-raises
compare_by-requires-clause-raises c = λ i r h e. search (rules, raised_at)
