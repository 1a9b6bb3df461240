-- `layout_name::raise_name` meets its contract. The invariant: the copy holds the first bytes raised, and zeros past them. Assumes nothing.
use Rattle.std.proofs.Common.{◌≡◌, take}
use Rattle.layout_name.specs.inner.Order.{raised_copy}
use Rattle.layout_name.proofs.raise_name.Given as goal

abbrev pub invariant-loop-i : goal.invariant-loop-i
invariant-loop-i l = l.copy ≡ raised_copy (take l.i l.name)
