-- `layout_name::compare_by` meets its contract. The invariant: what is left of the names from i on decides. Assumes nothing.
use Rattle.std.proofs.Common.{◌≡◌, drop}
use Rattle.layout_name.specs.Order.{name_order}
use Rattle.layout_name.proofs.compare_by.Given as goal

abbrev pub invariant-loop-i : goal.invariant-loop-i
invariant-loop-i g l = name_order l.a l.b ≡ name_order (drop l.i l.a) (drop l.i l.b)
