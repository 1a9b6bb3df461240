-- `layout_name::same_front` meets its contract. The invariant: the fours passed are alike, so that what is left decides. Assumes nothing.
use Rattle.std.proofs.Common.{◌≡◌, ◌*◌, drop}
use Rattle.layout_name.specs.Order.{name_order}
use Rattle.layout_name.proofs.same_front.Given as goal

abbrev pub invariant-loop-i : goal.invariant-loop-i
invariant-loop-i l = name_order l.a l.b ≡ name_order (drop (4 * l.i) l.a) (drop (4 * l.i) l.b)
