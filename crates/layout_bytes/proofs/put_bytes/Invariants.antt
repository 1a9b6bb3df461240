-- `layout_bytes::put_bytes` meets its contract. The invariant: the first i bytes of s stand in their places. Assumes nothing.
use Rattle.std.proofs.Common.{◌≡◌, ◌≤◌, length}
use lib.Seq.{paste}
use Rattle.layout_bytes.proofs.put_bytes.Given as goal

abbrev pub invariant-loop-i : goal.invariant-loop-i
invariant-loop-i l = (l.i ≤ length l.s) × (length l.out ≡ length l.initial.out) × (l.out ≡ paste l.initial.out l.at l.s l.i)
