-- `img_tree::mark_share` meets its contract. The loop's invariant is `Part` of proofs/Turn.antt: the first i entries are marked.
use mathlib.Core.Path.{◌≡◌}
use lib.ListN.{length}
use Rattle.img_tree.specs.inner.Marks.{entries}
use Rattle.img_tree.proofs.Turn.{Part}
use Rattle.img_tree.proofs.mark_share.Given as goal

abbrev pub invariant-loop-i : goal.invariant-loop-i
invariant-loop-i l = (length l.value ≡ length l.kind) × Part l.initial.named (entries (length l.kind) l.kind l.value) l.d l.i l.named
