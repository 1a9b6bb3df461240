-- `check_tables` meets its contract. The loop's invariant: the rest of the directories comes to what all come to.
use Rattle.std.proofs.Common.{◌+◌, ◌≡◌, get_or, drop, length}
use Rattle.layout_sector.specs.Counter.{sectors_for}
use Rattle.avl_model.specs.Names.{Names}
use Rattle.img_model.specs.Plan.{total}
use Rattle.img_model.specs.Columns.{columns_in}
use Rattle.img_take.specs.inner.Forward.{with_names, Sized}
use Rattle.img_take.proofs.Turns.{Checked}
use Rattle.img_take.proofs.check_tables.Given as goal

abbrev pub invariant-loop-d : goal.invariant-loop-d
invariant-loop-d l =
    (l.to ≡ total (drop l.d l.tables.request.share.now))
    × ((N : Names) → Sized (with_names (columns_in l.tables.request) N) l.tables.sized.now l.tables.order.now (length l.initial.size) →
    Checked (with_names (columns_in l.tables.request) N) l.tables.sized.now l.d (33 + sectors_for (get_or l.tables.sized.now 0 0)) l.free.0)
