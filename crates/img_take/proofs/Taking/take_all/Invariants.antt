-- `take_all` meets its contract. The loop's invariant: the rest of the directories takes what all take.
use Rattle.std.proofs.Common.{◌≡◌, drop, length}
use Rattle.units.specs.Told.{gives}
use Rattle.avl_model.specs.Names.{Names}
use Rattle.img_model.specs.Plan.{Taking, total, taking_up}
use Rattle.img_model.specs.Columns.{columns_in}
use Rattle.img_take.specs.inner.Forward.{with_names, Sized}
use Rattle.img_take.specs.inner.Taken.{taking_in, IsAsLong, IsSame}
use Rattle.img_take.proofs.Turns.{TakenSo}
use Rattle.img_take.proofs.Taking.take_all.Given as goal

abbrev pub invariant-loop-d : goal.invariant-loop-d
invariant-loop-d l =
    (l.to ≡ total (drop l.d l.tables.request.share.now))
    × ((N : Names) → Sized (with_names (columns_in l.tables.request) N) l.tables.sized.now l.tables.order.now (length l.initial.size) →
    (p : Taking) → taking_up (with_names (columns_in l.tables.request) N) l.tables.sized.now (length l.tables.request.from.now) 0 (taking_in l.initial.self) ≡ gives p →
    TakenSo (with_names (columns_in l.tables.request) N) l.tables.sized.now l.d (taking_in l.initial.self) (taking_in l.self))
    × IsAsLong l.initial.self l.self × IsSame l.initial.self l.self
