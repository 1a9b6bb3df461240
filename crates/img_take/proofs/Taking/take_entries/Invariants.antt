-- `take_entries` meets its contract. The loop's invariant: the rest of the order takes what the whole of it takes.
use Rattle.std.proofs.Common.{◌≡◌, drop}
use Rattle.img_take.specs.inner.Forward.{take_along}
use Rattle.img_take.specs.inner.Taken.{taking_in, IsAsLong, IsSame}
use Rattle.img_take.proofs.Taking.take_entries.Given as goal

abbrev pub invariant-loop-number : goal.invariant-loop-number
invariant-loop-number l =
    (take_along l.share.kind.now l.share.value.now l.size l.first (taking_in l.initial.self) l.order
    ≡ take_along l.share.kind.now l.share.value.now l.size l.first (taking_in l.self) (drop l.number-index l.order))
    × IsAsLong l.initial.self l.self × IsSame l.initial.self l.self
