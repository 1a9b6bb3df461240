-- `count_sectors` meets its contract. The loop's invariant: what the whole order comes to is what the rest of it comes to, from the counter that there
-- is.
use Rattle.std.proofs.Common.{◌≡◌, drop}
use Rattle.dirtab_place.specs.inner.Places.{free_over}
use Rattle.dirtab_place.proofs.count_sectors.Given as goal

abbrev pub invariant-loop-number : goal.invariant-loop-number
invariant-loop-number l = free_over l.size l.kind l.initial.counter.next.0 l.order ≡ free_over l.size l.kind l.counter.next.0 (drop l.number-index l.order)
