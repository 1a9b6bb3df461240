-- `measure` meets its contract. The loop's invariant: the first entries end at `end`, and each takes at most 2,320 bytes with the gap before it.
use Rattle.std.proofs.Common.{◌≡◌, ◌*◌, ◌≤◌, drop}
use Rattle.dirtab_place.specs.inner.Places.{end_along}
use Rattle.dirtab_place.proofs.measure.Given as goal

abbrev pub invariant-loop-number : goal.invariant-loop-number
invariant-loop-number l = record {
  near : l.end ≤ 2320 * l.number-index;
  ends : end_along l.len 0 l.order ≡ end_along l.len l.end (drop l.number-index l.order);
}
