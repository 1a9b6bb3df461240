-- `place_entries` meets its contract. The loop's invariant: what the whole order comes to is what the rest of it comes to, from the end and the column
-- that there are.
use Rattle.std.proofs.Common.{◌≡◌, ◌≤◌, length, drop}
use Rattle.dirtab_place.specs.inner.Places.{ends_over, places_over}
use Rattle.dirtab_place.proofs.place_entries.Given as goal

abbrev pub invariant-loop-number : goal.invariant-loop-number
invariant-loop-number l = record {
  near : l.end ≤ 262415;
  long : length l.place ≡ length l.initial.place;
  ends : ends_over l.len 0 l.order ≡ ends_over l.len l.end (drop l.number-index l.order);
  places : places_over l.len 0 l.order l.initial.place ≡ places_over l.len l.end (drop l.number-index l.order) l.place;
}
