-- `put_all` meets its contract. The loop's invariant: what the whole order leaves of the buffer and the sectors is what the rest of it leaves of
-- the buffer and the counter that there are.
use Rattle.std.proofs.Common.{◌≡◌, length, drop}
use Rattle.dirtab_place.specs.inner.Places.{free_over}
use Rattle.dirtab_write.specs.inner.Columns.{cols_of, items_by, put_all}
use Rattle.dirtab_write.proofs.Layout.put_all.Given as goal

abbrev pub invariant-loop-number : goal.invariant-loop-number
invariant-loop-number l = record {
  long : length l.out ≡ length l.initial.out;
  counted : free_over (cols_of l.self).size (cols_of l.self).kind l.counter.next.0 (drop l.number-index l.order)
      ≡ free_over (cols_of l.self).size (cols_of l.self).kind l.initial.counter.next.0 l.order;
  put : put_all (items_by (cols_of l.self) l.initial.counter.next.0 l.order) l.initial.out
      ≡ put_all (items_by (cols_of l.self) l.counter.next.0 (drop l.number-index l.order)) l.out;
}
