-- `put_all` meets its contract: the next entry.
use Rattle.std.proofs.Common.{rules, ℕ, sym, ap, ◌∙◌}
use Rattle.dirtab_place.specs.inner.Places.{free_over}
use Rattle.dirtab_write.specs.inner.Columns.{cols_of}
use Rattle.dirtab_write.proofs.Turns.{next_low, next_counted, next_put}
use Rattle.dirtab_write.proofs.Layout.put_all.Goals as goal

pub put_node-counter-requires : goal.put_node-counter-requires
put_node-counter-requires c =
    let total = ap (λ (s : ℕ). free_over c.args.self.entries.size.now c.args.self.entries.kind.now s c.args.order.now) c.starting_at-counter.ensures ∙ c.requires.counted in (
      rw c.loop-number.invariant.long (c.requires.numbered c.loop-number.number-index c.loop-number-test.true),
      next_low (cols_of c.args.self) c.args.order.now 0 c.loop-number.counter.next.0 c.loop-number.number-index c.requires.free
          (c.loop-number.invariant.counted ∙ total) c.loop-number-test.true,
    )

pub loop-number-preserved : goal.loop-number-preserved
loop-number-preserved c =
    let total = ap (λ (s : ℕ). free_over c.args.self.entries.size.now c.args.self.entries.kind.now s c.args.order.now) c.starting_at-counter.ensures ∙ c.requires.counted in
    let counted = c.loop-number.invariant.counted ∙ total in record {
      long = search rules;
      counted = next_counted (cols_of c.args.self) c.args.order.now c.starting_at-counter.result.next.0 c.loop-number.counter.next.0 c.loop-number.number-index c.requires.free
          counted c.loop-number-test.true _ c.put_node-counter.ensures.counter ∙ sym total;
      put = next_put (cols_of c.args.self) c.args.order.now c.starting_at-counter.result.next.0 c.loop-number.counter.next.0 c.loop-number.number-index c.requires.free
          counted c.loop-number-test.true _ c.put_node-counter.ensures.counter _ _ _ c.loop-number.invariant.put c.put_node-counter.ensures.out;
    }
