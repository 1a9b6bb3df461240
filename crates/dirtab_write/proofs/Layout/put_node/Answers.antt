-- `put_node` meets its contract: the sectors are taken, and the item is put.
use Rattle.std.proofs.Common.{ℕ, ◌*◌, refl, ap, ◌∙◌, get_or}
use Rattle.layout_bytes.specs.inner.Bytes.{put_at}
use Rattle.table_model.specs.inner.Writing.{stored}
use Rattle.dirtab_place.proofs.Taking.{taken_start, taken_free, can_take}
use Rattle.dirtab_write.specs.inner.Columns.{cols_of, item_by}
use Rattle.dirtab_write.proofs.Layout.put_node.Goals as goal

pub unwrap-requires : goal.unwrap-requires
unwrap-requires c = search can_take

pub returns-clause-counter : goal.returns-clause-counter
returns-clause-counter c = search taken_free

pub returns-clause-out : goal.returns-clause-out
returns-clause-out c =
    let start = taken_start c.args.self.entries.size.now c.args.self.entries.kind.now c.args.counter.next.0 c.args.number c.args.number _ c.take.result refl c.stored_at-bytes.ensures c.take.ensures _ c.unwrap.ensures in
    c.put_item.ensures ∙ ap (λ (s : ℕ). put_at c.args.out.now (4 * get_or c.args.self.place.now c.args.number 0) (stored (item_by (cols_of c.args.self) s c.args.number))) start
