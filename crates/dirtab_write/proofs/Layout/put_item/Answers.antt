-- `put_item` meets its contract: what is put is what is stored of the item.
use Rattle.std.proofs.Common.{refl}
use Rattle.dirtab_write.specs.inner.Columns.{cols_of}
use Rattle.dirtab_write.proofs.Steps.{item_put}
use Rattle.dirtab_write.proofs.Layout.put_item.Goals as goal

pub returns : goal.returns
returns c = item_put _ _ (cols_of c.args.self) c.args.number c.args.sector.0 _ _ _ c.node_name-name.ensures.named refl c.header-header.ensures c.put_entry.ensures
