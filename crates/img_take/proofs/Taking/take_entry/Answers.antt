-- `take_entry` meets its contract: taking is not refused.
use Rattle.std.proofs.Common.{refl, ◌∙◌}
use Rattle.img_take.proofs.Along.{one_taken, one_fits}
use Rattle.img_take.proofs.Taking.take_entry.Goals as goal

pub unwrap-requires : goal.unwrap-requires
unwrap-requires c =
    let a = c.args in
    one_fits a.share.kind.now a.share.value.now a.size.now a.first a.i a.self.now.counter.next.0 c.from.result c.take.result
    (c.from.ensures ∙ c.stored_at-bytes.ensures) c.take.ensures c.requires.fits

pub returns-clause-taken : goal.returns-clause-taken
returns-clause-taken c =
    let a = c.args in
    one_taken a.share.kind.now a.share.value.now a.size.now a.first a.i a.self.now.counter.next.0 c.from.result c.take.result
    (c.from.ensures ∙ c.stored_at-bytes.ensures) c.take.ensures a.self.now.tables.now a.self.now.sectors.now
    c.name_table.new.tables _ c.number-sector.result c.unwrap.result c.unwrap.ensures c.number-sector.ensures
    c.name_table.ensures refl
