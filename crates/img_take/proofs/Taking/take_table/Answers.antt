-- `take_table` meets its contract.
use Rattle.std.proofs.Common.{refl, ◌∙◌}
use Rattle.img_model.specs.Columns.{columns_in, share_in}
use Rattle.img_take.specs.inner.Taken.{taking_in}
use Rattle.img_take.proofs.Turns.{order_asks, order_is, entries_asks, own_names, named_share, fill_any, cut_fillable, take_asks, take_low, take_is}
use Rattle.img_take.proofs.Taking.take_table.Goals as goal

pub entries_of-share-requires-clause-is_one : goal.entries_of-share-requires-clause-is_one
entries_of-share-requires-clause-is_one c = (entries_asks c.requires.turn.1.0).0

pub entries_of-share-requires-clause-inside : goal.entries_of-share-requires-clause-inside
entries_of-share-requires-clause-inside c = (entries_asks c.requires.turn.1.0).1

pub fill_sizes-first-requires : goal.fill_sizes-first-requires
fill_sizes-first-requires c =
    let R = columns_in c.args.tables.request in
    let N = c.requires.turn.0 in
    let T = c.requires.turn.1.0 in
    fill_any (share_in c.entries_of-share.result) (own_names R c.args.d N)
    (cut_fillable T.sized T.is_one (named_share R c.args.d N c.entries_of-share.ensures) refl)

pub order_of-requires : goal.order_of-requires
order_of-requires c = order_asks c.requires.turn.1.0

pub take_entries-requires-clause-enters : goal.take_entries-requires-clause-enters
take_entries-requires-clause-enters c =
    let R = columns_in c.args.tables.request in
    let N = c.requires.turn.0 in
    let T = c.requires.turn.1.0 in
    let f = c.fill_sizes-first in
    take_asks T.sized T.is_one (named_share R c.args.d N c.entries_of-share.ensures) (c.order_of.ensures ∙ order_is T)
    f.new.size f.result f.ensures.answer f.ensures.sizes _ _ _ refl f.auto.size c.requires.long.0 c.requires.long.1

pub take_entries-requires-clause-fits : goal.take_entries-requires-clause-fits
take_entries-requires-clause-fits c =
    let R = columns_in c.args.tables.request in
    let N = c.requires.turn.0 in
    let T = c.requires.turn.1.0 in
    let p = c.requires.turn.1.1 in
    let f = c.fill_sizes-first in
    take_low T.sized T.is_one (named_share R c.args.d N c.entries_of-share.ensures) (c.order_of.ensures ∙ order_is T)
    f.new.size f.result f.ensures.answer f.ensures.sizes _ (taking_in c.args.self.now) p.0 refl p.1

pub returns-clause-taken : goal.returns-clause-taken
returns-clause-taken c = λ N T p e.
    let R = columns_in c.args.tables.request in
    let f = c.fill_sizes-first in
    take_is T.sized T.is_one (named_share R c.args.d N c.entries_of-share.ensures) (c.order_of.ensures ∙ order_is T)
    f.new.size f.result f.ensures.answer f.ensures.sizes _ (taking_in c.args.self.now) p (taking_in c.take_entries.new.self)
    refl c.take_entries.ensures.taken e
