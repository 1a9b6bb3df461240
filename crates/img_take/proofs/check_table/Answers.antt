-- `check_table` meets its contract.
use Rattle.std.proofs.Common.{arith, [], ◌∙◌}
use Rattle.units.specs.Told.{gives, refuses}
use Rattle.img_model.specs.Columns.{columns_in}
use Rattle.img_take.proofs.Turns.{order_asks, order_is, entries_asks, own_names, named_share, cut_treed, table_counts, table_far}
use Rattle.img_take.proofs.check_table.Goals as goal

pub returns-then-tables-d-gt262144 : goal.returns-then-tables-d-gt262144
returns-then-tables-d-gt262144 c = λ N T. table_far T.sized T.is_one (omega arith) c.args.free.0

pub entries_of-share-requires-clause-is_one : goal.entries_of-share-requires-clause-is_one
entries_of-share-requires-clause-is_one c = (entries_asks c.requires.1).0

pub entries_of-share-requires-clause-inside : goal.entries_of-share-requires-clause-inside
entries_of-share-requires-clause-inside c = (entries_asks c.requires.1).1

pub order_of-requires : goal.order_of-requires
order_of-requires c = order_asks c.requires.1

pub count_table-requires : goal.count_table-requires
count_table-requires c =
    let R = columns_in c.args.tables.request in
    let N = c.requires.0 in
    let T = c.requires.1 in (
      own_names R c.args.d N,
      cut_treed T.sized T.is_one (named_share R c.args.d N c.entries_of-share.ensures) (c.order_of.ensures ∙ order_is T),
    )

pub returns-in-Ok : goal.returns-in-Ok
returns-in-Ok c = λ N T.
    let R = columns_in c.args.tables.request in
    table_counts T.sized T.is_one (named_share R c.args.d N c.entries_of-share.ensures) (c.order_of.ensures ∙ order_is T)
    (gives c.in-Ok.next.0) c.args.free.0 (c.in-Ok.ensures (own_names R c.args.d N)) (omega arith)

pub returns-in-Err : goal.returns-in-Err
returns-in-Err c = λ N T.
    let R = columns_in c.args.tables.request in
    table_counts T.sized T.is_one (named_share R c.args.d N c.entries_of-share.ensures) (c.order_of.ensures ∙ order_is T)
    (refuses 8 []) c.args.free.0 (c.in-Err.ensures (own_names R c.args.d N)) (omega arith)
