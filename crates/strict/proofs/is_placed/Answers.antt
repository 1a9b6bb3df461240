-- `strict::is_placed` meets its contract, by its three tests. Assumes nothing.
use borrow.Author.Rules.{rules}
use Rattle.strict.proofs.Judging.{too_long, crossing, in_sector_lem, on_map}
use Rattle.strict.proofs.is_placed.Goals as goal

pub is_free-requires : goal.is_free-requires
is_free-requires c = on_map _ _ c.offset.ensures _ c.number-from.ensures c.args.header _ c.entry_length.ensures (search rules) (search rules) c.requires (search rules)

pub returns-then-table-to : goal.returns-then-table-to
returns-then-table-to c = search too_long

pub returns-then-from-to : goal.returns-then-from-to
returns-then-from-to c = search crossing

pub returns : goal.returns
returns c = search in_sector_lem
