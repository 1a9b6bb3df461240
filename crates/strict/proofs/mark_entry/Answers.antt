-- `strict::mark_entry` meets its contract: an offset over 4 is a unit. Assumes nothing.
use Rattle.strict.proofs.Judging.{entry_marked_lem}
use borrow.Author.Rules.{rules}
use Rattle.strict.proofs.mark_entry.Goals as goal

pub returns : goal.returns
returns c = (search entry_marked_lem, search rules)
