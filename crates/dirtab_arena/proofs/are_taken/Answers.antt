-- `are_taken` meets its contract: `all` tests each number below n (`every_number`).
use Rattle.std.proofs.Common.{◌∙◌, rules, arith, ℕ}
use Rattle.std.proofs.lemmas.Iterator.{YieldsList-from_range}
use Rattle.std.proofs.lemmas.Iterator.Search.{all_from_yields_List}
use Rattle.dirtab_entry.specs.Entry.{check_of}
use Rattle.dirtab_entry.specs.Entries.{given_by}
use Rattle.dirtab_arena.specs.Arena.{is_given}
use Rattle.dirtab_arena.proofs.Ways.{every_number}
use Rattle.dirtab_arena.proofs.are_taken.Goals as goal

pub returns : goal.returns
returns c = let e = c.args.entries in
    all_from_yields_List (λ (i : ℕ). is_given (check_of e.names.bytes.now (given_by e i))) _ _ _ c.all.ensures.ran
    (YieldsList-from_range 0 c.args.n c.args.n (search rules) (omega arith)) (λ i b q k. search rules)
    ∙ every_number (λ (i : ℕ). is_given (check_of e.names.bytes.now (given_by e i))) c.args.n
