-- `read_path::part_len` meets its contract: `position` gives the place of the first slash, where there is one. Assumes nothing.
use Rattle.std.proofs.Common.{sym, ◌∙◌, eqb, rules, tests}
use Rattle.std.proofs.lemmas.Iterator.{YieldsList-from_slice}
use Rattle.std.proofs.lemmas.Iterator.Search.{position_from_yields_List}
use Rattle.read_path.proofs.Places.{place_or_len, first_len_is}
use Rattle.read_path.proofs.part_len.Goals as goal

pub returns-clause-len : goal.returns-clause-len
returns-clause-len c =
    let xs = c.args.path.now in
    c.unwrap_or.ensures
    ∙ place_or_len (λ x. eqb x 47) xs _ (position_from_yields_List (λ x. eqb x 47) _ _ _ c.position.ensures.ran (YieldsList-from_slice xs cc) (λ x b q k. search (rules, tests)))
    ∙ sym (first_len_is xs)
