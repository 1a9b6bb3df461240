-- `all_marked` meets its contract.
use Rattle.std.proofs.Common.{rules, tests, eqb, ◌∙◌}
use Rattle.std.proofs.lemmas.Iterator.{YieldsList-from_slice}
use Rattle.std.proofs.lemmas.Iterator.Adapters.{YieldsList-from_skip}
use Rattle.std.proofs.lemmas.Iterator.Search.{all_from_yields_List}
use Rattle.img_tree.proofs.Named.{all_named}
use Rattle.img_tree.proofs.all_marked.Goals as goal

pub returns : goal.returns
returns c =
    let xs = c.args.named.now in
    all_from_yields_List (λ m. eqb m 1) _ _ c.all.result c.all.ensures.ran
    (YieldsList-from_skip 1 (YieldsList-from_slice xs cc) cc) (λ x b q k. search (rules, tests)) ∙ all_named xs
