-- `fit_shares` meets its contract.
use Rattle.std.proofs.Common.{rules, tests, leb, min, ◌∙◌}
use Rattle.std.proofs.lemmas.Iterator.{YieldsList-from_slice}
use Rattle.std.proofs.lemmas.Iterator.Search.{all_from_yields_List}
use Rattle.img_room.proofs.Adding.{all_fit}
use Rattle.img_room.proofs.fit_shares.Goals as goal

pub returns : goal.returns
returns c =
    let a = c.args in
    all_from_yields_List (λ count. leb (min count a.entries) a.n) _ _ c.all.result c.all.ensures.ran
    (YieldsList-from_slice a.share.now cc) (λ x b q k. search (rules, tests)) ∙ all_fit a.n a.entries a.share.now
