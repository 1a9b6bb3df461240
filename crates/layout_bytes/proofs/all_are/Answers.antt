-- `layout_bytes::all_are` meets its contract: by what the chain answers. Assumes nothing.
use Rattle.std.proofs.Common.{◌≡◌, rules, tests}
use Rattle.std.proofs.lemmas.Iterator.{cases_from_all, YieldsList-from_slice}
use Rattle.layout_bytes.proofs.Every.{every}
use Rattle.layout_bytes.proofs.all_are.Goals as goal

pub returns : goal.returns
returns c =
    let a = c.args in
    every a.b a.s.now c.all.result
    (cases_from_all _ _ _ (λ x. x ≡ a.b) (λ x. x ≡ a.b → ⊥) c.all.ensures.ran (YieldsList-from_slice a.s.now cc) (λ x q k. search (rules, tests)) (λ x q k. search (rules, tests)))
