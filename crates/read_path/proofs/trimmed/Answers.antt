-- `read_path::trimmed` meets its contract: `position` gives the place of the first byte that is no slash, where there is one. Assumes nothing.
use Rattle.std.proofs.Common.{List, ℕ, ◌-◌, length, take, drop, length-drop, sym, ◌∙◌, ap, eqb, not, rules, tests, arith}
use Rattle.std.proofs.Math.Seq.{take_all}
use Rattle.std.proofs.lemmas.Iterator.{YieldsList-from_slice}
use Rattle.std.proofs.lemmas.Iterator.Search.{position_from_yields_List}
use Rattle.read_path.proofs.Places.{place_or_len, trim_is}
use Rattle.read_path.proofs.trimmed.Goals as goal

pub returns : goal.returns
returns c =
    let xs = c.args.path.now in
    let n = c.unwrap_or-start.result in
    take_all (length xs - n) (drop n xs) (simp length-drop (omega arith))
    ∙ ap (λ (i : ℕ). drop i xs) (c.unwrap_or-start.ensures
    ∙ place_or_len (λ x. not (eqb x 47)) xs _ (position_from_yields_List (λ x. not (eqb x 47)) _ _ _ c.position.ensures.ran (YieldsList-from_slice xs cc) (λ x b q k. search (rules, tests))))
    ∙ sym (trim_is xs)
