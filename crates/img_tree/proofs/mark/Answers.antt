-- `img_tree::mark` meets its contract.
use Rattle.img_tree.proofs.OneMark.{not_later, no_such, taken_before_lem, first_named}
use borrow.Author.Rules.{rules}
use Rattle.img_tree.proofs.mark.Goals as goal

pub returns-then-x-d : goal.returns-then-x-d
returns-then-x-d c = not_later _ _ _ (search rules)

pub returns-then-named-x : goal.returns-then-named-x
returns-then-named-x c = no_such _ _ _ (search rules) (search rules)

pub returns-then-named-at-ne0 : goal.returns-then-named-at-ne0
returns-then-named-at-ne0 c = taken_before_lem _ _ _ (search rules) (search rules) (search rules)

pub returns : goal.returns
returns c = first_named _ _ _ (search rules) (search rules) (search rules)
