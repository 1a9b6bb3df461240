-- `strict::push_links` meets its contract: the numbers that it stores stand for the children's visits. Assumes nothing.
use mathlib.Core.Path.{◌∙◌}
use borrow.Author.Rules.{rules}
use Rattle.strict.proofs.Stack.{children}
use Rattle.strict.proofs.push_links.Goals as goal

pub returns : goal.returns
returns c =
    children _ _ _ _ _ _ c.args.header c.requires (c.from-own.ensures ∙ c.number.ensures ∙ c.link.ensures) (c.from-under.ensures ∙ c.number-2.ensures ∙ c.under.ensures)
    (c.from-over.ensures ∙ c.number-3.ensures ∙ c.over.ensures) (search rules) (search rules) _ _ c.push_link-t.ensures _ _ c.push_link.ensures
