-- `strict::push_link` meets its contract: a store at the stack's height is a push. Assumes nothing.
use Rattle.strict.proofs.Stack.{absent_link, link}
use Rattle.strict.proofs.push_link.Goals as goal

pub returns-then-n-eq0 : goal.returns-then-n-eq0
returns-then-n-eq0 c = absent_link _ _ _ _ _ c.number-n.ensures c.then-n-eq0.either

pub returns : goal.returns
returns c = search link
