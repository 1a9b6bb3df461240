-- `list_held` meets its contract: what listing leaves is the preorder of the held tree.
use Rattle.dirtab_held.proofs.Rooted.{listed_is}
use Rattle.dirtab_held.proofs.list_held.Goals as goal

pub returns : goal.returns
returns c t h = search listed_is
