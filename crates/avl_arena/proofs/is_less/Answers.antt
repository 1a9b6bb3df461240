-- `avl_arena::is_less` meets its contract: by the order that `compare` gives of the two names.
use Rattle.avl_model.specs.Lent.{names_of}
use Rattle.avl_arena.proofs.Tested.{by_names}
use Rattle.avl_arena.proofs.is_less.Goals as goal

pub returns : goal.returns
returns c =
    by_names (names_of c.args.names) c.args.i c.args.j c.node_name.ensures.named c.node_name-2.ensures.named c.compare.ensures
    c.is_lt.ensures
