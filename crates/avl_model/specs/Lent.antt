-- What the structs of lent columns hold, as the lists of numbers that the definitions speak of.
use Rattle.std.specs.Prelude.{◌≡◌}
use Rattle.avl_model.specs.declared.Names.{Names as LentNames}
use Rattle.avl_model.specs.declared.Links.{Links}
use Rattle.avl_model.specs.declared.LinksMut.{LinksMut}
use Rattle.avl_model.specs.Names.{Names, names_in}
use Rattle.avl_model.specs.Lists.{Lists, lists}

-- the names that columns hold
abbrev pub names_of : LentNames → Names
names_of n = names_in n.bytes.now n.start.now n.len.now

-- the root and the lists that columns to be read hold
abbrev pub lists_in : Links → Lists
lists_in l = lists l.root l.left.now l.right.now l.parent.now l.height.now

-- the root and the lists that columns to be changed hold
abbrev pub lists_of : LinksMut → Lists
lists_of l = lists l.root l.left.now l.right.now l.parent.now l.height.now

-- both lend the same columns
abbrev pub IsSame : LinksMut → LinksMut → Type 0
IsSame a b =
    (a.left.ghost_name ≡ b.left.ghost_name) × (a.right.ghost_name ≡ b.right.ghost_name)
    × (a.parent.ghost_name ≡ b.parent.ghost_name) × (a.height.ghost_name ≡ b.height.ghost_name)
