-- What the struct of lent columns of scratch holds.
use Rattle.std.specs.Prelude.{ℕ, ◌≡◌, List}
use Rattle.avl_model.specs.Lists.{Lists, lists}
use Rattle.dirtab_list.specs.declared.ListScratch.{ListScratch}
use Rattle.dirtab_list.specs.Whole.{Lent, lent}

-- all that is lent: the scratch, and the output
abbrev pub lent_by : ListScratch → List ℕ → Lent
lent_by s out = lent s.left.now s.right.now s.parent.now s.height.now s.key.now s.order.now s.place.now out

-- the columns of the tree, with no root yet
abbrev pub lists_by : ListScratch → Lists
lists_by s = lists 65535 s.left.now s.right.now s.parent.now s.height.now

-- both lend the same columns
abbrev pub IsSame : ListScratch → ListScratch → Type 0
IsSame a b =
    (a.left.ghost_name ≡ b.left.ghost_name) × (a.right.ghost_name ≡ b.right.ghost_name)
    × (a.parent.ghost_name ≡ b.parent.ghost_name) × (a.height.ghost_name ≡ b.height.ghost_name)
    × (a.key.ghost_name ≡ b.key.ghost_name) × (a.order.ghost_name ≡ b.order.ghost_name)
    × (a.place.ghost_name ≡ b.place.ghost_name)
