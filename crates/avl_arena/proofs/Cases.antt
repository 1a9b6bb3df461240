-- Small arenas, tested by computing: the test neither takes all nor refuses all.
use Rattle.std.proofs.Common.{ℕ, ◌≡◌, refl, Bool, true, false, [], ◌∷◌}
use Rattle.layout_name.specs.Order.{number_order, list_order, raised}
use Rattle.name_role.specs.Roles.{given_keys, given_order}
use Rattle.avl_model.specs.Lists.{lists}
use Rattle.avl_model.specs.Names.{Names, names_in, to_name}
use Rattle.avl_model.specs.Seek.{tree_at}
use Rattle.avl_arena.specs.Test.{places, inside, between, cell_ok, whole_tree, holds_tree}

-- two names of one byte each
abbrev pair : ℕ → ℕ → Names
pair x y = names_in (x ∷ y ∷ []) (0 ∷ 1 ∷ []) (1 ∷ 1 ∷ [])

-- the node 0, at the root, and right of it the node 1
abbrev two : Names → ℕ → Bool
two N n = holds_tree (lists 0 (65535 ∷ 65535 ∷ []) (1 ∷ 65535 ∷ []) (65535 ∷ 0 ∷ []) (2 ∷ 1 ∷ [])) N n

-- an empty arena has no root
empty : holds_tree (lists 65535 [] [] [] []) (names_in [] [] []) 0 ≡ true
unfolding holds_tree whole_tree places tree_at
empty = refl

empty_with_root : holds_tree (lists 0 [] [] [] []) (names_in [] [] []) 0 ≡ false
unfolding holds_tree whole_tree places tree_at
empty_with_root = refl

-- a, and after it B
in_order : two (pair 97 66) 2 ≡ true
unfolding holds_tree whole_tree places inside between cell_ok tree_at to_name given_order given_keys list_order number_order raised
in_order = refl

-- A after a is the same name
same_name : two (pair 97 65) 2 ≡ false
unfolding holds_tree whole_tree places inside between cell_ok tree_at to_name given_order given_keys list_order number_order raised
same_name = refl

-- one node held: the second is outside the count; three: there are no such places
one_held : two (pair 97 66) 1 ≡ false
unfolding holds_tree whole_tree places inside between cell_ok tree_at to_name given_order given_keys list_order number_order raised
one_held = refl

over_full : two (pair 97 66) 3 ≡ false
unfolding holds_tree places
over_full = refl

-- a name that reaches past the lent bytes
past_the_bytes : two (names_in (97 ∷ 66 ∷ []) (0 ∷ 1 ∷ []) (1 ∷ 2 ∷ [])) 2 ≡ false
unfolding holds_tree places inside
past_the_bytes = refl

-- a node that is its own child
looped : holds_tree (lists 0 (0 ∷ []) (65535 ∷ []) (65535 ∷ []) (1 ∷ [])) (names_in (97 ∷ []) (0 ∷ []) (1 ∷ [])) 1 ≡ false
unfolding holds_tree whole_tree places inside between cell_ok tree_at to_name given_order given_keys list_order number_order raised
looped = refl

-- a node that no link reaches
lost : holds_tree (lists 0 (65535 ∷ 65535 ∷ []) (65535 ∷ 65535 ∷ []) (65535 ∷ 65535 ∷ []) (1 ∷ 1 ∷ [])) (pair 97 66) 2 ≡ false
unfolding holds_tree whole_tree places inside between cell_ok tree_at to_name given_order given_keys list_order number_order raised
lost = refl
