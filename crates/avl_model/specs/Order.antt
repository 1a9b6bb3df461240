-- The numbers of a tree in preorder, and what listing them takes.
use Rattle.std.specs.Prelude.{ℕ, List, [], ◌∷◌, ◌++◌}
use Rattle.avl_model.specs.Tree.{Tree, leaf, node}

-- a node's number, then those left of it, then those right of it
abbrev pub order : Tree → List ℕ
order leaf = []
order (node l i r) = i ∷ (order l ++ order r)
