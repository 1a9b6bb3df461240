-- What an AVL tree is: order, balance, and how few nodes a height takes.
use Rattle.std.specs.Prelude.{ℕ, zero, suc, ◌+◌, ◌≤◌}
use Rattle.avl_model.specs.Tree.{Tree, leaf, node, ht}

-- the heights at each node differ by at most one
abbrev pub Avl : Tree → Type 0
Avl leaf = Unit {0}
Avl (node l i r) = (ht l ≤ suc (ht r)) × (ht r ≤ suc (ht l)) × Avl l × Avl r

-- P of every node
abbrev pub All : (ℕ → Type 0) → Tree → Type 0
All P leaf = Unit {0}
All P (node l i r) = P i × All P l × All P r

-- what is left is before, what is right is after
abbrev pub Ordered : (ℕ → ℕ → Type 0) → Tree → Type 0
Ordered lt leaf = Unit {0}
Ordered lt (node l i r) = All (λ j. lt j i) l × All (λ j. lt i j) r × Ordered lt l × Ordered lt r

-- how many nodes a tree has
abbrev pub size : Tree → ℕ
size leaf = 0
size (node l i r) = size l + suc (size r)

-- the fewest nodes of an AVL tree of a height
unfoldable pub least : ℕ → ℕ
least zero = 0
least (suc zero) = 1
least (suc (suc h)) = suc (least (suc h) + least h)
