-- The columns that hold a tree, number by number: what an operation leaves is said by these as an equation.
use Rattle.std.specs.Prelude.{ℕ, suc, max, List, set}
use Rattle.avl_model.specs.Lists.{Lists, lists}
use Rattle.avl_model.specs.Tree.{Tree, leaf, node, none, top, ht}

-- a list with a number for each node of a tree written into it; p is the parent of the tree
abbrev pub write : (ℕ → Tree → ℕ → Tree → ℕ) → ℕ → Tree → List ℕ → List ℕ
write f p leaf xs = xs
write f p (node l i r) xs = set (write f i r (write f i l xs)) i (f p l i r)

-- the lists with a tree written into them: each node's children, parent and height
unfoldable pub written : Tree → Lists → Lists
written t S =
    lists (top t) (write (λ p l i r. top l) none t S.L) (write (λ p l i r. top r) none t S.R)
    (write (λ p l i r. p) none t S.P) (write (λ p l i r. suc (max (ht l) (ht r))) none t S.H)
