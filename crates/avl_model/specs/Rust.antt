-- Insertion as the Rust does it: the rotation is chosen by the way that the climb came, and not by the heights of
-- the grandchildren.
use Rattle.std.specs.Prelude.{ℕ, suc, Bool, true, false, not, ltb}
use Rattle.avl_model.specs.Tree.{Tree, leaf, node, ht, turn_left_by, turn_right_by}

-- a tree by a test
abbrev pub pick : Bool → Tree → Tree → Tree
pick true a b = a
pick false a b = b

-- the node i, come to from the left (true) or from the right; below, the climb came by `less`
abbrev pub rust : (ℕ → Bool) → Bool → Tree → ℕ → Tree → Tree
rust less true leaf i r = node leaf i r
rust less true (node x b y) i r =
    pick (ltb (suc (ht r)) (ht (node x b y))) (turn_right_by (not (less b)) x b y i r) (node (node x b y) i r)
rust less false l i leaf = node l i leaf
rust less false l i (node y b z) =
    pick (ltb (suc (ht l)) (ht (node y b z))) (turn_left_by (less b) l i y b z) (node l i (node y b z))

-- the side to which the new node goes
abbrev pub rust_by : (ℕ → Bool) → Bool → Tree → Tree → ℕ → Tree → Tree → Tree
rust_by less true l l2 i r r2 = rust less true l2 i r
rust_by less false l l2 i r r2 = rust less false l i r2

-- the node `new` put in
abbrev pub ins_rust : (ℕ → Bool) → ℕ → Tree → Tree
ins_rust less new leaf = node leaf new leaf
ins_rust less new (node l i r) = rust_by less (less i) l (ins_rust less new l) i r (ins_rust less new r)
