-- The functional model: a binary tree of node indices, its heights, and AVL insertion on it.
use Rattle.std.specs.Prelude.{ℕ, suc, ◌+◌, max, Bool, true, false, ltb, eqb}

-- no tree, or a node with a tree on the left and one on the right
pub data Tree : Type 0 where
  leaf : Tree
  node : Tree → ℕ → Tree → Tree

-- the number that stands for no node: above every index of a slice
abbrev pub none : ℕ
none = 65535

-- the index of a tree's root
abbrev pub top : Tree → ℕ
top leaf = none
top (node l i r) = i

-- the height of a tree: nodes on its longest way down
abbrev pub ht : Tree → ℕ
ht leaf = 0
ht (node l i r) = suc (max (ht l) (ht r))

-- 1 for true, 0 for false
abbrev pub one : Bool → ℕ
one true = 1
one false = 0

-- 1 where i is j, else 0
unfoldable pub δ : ℕ → ℕ → ℕ
δ i j = one (eqb i j)

-- how often j stands in a tree
abbrev pub cnt : ℕ → Tree → ℕ
cnt j leaf = 0
cnt j (node l i r) = cnt j l + (δ i j + cnt j r)

-- the left rotation of a, whose right child is b, by a test: the subtree y between them is higher than b's other
-- subtree z
abbrev pub turn_left_by : Bool → Tree → ℕ → Tree → ℕ → Tree → Tree
turn_left_by false x a y b z = node (node x a y) b z
turn_left_by true x a leaf b z = node x a (node leaf b z)
turn_left_by true x a (node y c y2) b z = node (node x a y) c (node y2 b z)

-- b, the root of the right subtree of a, comes up; or the root of the subtree between them, where that is the higher
abbrev pub turn_left : Tree → ℕ → Tree → Tree
turn_left x a leaf = node x a leaf
turn_left x a (node y b z) = turn_left_by (ltb (ht z) (ht y)) x a y b z

-- `turn_left_by` with left and right exchanged
abbrev pub turn_right_by : Bool → Tree → ℕ → Tree → ℕ → Tree → Tree
turn_right_by false x b y a z = node x b (node y a z)
turn_right_by true x b leaf a z = node (node x b leaf) a z
turn_right_by true x b (node y c y2) a z = node (node x b y) c (node y2 a z)

-- `turn_left` with left and right exchanged
abbrev pub turn_right : Tree → ℕ → Tree → Tree
turn_right leaf a z = node leaf a z
turn_right (node x b y) a z = turn_right_by (ltb (ht x) (ht y)) x b y a z

-- by two tests: the left side is more than one higher, and the right side is
abbrev pub bal_by : Bool → Bool → Tree → ℕ → Tree → Tree
bal_by true q l i r = turn_right l i r
bal_by false true l i r = turn_left l i r
bal_by false false l i r = node l i r

-- the node i over l and r, rotated where the heights differ by more than one
unfoldable pub bal : Tree → ℕ → Tree → Tree
bal l i r = bal_by (ltb (suc (ht r)) (ht l)) (ltb (suc (ht l)) (ht r)) l i r

-- by the test that the new node goes to the left: l2 and r2 are l and r with it
abbrev pub ins_by : Bool → Tree → Tree → ℕ → Tree → Tree → Tree
ins_by true l l2 i r r2 = bal l2 i r
ins_by false l l2 i r r2 = bal l i r2

-- the node `new` put in; `less i` says whether its name is less than the node i's
abbrev pub ins : (ℕ → Bool) → ℕ → Tree → Tree
ins less new leaf = node leaf new leaf
ins less new (node l i r) = ins_by (less i) l (ins less new l) i r (ins less new r)
