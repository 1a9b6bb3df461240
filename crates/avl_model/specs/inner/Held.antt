-- What the climbing functions take and leave, of the lists that they are lent. A `requires` gives such a record,
-- and the `ensures` speaks of every such record: so the trees are in no parameter, and the caller gets back its
-- own.
use Rattle.std.specs.Prelude.{ℕ, suc, ◌+◌, ◌≤◌, ◌<◌, max, ◌≡◌, length, get_or}
use Rattle.avl_model.specs.Lists.{Lists}
use Rattle.avl_model.specs.Tree.{Tree, node, none, top, ht, δ, cnt}
use Rattle.avl_model.specs.Laws.{Avl}
use Rattle.avl_model.specs.Rep.{Arr, arr_of, Rep}
use Rattle.avl_model.specs.inner.Rep.{Ctx, hole, in_l, in_r, over, cnt_k, Link, RepK, At}

-- every list has n elements
pub record Long (n : ℕ) (S : Lists) : Type 0 where
  pub l : length S.L ≡ n
  pub r : length S.R ≡ n
  pub p : length S.P ≡ n
  pub h : length S.H ≡ n

-- the tree s in the hole of k, with all its heights
pub record Held (A : Arr) (n : ℕ) (s : Tree) (k : Ctx) (hh : ℕ) : Type 0 where
  pub link : Link A k (top s)
  pub rep : Rep A n (over k) s
  pub krep : RepK A n hh k
  pub once : (j : ℕ) → cnt_k j k + cnt j s ≤ 1

-- the height of the whole, with something of height hh in the hole
abbrev pub peak : ℕ → Ctx → ℕ
peak hh hole = hh
peak hh (in_l i r k) = peak (suc (max hh (ht r))) k
peak hh (in_r l i k) = peak (suc (max hh (ht l))) k

-- with something of height hh in the hole, the heights at each node around it differ by at most one
abbrev pub Even : ℕ → Ctx → Type 0
Even hh hole = Unit {0}
Even hh (in_l i r k) = (hh ≤ suc (ht r)) × (ht r ≤ suc hh) × Even (suc (max hh (ht r))) k
Even hh (in_r l i k) = (hh ≤ suc (ht l)) × (ht l ≤ suc hh) × Even (suc (max hh (ht l))) k

-- a's right child b is more than one higher than its left child
pub record Heavy (S : Lists) (a b : ℕ) : Type 0 where
  pub x : Tree
  pub y : Tree
  pub z : Tree
  pub k : Ctx
  pub hh : ℕ
  pub long : Long (length S.L) S
  pub small : length S.L ≤ none
  pub at : At (arr_of S) (length S.L) a a x (node y b z) k hh
  pub tall : suc (ht x) < suc (max (ht y) (ht z))
  pub low : (j : ℕ) → get_or S.H j 0 < 120

-- the node i, over two subtrees with all their heights, on the way up: above it all heights are still those of before
pub record Ready (S : Lists) (i : ℕ) : Type 0 where
  pub l : Tree
  pub r : Tree
  pub k : Ctx
  pub hh : ℕ
  pub long : Long (length S.L) S
  pub small : length S.L ≤ none
  pub at : At (arr_of S) (length S.L) i i l r k hh
  pub old : get_or S.H i 0 ≡ hh
  pub grown : max (ht l) (ht r) ≤ hh
  pub bound : peak hh k < 100
  pub even : Even hh k
  pub full : (j : ℕ) → j < length S.L → 1 ≤ cnt_k j k + (cnt j l + (δ i j + cnt j r))

-- what is left: s in the hole, and t is its root
pub record Up (S : Lists) (n t : ℕ) (s : Tree) (k : Ctx) (hh : ℕ) : Type 0 where
  pub long : Long n S
  pub held : Held (arr_of S) n s k hh
  pub root : t ≡ top s

-- the lists hold the tree s
pub record Whole (S : Lists) (n : ℕ) (s : Tree) : Type 0 where
  pub long : Long n S
  pub held : Held (arr_of S) n s hole 0

-- the lists hold the balanced tree t, of all indices but `new`, which has a place in them
pub record Arena (S : Lists) (new : ℕ) : Type 0 where
  pub t : Tree
  pub long : Long (length S.L) S
  pub small : length S.L ≤ none
  pub held : Held (arr_of S) (length S.L) t hole 0
  pub new< : new < length S.L
  pub fresh : cnt new t ≡ 0
  pub full : (j : ℕ) → j < length S.L → (j ≡ new → ⊥) → 1 ≤ cnt j t
  pub even : Avl t
