-- A tree with a hole, for the way down and up, and what it is for arrays to hold what is around the hole.
use Rattle.std.specs.Prelude.{ℕ, suc, ◌+◌, ◌≤◌, ◌<◌, max, ◌≡◌}
use Rattle.avl_model.specs.Tree.{Tree, node, none, top, ht, δ, cnt, bal}
use Rattle.avl_model.specs.Rep.{Arr, Rep}

-- a tree with a hole, from the hole up: the hole is left of i, with r on the right, or right of i, with l on the left
pub data Ctx : Type 0 where
  hole : Ctx
  in_l : ℕ → Tree → Ctx → Ctx
  in_r : Tree → ℕ → Ctx → Ctx

-- the parent of the hole
abbrev pub over : Ctx → ℕ
over hole = none
over (in_l i r k) = i
over (in_r l i k) = i

-- the tree with t in the hole
abbrev pub plug : Ctx → Tree → Tree
plug hole t = t
plug (in_l i r k) t = plug k (node t i r)
plug (in_r l i k) t = plug k (node l i t)

-- the same, rebalanced all the way up
abbrev pub climb : Ctx → Tree → Tree
climb hole t = t
climb (in_l i r k) t = climb k (bal t i r)
climb (in_r l i k) t = climb k (bal l i t)

-- how often j stands around the hole
abbrev pub cnt_k : ℕ → Ctx → ℕ
cnt_k j hole = 0
cnt_k j (in_l i r k) = δ i j + (cnt j r + cnt_k j k)
cnt_k j (in_r l i k) = δ i j + (cnt j l + cnt_k j k)

-- the place of the hole holds h
abbrev pub Link : Arr → Ctx → ℕ → Type 0
Link A hole h = A.root ≡ h
Link A (in_l i r k) h = A.L i ≡ h
Link A (in_r l i k) h = A.R i ≡ h

-- a node on the way up, whose child on the other side is o, where the hole had height hh
pub record Step (A : Arr) (n hh : ℕ) (i : ℕ) (o : Tree) (k : Ctx) : Type 0 where
  pub fits : i < n
  pub up : A.P i ≡ over k
  pub high : A.H i ≡ suc (max hh (ht o))
  pub sib : Rep A n i o
  pub link : Link A k i

-- the arrays hold what is around the hole, but for the hole's own place; hh is the height of what was in the hole
abbrev pub RepK : Arr → ℕ → ℕ → Ctx → Type 0
RepK A n hh hole = Unit {0}
RepK A n hh (in_l i r k) = (A.R i ≡ top r) × Step A n hh i r k × RepK A n (suc (max hh (ht r))) k
RepK A n hh (in_r l i k) = (A.L i ≡ top l) × Step A n hh i l k × RepK A n (suc (max hh (ht l))) k

-- the node i, over l and r, in the hole of k, whose place holds h. Nothing is said of the height held for i.
pub record At (A : Arr) (n h i : ℕ) (l r : Tree) (k : Ctx) (hh : ℕ) : Type 0 where
  pub fits : i < n
  pub left : A.L i ≡ top l
  pub right : A.R i ≡ top r
  pub up : A.P i ≡ over k
  pub lrep : Rep A n i l
  pub rrep : Rep A n i r
  pub link : Link A k h
  pub krep : RepK A n hh k
  pub once : (j : ℕ) → cnt_k j k + (cnt j l + (δ i j + cnt j r)) ≤ 1
