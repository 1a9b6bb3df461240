-- What it is for four arrays and a root to hold a tree. An array is taken as the function from an index to what
-- stands there.
use Rattle.std.specs.Prelude.{ℕ, suc, ◌<◌, max, ◌≡◌, List, get_or}
use Rattle.avl_model.specs.Lists.{Lists}
use Rattle.avl_model.specs.Tree.{Tree, leaf, node, top, ht}

-- the arena: root, left, right, parent, height
pub record Arr : Type 0 where
  pub root : ℕ
  pub L : ℕ → ℕ
  pub R : ℕ → ℕ
  pub P : ℕ → ℕ
  pub H : ℕ → ℕ

-- the root and four lists as functions from an index
abbrev pub arr : ℕ → List ℕ → List ℕ → List ℕ → List ℕ → Arr
arr t l r p h = record {
  root = t;
  L = λ i. get_or l i 0;
  R = λ i. get_or r i 0;
  P = λ i. get_or p i 0;
  H = λ i. get_or h i 0;
}

-- the four lists and the root as functions from an index
abbrev pub arr_of : Lists → Arr
arr_of S = arr S.root S.L S.R S.P S.H

-- the node i, below p, over l and r
pub record Cell (A : Arr) (n p : ℕ) (l : Tree) (i : ℕ) (r : Tree) : Type 0 where
  pub fits : i < n
  pub left : A.L i ≡ top l
  pub right : A.R i ≡ top r
  pub up : A.P i ≡ p
  pub high : A.H i ≡ suc (max (ht l) (ht r))

-- the arrays hold the tree, below p
abbrev pub Rep : Arr → ℕ → ℕ → Tree → Type 0
Rep A n p leaf = Unit {0}
Rep A n p (node l i r) = Cell A n p l i r × Rep A n i l × Rep A n i r
