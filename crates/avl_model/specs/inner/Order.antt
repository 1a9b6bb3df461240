-- What listing a tree in preorder takes.
use Rattle.std.specs.Prelude.{ℕ, ◌≤◌, ◌≡◌, List, length}
use Rattle.avl_model.specs.Tree.{Tree, none, top, ht}
use Rattle.avl_model.specs.Laws.{size}
use Rattle.avl_model.specs.inner.Seek.{Links}

-- the links hold the tree t below the root, no higher than balanced trees of 65,535 nodes are, and a list of so
-- many places has one for each node
pub record Listed (L R : List ℕ) (root places : ℕ) : Type 0 where
  pub t : Tree
  pub n_is : length R ≡ length L
  pub small : length L ≤ none
  pub links : Links L R (length L) t
  pub root_is : root ≡ top t
  pub low : ht t ≤ 22
  pub room : size t ≤ places
