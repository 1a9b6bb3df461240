-- What it is for columns to hold the entries of a tree. Assumes nothing.
use Rattle.std.specs.Prelude.{ℕ, ◌≤◌, ◌<◌, length, get_or}
use Rattle.avl_model.specs.Tree.{Tree, none, cnt}
use Rattle.avl_model.specs.Names.{names_in}
use Rattle.avl_model.specs.inner.Names.{Inside}
use Rattle.avl_model.specs.inner.Seek.{Links}
use Rattle.dirtab_place.specs.inner.Places.{Sized}
use Rattle.dirtab_write.specs.inner.Columns.{Cols}

-- the first n places of the columns hold t: its links, and for each number a name of at most 255 bytes inside the
-- lent bytes, and a size that can be stored
pub record Holds (c : Cols) (n : ℕ) (t : Tree) : Type 0 where
  pub small : n ≤ none
  pub links : Links c.left c.right n t
  pub once : (j : ℕ) → cnt j t ≤ 1
  pub in_left : n ≤ length c.left
  pub in_right : n ≤ length c.right
  pub inside : (j : ℕ) → j < n → Inside (names_in c.bytes c.start c.len) j
  pub short : (j : ℕ) → j < n → get_or c.len j 0 ≤ 255
  pub sized : (j : ℕ) → j < n → Sized c.size c.kind j
