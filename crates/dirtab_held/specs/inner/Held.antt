-- Columns that hold the entries of a tree below a root, and a list of its numbers in preorder. Assumes nothing.
use Rattle.std.specs.Prelude.{ℕ, ◌≤◌, ◌≡◌, List, [], length}
use Rattle.avl_model.specs.declared.Branches.{Branches}
use Rattle.avl_model.specs.Tree.{Tree, none, top, ht}
use Rattle.avl_model.specs.Laws as laws
use Rattle.avl_model.specs.Order.{order}
use Rattle.avl_model.specs.inner.Seek.{Links}
use Rattle.dirtab_entry.specs.declared.Entries.{Entries}
use Rattle.table_model.specs.Entry.{Entry}
use Rattle.dirtab_write.specs.inner.Columns.{Cols, cols, entry_by}
use Rattle.dirtab_write.specs.inner.Holds.{Holds}

-- the entries of columns
abbrev pub entries_in : List ℕ → List ℕ → List ℕ → List ℕ → List ℕ → ℕ → Entry
entries_in start len size kind bytes = entry_by (cols [] [] [] start len size kind bytes)

-- the same of columns that are lent
abbrev pub entries_of : Entries → ℕ → Entry
entries_of e = entries_in e.names.start.now e.names.len.now e.size.now e.kind.now e.names.bytes.now

-- the columns that are lent with a tree and its entries, in which no entry has its place yet
abbrev pub cols_in : Branches → Entries → Cols
cols_in b e = cols b.left.now b.right.now [] e.names.start.now e.names.len.now e.size.now e.kind.now e.names.bytes.now

-- the first n places of two columns hold the links of t, which is below the root and no higher than balanced trees are
pub record Hung (left right : List ℕ) (root n : ℕ) (t : Tree) : Type 0 where
  pub small : n ≤ none
  pub links : Links left right n t
  pub in_left : n ≤ length left
  pub in_right : n ≤ length right
  pub root_is : root ≡ top t
  pub low : ht t ≤ 22
  pub size_is : laws.size t ≡ n

-- the first n places of the columns hold the entries of t, which is below the root
pub record Rooted (c : Cols) (root n : ℕ) (t : Tree) : Type 0 where
  pub holds : Holds c n t
  pub root_is : root ≡ top t
  pub low : ht t ≤ 22
  pub size_is : laws.size t ≡ n

-- the columns hold the entries of t, `listed` is its preorder, and there are so many places for its offsets
pub record Listing (listed : List ℕ) (c : Cols) (places : ℕ) (t : Tree) : Type 0 where
  pub listed_is : listed ≡ order t
  pub holds : Holds c (length listed) t
  pub room : length listed ≤ places
