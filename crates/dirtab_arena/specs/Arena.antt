-- An arena: the columns of a table being built, the names lent with them, and what is held in them. Assumes nothing.
use Rattle.std.specs.Prelude.{ℕ, Bool, true, false, ◌&&◌, List, leb, length, get_or}
use Rattle.units.specs.Told.{Told, gives, refuses}
use Rattle.dirtab_entry.specs.declared.Entry as given
use Rattle.dirtab_entry.specs.Entry.{kind_for, check_of}
use Rattle.avl_model.specs.Lists.{Lists, lists}
use Rattle.avl_model.specs.Names.{Names, names_in}
use Rattle.avl_model.specs.Tree.{Tree}
use Rattle.avl_arena.specs.Test.{every, holds_tree, decoded}
use Rattle.table_model.specs.Entry.{Entry, entry_for}

-- the columns, by node: links, parent and height of the tree; the name's place and length, the size and the kind of
-- the entry
pub record Columns : Type 0 where
  pub left : List ℕ
  pub right : List ℕ
  pub parent : List ℕ
  pub height : List ℕ
  pub start : List ℕ
  pub len : List ℕ
  pub size : List ℕ
  pub kind : List ℕ

abbrev pub columns : List ℕ → List ℕ → List ℕ → List ℕ → List ℕ → List ℕ → List ℕ → List ℕ → Columns
columns l r p h a n z k = record { left = l; right = r; parent = p; height = h; start = a; len = n; size = z; kind = k }

-- the held tree's root and count, the columns, and the bytes lent for names
pub record Arena : Type 0 where
  pub root : ℕ
  pub count : ℕ
  pub columns : Columns
  pub bytes : List ℕ

abbrev pub arena : ℕ → ℕ → Columns → List ℕ → Arena
arena t n c b = record { root = t; count = n; columns = c; bytes = b }

-- the same, of all its columns one by one
abbrev pub arena_in : ℕ → ℕ → List ℕ → List ℕ → List ℕ → List ℕ → List ℕ → List ℕ → List ℕ → List ℕ → List ℕ → Arena
arena_in t n l r p h a m z k b = arena t n (columns l r p h a m z k) b

-- its tree's columns, and its names
abbrev pub lists_of : Arena → Lists
lists_of A = lists A.root A.columns.left A.columns.right A.columns.parent A.columns.height

abbrev pub names_of : Arena → Names
names_of A = names_in A.bytes A.columns.start A.columns.len

-- entry i as its columns give it, and as a table has it
abbrev pub given_at : Arena → ℕ → given.Entry
given_at A i = record {
  start = get_or A.columns.start i 0;
  len = get_or A.columns.len i 0;
  kind = kind_for (get_or A.columns.kind i 0);
  size = get_or A.columns.size i 0;
}

abbrev pub entry_at : Arena → ℕ → Entry
entry_at A i = entry_for A.bytes (given_at A i)

-- adding takes the entry
abbrev pub is_given : Told (Unit {0}) → Bool
is_given (gives u) = true
is_given (refuses k vs) = false

unfoldable pub is_taken : Arena → ℕ → Bool
is_taken A i = is_given (check_of A.bytes (given_at A i))

-- THE ARENA TEST (else 12): the held nodes are one ordered, balanced tree, parents and heights true, of entries
-- that adding takes
unfoldable pub is_arena : Arena → Bool
is_arena A =
    leb A.count (length A.columns.size)
    && (leb A.count (length A.columns.kind)
    && (holds_tree (lists_of A) (names_of A) A.count
    && every (is_taken A) A.count))

-- the tree that is held
abbrev pub tree_of : Arena → Tree
tree_of A = decoded (lists_of A) A.count
