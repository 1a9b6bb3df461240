-- Adding an entry to an arena: 12, then 1, 2, 3, 5, 4, 6; on a refusal all is unchanged. Assumes nothing.
use Rattle.std.specs.Prelude.{ℕ, ◌+◌, Bool, ◌&&◌, [], ltb, length, set, Result, Ok, Err}
use Rattle.units.specs.Told.{Told, gives, refuses, pick}
use Rattle.std.specs.declared.cmp.Ordering.{Ordering}
use Rattle.dirtab_entry.specs.declared.Entry as given
use Rattle.dirtab_entry.specs.Entry.{cause_number, stored_size, name_in, check_of}
pub use Rattle.dirtab_entry.specs.Entry.{kind_number}
use Rattle.avl_model.specs.declared.Spot.{Spot}
use Rattle.avl_model.specs.declared.Spot.TheVariants.{Same, Free}
use Rattle.avl_model.specs.declared.Place.TheVariants.{Root}
use Rattle.avl_model.specs.Lists.{Lists}
use Rattle.avl_model.specs.Names.{to_name, is_less}
use Rattle.avl_model.specs.Seek.{spot_in}
use Rattle.avl_model.specs.Tree.{Tree, top, ins}
use Rattle.avl_model.specs.Columns.{written}
use Rattle.dirtab_arena.specs.Arena.{Columns, Arena, lists_of, names_of, is_arena, tree_of}
use Rattle.dirtab_arena.specs.declared.Held.{Held}
use Rattle.dirtab_add.specs.declared.AddError.{AddError}
use Rattle.dirtab_add.specs.declared.AddError.TheVariants.{BadArena, Refused}

-- the order of the new name to that of each held node
abbrev pub order_to : Arena → given.Entry → ℕ → Ordering
order_to A e i = to_name (names_of A) (name_in A.bytes e) i

-- the tree with the new entry, whose number is the count
abbrev pub grown_tree : Arena → given.Entry → Tree
grown_tree A e = ins (λ i. is_less (order_to A e i)) A.count (tree_of A)

-- with so many entries an arena is full
abbrev pub most : ℕ
most = 16384

-- there is a place more in every column, and fewer than 16,384 entries are held
unfoldable pub has_room : ℕ → Columns → Bool
has_room n c =
    ltb n most
    && (ltb n (length c.left)
    && (ltb n (length c.right) && (ltb n (length c.parent) && (ltb n (length c.height)
    && (ltb n (length c.start)
    && (ltb n (length c.len) && (ltb n (length c.size) && ltb n (length c.kind))))))))

-- what is given: the held tree's new root and count
pub record Grown : Type 0 where
  pub root : ℕ
  pub count : ℕ

-- go on where a check gives, and where no node has the name
abbrev pub if_taken : Told (Unit {0}) → Told Grown → Told Grown
if_taken (gives u) x = x
if_taken (refuses k vs) x = refuses k vs

abbrev pub if_free : Spot → Told Grown → Told Grown
if_free (Same i) x = refuses 4 []
if_free (Free q) x = x

-- THE ANSWER
unfoldable pub add_of : Arena → given.Entry → Told Grown
add_of A e =
    pick (is_arena A)
    (if_taken (check_of A.bytes e)
    (if_free (spot_in (order_to A e) (tree_of A) Root)
    (pick (has_room A.count A.columns)
    (gives (record { root = top (grown_tree A e); count = A.count + 1 }))
    (refuses 6 []))))
    (refuses 12 [])

-- the columns with the new entry: the grown tree's links, parents and heights, and the entry's own numbers at its place
unfoldable pub columns_with : Arena → given.Entry → Columns
columns_with A e =
    let S : Lists = written (grown_tree A e) (lists_of A) in
    record {
      left = S.L;
      right = S.R;
      parent = S.P;
      height = S.H;
      start = set A.columns.start A.count e.start;
      len = set A.columns.len A.count e.len;
      size = set A.columns.size A.count (stored_size e.kind e.size);
      kind = set A.columns.kind A.count (kind_number e.kind);
    }

abbrev pub if_given : Told Grown → Columns → Columns → Columns
if_given (gives g) c d = c
if_given (refuses k vs) c d = d

-- THE COLUMNS AFTERWARDS
unfoldable pub columns_after : Arena → given.Entry → Columns
columns_after A e = if_given (add_of A e) (columns_with A e) A.columns

-- what each answer of the code stands for
abbrev pub told : Result Held AddError → Told Grown
told (Ok t) = gives (record { root = t.root; count = t.count })
told (Err BadArena) = refuses 12 []
told (Err (Refused c)) = refuses (cause_number c) []
