-- Entries in columns, by number, and the items that are written of them: proofs/Bridge.antt says that they are a
-- table's. Assumes nothing.
use Rattle.std.specs.Prelude.{ℕ, ◌+◌, ◌*◌, ◌≤◌, ◌<◌, ◌≡◌, List, [], ◌∷◌, eqb, length, get_or}
use Rattle.units.specs.Told.{gives, pick}
use Rattle.layout_bytes.specs.inner.Bytes.{put_at}
use Rattle.layout_node.specs.declared.Header.{Header}
use Rattle.layout_sector.specs.Counter.{aligned_up}
use Rattle.dirtab_entry.specs.declared.Entry as given
use Rattle.dirtab_entry.specs.Entry.{kind_for}
use Rattle.avl_model.specs.Tree.{none}
use Rattle.avl_model.specs.Names.{names_in}
use Rattle.avl_model.specs.inner.Names.{Inside}
use Rattle.table_model.specs.Entry.{Entry, Item, attributes, entry_for}
use Rattle.table_model.specs.inner.Writing.{stored, Spaced}
use Rattle.dirtab_place.specs.inner.Places.{size_in, free_in, free_over, Sized}
use Rattle.dirtab_write.specs.declared.Layout.{Layout}

-- the columns: the children, the offsets over 4, where each name starts and how long it is, the sizes and the
-- kinds; and the bytes lent for names
pub record Cols : Type 0 where
  pub left : List ℕ
  pub right : List ℕ
  pub place : List ℕ
  pub start : List ℕ
  pub len : List ℕ
  pub size : List ℕ
  pub kind : List ℕ
  pub bytes : List ℕ

abbrev pub cols : List ℕ → List ℕ → List ℕ → List ℕ → List ℕ → List ℕ → List ℕ → List ℕ → Cols
cols l r p a n z k b = record { left = l; right = r; place = p; start = a; len = n; size = z; kind = k; bytes = b }

-- the columns that are lent
abbrev pub cols_of : Layout → Cols
cols_of t = cols t.branches.left.now t.branches.right.now t.place.now t.entries.names.start.now
    t.entries.names.len.now t.entries.size.now t.entries.kind.now t.entries.names.bytes.now

-- entry i as it is given, and as a table has it
abbrev pub given_by : Cols → ℕ → given.Entry
given_by c i = record {
  start = get_or c.start i 0;
  len = get_or c.len i 0;
  kind = kind_for (get_or c.kind i 0);
  size = get_or c.size i 0;
}

abbrev pub entry_by : Cols → ℕ → Entry
entry_by c i = entry_for c.bytes (given_by c i)

-- the link to a child: its offset over 4, or 0 for none
unfoldable pub link_by : List ℕ → ℕ → ℕ
link_by p j = pick (eqb j none) 0 (get_or p j 0)

-- a child that is there has a place
abbrev pub LinkIn : List ℕ → ℕ → Type 0
LinkIn p j = (j ≡ none → ⊥) → j < length p

-- the header of entry i, with the sector s and a name of n bytes
abbrev pub header_by : Cols → ℕ → ℕ → ℕ → Header
header_by c i s n = record {
  left = record { 0 = link_by c.place (get_or c.left i 0) };
  right = record { 0 = link_by c.place (get_or c.right i 0) };
  sector = record { 0 = s };
  size = size_in c.size c.kind i;
  attributes = attributes (kind_for (get_or c.kind i 0));
  name_len = n;
}

-- entry i as it is written, with the sector s
abbrev pub item_by : Cols → ℕ → ℕ → Item
item_by c s i = record {
  entry = entry_by c i;
  offset = 4 * get_or c.place i 0;
  sector = s;
  left = link_by c.place (get_or c.left i 0);
  right = link_by c.place (get_or c.right i 0);
}

-- the entries of an order as they are written, with sectors from s on
unfoldable pub items_by : Cols → ℕ → List ℕ → List Item
items_by c s [] = []
items_by c s (i ∷ is) = item_by c (aligned_up 1 s) i ∷ items_by c (free_in c.size c.kind s i) is

-- items stored in a buffer one after another
unfoldable pub put_all : List Item → List ℕ → List ℕ
put_all [] d = d
put_all (x ∷ xs) d = put_all xs (put_at d x.offset (stored x))

-- what a header asks of a number
pub record Headed (c : Cols) (i : ℕ) : Type 0 where
  pub in_left : i < length c.left
  pub in_right : i < length c.right
  pub to_left : LinkIn c.place (get_or c.left i 0)
  pub to_right : LinkIn c.place (get_or c.right i 0)
  pub sized : Sized c.size c.kind i

-- what an entry asks of a number, in a buffer of m bytes
pub record Numbered (c : Cols) (m i : ℕ) : Type 0 where
  pub headed : Headed c i
  pub in_place : i < length c.place
  pub inside : Inside (names_in c.bytes c.start c.len) i
  pub short : get_or c.len i 0 ≤ 255
  pub fits : 4 * get_or c.place i 0 + 14 + get_or c.len i 0 ≤ m

-- what the entries of an order ask, with sectors from s on
pub record Writes (c : Cols) (order : List ℕ) (s m : ℕ) : Type 0 where
  pub numbered : (k : ℕ) → k < length order → Numbered c m (get_or order k 0)
  pub free : ℕ
  pub counted : free_over c.size c.kind s order ≡ gives free

-- the same, in the first n bytes of it, where they stand one after another
pub record Spaces (c : Cols) (order : List ℕ) (s n m : ℕ) : Type 0 where
  pub writes : Writes c order s m
  pub room : n ≤ m
  pub spaced : Spaced 0 n (items_by c s order)
