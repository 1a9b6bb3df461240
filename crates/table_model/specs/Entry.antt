-- An entry of a table, and its bytes: the fourteen of the header, the name, then 0xff up to a multiple of 4.
-- Assumes nothing.
use Rattle.std.specs.Prelude.{ℕ, ◌+◌, ◌-◌, List, ◌++◌, length, replicate}
use Rattle.name_role.specs.Roles.{stored_of}
use Rattle.layout_node.specs.declared.Header.{Header}
use Rattle.layout_node.specs.Header.{header_bytes, entry_length}
use Rattle.dirtab_entry.specs.declared.Kind.{Kind}
use Rattle.dirtab_entry.specs.declared.Kind.TheVariants.{File, Directory}
use Rattle.dirtab_entry.specs.declared.Entry as given
use Rattle.dirtab_entry.specs.Entry.{stored_size, name_in}

-- an entry: its name, its kind, and the size that it is stored with (a directory's is rounded)
pub record Entry : Type 0 where
  pub name : List ℕ
  pub kind : Kind
  pub size : ℕ

-- an entry as a table has it, from a name, a kind and a size as they are given: the name as it is stored, and a
-- directory's size rounded
abbrev pub entry_with : List ℕ → Kind → ℕ → Entry
entry_with name kind size = record { name = stored_of name; kind = kind; size = stored_size kind size }

-- the same of an entry as it is given, by the place of its name in the bytes lent for names
abbrev pub entry_for : List ℕ → given.Entry → Entry
entry_for names e = entry_with (name_in names e) e.kind e.size

-- an entry as it is written: with the offset, the sector and the two links that its place in the table gives it
pub record Item : Type 0 where
  pub entry : Entry
  pub offset : ℕ
  pub sector : ℕ
  pub left : ℕ
  pub right : ℕ

-- a directory has the attribute 0x10, a file 0x20 (archive)
abbrev pub attributes : Kind → ℕ
attributes File = 32
attributes Directory = 16

-- the header of an item
abbrev pub header_for : Item → Header
header_for x = record {
  left = record { 0 = x.left };
  right = record { 0 = x.right };
  sector = record { 0 = x.sector };
  size = x.entry.size;
  attributes = attributes x.entry.kind;
  name_len = length x.entry.name;
}

-- the length of an entry
abbrev pub length_of : Entry → ℕ
length_of e = entry_length (length e.name)

-- the bytes of an item
unfoldable pub entry_bytes : Item → List ℕ
entry_bytes x = header_bytes (header_for x)
    ++ (x.entry.name ++ replicate (length_of x.entry - (14 + length x.entry.name)) 255)
