-- A list of entries, in columns. Assumes nothing.
use Rattle.std.specs.Prelude.{ℕ, List, get_or}
use Rattle.dirtab_entry.specs.declared.Entry as given
use Rattle.dirtab_entry.specs.declared.Entries.{Entries}
use Rattle.dirtab_entry.specs.Entry.{kind_for, name_in}

-- a list of entries in columns: how many they are, where each name starts and how long it is in the bytes lent for
-- names, size and kind
pub record Listing : Type 0 where
  pub count : ℕ
  pub start : List ℕ
  pub len : List ℕ
  pub size : List ℕ
  pub kind : List ℕ
  pub bytes : List ℕ

abbrev pub listing : ℕ → List ℕ → List ℕ → List ℕ → List ℕ → List ℕ → Listing
listing n a l z k b = record { count = n; start = a; len = l; size = z; kind = k; bytes = b }

-- the first n entries in columns that are lent
abbrev pub listing_of : ℕ → Entries → Listing
listing_of n e = listing n e.names.start.now e.names.len.now e.size.now e.kind.now e.names.bytes.now

-- entry i as it is given
abbrev pub given_in : Listing → ℕ → given.Entry
given_in L i = record {
  start = get_or L.start i 0;
  len = get_or L.len i 0;
  kind = kind_for (get_or L.kind i 0);
  size =
      get_or L.size i 0;
}

-- and its name
abbrev pub given_name : Listing → ℕ → List ℕ
given_name L i = name_in L.bytes (given_in L i)
