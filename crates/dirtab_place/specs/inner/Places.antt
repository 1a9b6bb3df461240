-- Places along an order of numbers, over columns: proofs/Along.antt says that in preorder they are a table's.
-- Assumes nothing.
use Rattle.std.specs.Prelude.{ℕ, ◌+◌, ◌/◌, ◌≤◌, ◌<◌, ◌≡◌, Bool, true, List, [], ◌∷◌, ltb, length, get_or, set}
use Rattle.std.specs.Prelude.{Result, Ok, Err}
use Rattle.units.specs.Told.{Told, gives, refuses, pick}
use Rattle.units.specs.declared.Sector.{Sector}
use Rattle.layout_node.specs.Header.{entry_length}
use Rattle.layout_sector.specs.Counter.{sectors_for, aligned_up}
use Rattle.layout_sector.specs.declared.SectorOverflow.{SectorOverflow}
use Rattle.dirtab_entry.specs.Entry.{kind_for, is_directory, stored_size}
use Rattle.table_model.specs.Place.{start_after}
use Rattle.dirtab_place.specs.declared.TooManyDirectoryEntries.{TooManyDirectoryEntries}

-- where the entry i starts and ends after what ends at e; `len` has the lengths of the names
abbrev pub start_in : List ℕ → ℕ → ℕ → ℕ
start_in len e i = start_after e (entry_length (get_or len i 0))

abbrev pub stop_in : List ℕ → ℕ → ℕ → ℕ
stop_in len e i = start_in len e i + entry_length (get_or len i 0)

-- its offset over 4 exceeds 65,535
abbrev pub is_far : List ℕ → ℕ → ℕ → Bool
is_far len e i = ltb 65535 (start_in len e i / 4)

-- where the entries of an order end after what ends at e, or 7
unfoldable pub ends_over : List ℕ → ℕ → List ℕ → Told ℕ
ends_over len e [] = gives e
ends_over len e (i ∷ is) = pick (is_far len e i) (refuses 7 []) (ends_over len (stop_in len e i) is)

-- where they end, whether or not 7 is met
unfoldable pub end_along : List ℕ → ℕ → List ℕ → ℕ
end_along len e [] = e
end_along len e (i ∷ is) = end_along len (stop_in len e i) is

-- the reported size of a table with entries in this order: the last end, or 2,048 where there is no entry
unfoldable pub size_along : List ℕ → List ℕ → ℕ
size_along len [] = 2048
size_along len (i ∷ is) = end_along len 0 (i ∷ is)

-- a column with the offset over 4 of each stored at its number, as far as none exceeds 65,535
unfoldable pub places_over : List ℕ → ℕ → List ℕ → List ℕ → List ℕ
places_over len e [] p = p
places_over len e (i ∷ is) p =
    pick (is_far len e i) p (places_over len (stop_in len e i) is (set p i (start_in len e i / 4)))

-- the size that the entry i is stored with, and the next free sector after it took its own
abbrev pub size_in : List ℕ → List ℕ → ℕ → ℕ
size_in size kind i = stored_size (kind_for (get_or kind i 0)) (get_or size i 0)

abbrev pub free_in : List ℕ → List ℕ → ℕ → ℕ → ℕ
free_in size kind s i = aligned_up 1 s + sectors_for (size_in size kind i)

-- the next free sector after the entries of an order took theirs, or 8
unfoldable pub free_over : List ℕ → List ℕ → ℕ → List ℕ → Told ℕ
free_over size kind s [] = gives s
free_over size kind s (i ∷ is) =
    pick (ltb 4294967295 (free_in size kind s i)) (refuses 8 []) (free_over size kind (free_in size kind s i) is)

-- what is asked of an order to place it: each number has a name of at most 255 bytes, and a place in a column of so
-- many
pub record Placeable (order len : List ℕ) (places : ℕ) : Type 0 where
  pub in_len : (k : ℕ) → k < length order → get_or order k 0 < length len
  pub in_place : (k : ℕ) → k < length order → get_or order k 0 < places
  pub short : (k : ℕ) → k < length order → get_or len (get_or order k 0) 0 ≤ 255

-- what measuring takes of an order: not more than 16,384 numbers, each with a name of at most 255 bytes
pub record Measurable (order len : List ℕ) : Type 0 where
  pub few : length order ≤ 16384
  pub in_len : (k : ℕ) → k < length order → get_or order k 0 < length len
  pub short : (k : ℕ) → k < length order → get_or len (get_or order k 0) 0 ≤ 255

-- a number has a size, which can be rounded if it is a directory's
pub record Sized (size kind : List ℕ) (i : ℕ) : Type 0 where
  pub in_size : i < length size
  pub in_kind : i < length kind
  pub low : is_directory (kind_for (get_or kind i 0)) ≡ true → get_or size i 0 ≤ 4294965248

-- what is asked of an order to count its sectors
abbrev pub Countable : List ℕ → List ℕ → List ℕ → Type 0
Countable order size kind = (k : ℕ) → k < length order → Sized size kind (get_or order k 0)

-- what each answer stands for
abbrev pub told_end : Result ℕ TooManyDirectoryEntries → Told ℕ
told_end (Ok e) = gives e
told_end (Err e) = refuses 7 []

abbrev pub told_free : Result Sector SectorOverflow → Told ℕ
told_free (Ok s) = gives s.0
told_free (Err e) = refuses 8 []
