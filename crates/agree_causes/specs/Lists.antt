-- The lists of entries that are spoken of, and what writing one answers: four answers, each with its cause, and
-- with the earlier causes not there. Assumes nothing.
use Rattle.std.specs.Prelude.{ℕ, zero, suc, ◌+◌, ◌≤◌, ◌<◌, ◌≡◌, true, ◌⊎◌, length, get_or}
use mathlib.Core.List.{List, [], ◌∷◌, Memᴰ}
use Rattle.units.specs.Told.{Told, gives, refuses}
use Rattle.name_role.specs.Roles.{given_keys}
use Rattle.layout_sector.specs.Counter.{sectors_for}
use Rattle.dirtab_entry.specs.Entry.{rounded}
use Rattle.avl_model.specs.Tree.{Tree}
use Rattle.avl_model.specs.Names.{names_in, name_at}
use Rattle.table_model.specs.Entry.{Entry, Item}
use Rattle.table_model.specs.Place.{items}
use Rattle.table_model.specs.Table.{Placing, size_of}
use Rattle.table_model.specs.Said.{AllIn}
use Rattle.dirtab_arena.specs.Arena.{Columns}
use Rattle.dirtab.specs.Serialise as serialise
use Rattle.dirtab_list.specs.Whole.{Listing, given_name, entry_in, has_places, Lent, places_in}
use Rattle.agree.specs.Given.{grown}
use Rattle.agree_list.specs.InTurn.{Wide}

-- NAMES: at most 16,384, each of 1 to 255 bytes that lie in the bytes lent, none of these bytes 0 or above 127, and
-- no two names equal once raised
pub record Fair (n : ℕ) (start len bytes : List ℕ) : Type 0 where
  pub few : n ≤ 16384
  pub some : (i : ℕ) → i < n → 1 ≤ get_or len i 0
  pub short : (i : ℕ) → i < n → get_or len i 0 ≤ 255
  pub inside : (i : ℕ) → i < n → get_or start i 0 + get_or len i 0 ≤ length bytes
  pub ascii : (i k : ℕ) → i < n → k < get_or len i 0
      → (1 ≤ get_or bytes (get_or start i 0 + k) 0) × (get_or bytes (get_or start i 0 + k) 0 ≤ 127)
  pub differ : (i j : ℕ) → i < n → j < n
      → given_keys (name_at (names_in bytes start len) i) ≡ given_keys (name_at (names_in bytes start len) j) → i ≡ j

-- A LIST with such names; each size is a number of four bytes, as the column's type says
pub record FairList (L : Listing) : Type 0 where
  pub named : Fair L.count L.start L.len L.bytes
  pub sizes : (i : ℕ) → get_or L.size i 0 ≤ 4294967295

-- the tree of the list's entries, put in one after another, and its items, with sectors from s on
abbrev pub tree_for : Listing → Tree
tree_for L = grown (given_name L) L.count

abbrev pub items_for : Listing → ℕ → List Item
items_for L s = items (entry_in L) 1 0 s (tree_for L)

-- an output is long enough: it has 262,144 bytes, or as many as the table's size, rounded
abbrev pub Roomy : Listing → List ℕ → Type 0
Roomy L out = (262144 ≤ length out) ⊎ (rounded (size_of (entry_in L) (tree_for L)) ≤ length out)

-- ENOUGH MEMORY to write it: every column has a place for each entry, and the output is long enough
pub record Enough (L : Listing) (m : Lent) : Type 0 where
  pub places : has_places L (places_in m) ≡ true
  pub output : Roomy L m.out

-- the same to add its entries in turn to an arena with columns c, and to serialise that
pub record EnoughInTurn (L : Listing) (c : Columns) (m : serialise.Lent) : Type 0 where
  pub places : has_places L L.count ≡ true
  pub wide : Wide L.count c
  pub scratch : L.count ≤ serialise.places_in m
  pub output : Roomy L m.out

-- the sectors that the first n entries take together, and the next free sector after all of a list's, from s on
unfoldable pub sectors_of : (ℕ → Entry) → ℕ → ℕ
sectors_of entry zero = 0
sectors_of entry (suc n) = sectors_of entry n + sectors_for (entry n).size

abbrev pub free_for : Listing → ℕ → ℕ
free_for L s = s + sectors_of (entry_in L) L.count

-- entry i is a directory whose size cannot be rounded
pub record TooLarge (L : Listing) (i : ℕ) : Type 0 where
  pub directory : get_or L.kind i 0 ≡ 1
  pub large : 4294965248 < get_or L.size i 0

-- the highest offset whose link fits two bytes
abbrev pub farthest : ℕ
farthest = 262143

-- an item starts low enough for a link
abbrev pub Near : Item → Type 0
Near y = y.offset ≤ farthest

-- the last sector number
abbrev pub last_sector : ℕ
last_sector = 4294967295

-- WHAT WRITING ANSWERS, by its cause: p the reported size and the next free sector; 5 with the first directory
-- whose size cannot be rounded; 7 where an item would start past 262,143; 8 where the next free sector would exceed
-- 4,294,967,295
pub data WriteOutcome (L : Listing) (s : ℕ) : Told Placing → Type 0 where
  written : ((i : ℕ) → i < L.count → TooLarge L i → ⊥) → AllIn Near (items_for L s) → free_for L s ≤ last_sector
      → WriteOutcome L s (gives (record { size = size_of (entry_in L) (tree_for L); free = free_for L s }))
  five : (i : ℕ) → i < L.count → TooLarge L i → ((j : ℕ) → j < i → TooLarge L j → ⊥)
      → WriteOutcome L s (refuses 5 (i ∷ []))
  seven : ((i : ℕ) → i < L.count → TooLarge L i → ⊥) → (y : Item) → Memᴰ y (items_for L s)
      → farthest < y.offset → WriteOutcome L s (refuses 7 [])
  eight : ((i : ℕ) → i < L.count → TooLarge L i → ⊥) → AllIn Near (items_for L s) → last_sector < free_for L s
      → WriteOutcome L s (refuses 8 [])
