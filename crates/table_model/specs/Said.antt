-- What is said of the items of a table: they are inside, cross no sector line and do not overlap, nor do their
-- sectors. Assumes nothing.
use Rattle.std.specs.Prelude.{ℕ, ◌+◌, ◌-◌, ◌/◌, ◌%◌, ◌≤◌, ◌≡◌, List, [], ◌∷◌, length}
use Rattle.layout_sector.specs.Counter.{sectors_for}
use Rattle.avl_model.specs.Tree.{Tree, leaf, node}
use Rattle.table_model.specs.Entry.{Entry, Item}
use Rattle.table_model.specs.Table.{stop}

-- what fits an entry's fields: a name of at most 255 bytes and a size of four bytes. Adding has seen to both
pub record Fits (e : Entry) : Type 0 where
  pub short : length e.name ≤ 255
  pub small : e.size ≤ 4294967295

-- its offset over 4 fits a link: refusal 7 is not met
abbrev pub LinkFits : Item → Type 0
LinkFits x = x.offset / 4 ≤ 65535

-- P of every item
abbrev pub AllIn : (Item → Type 0) → List Item → Type 0
AllIn P [] = Unit {0}
AllIn P (x ∷ xs) = P x × AllIn P xs

-- an item stands from byte a on and ends by byte b, its first and last byte are in one sector, and its offset is a
-- multiple of 4
pub record Stands (a b : ℕ) (x : Item) : Type 0 where
  pub from : a ≤ x.offset
  pub to : stop x ≤ b
  pub whole : x.offset / 2048 ≡ (stop x - 1) / 2048
  pub four : x.offset % 4 ≡ 0

-- no two overlap: each starts where all before it have ended
abbrev pub Apart : List Item → Type 0
Apart [] = Unit {0}
Apart (x ∷ xs) = AllIn (λ y. stop x ≤ y.offset) xs × Apart xs

-- the sectors of no two overlap: each starts where those of all before it have ended
abbrev pub last_sector : Item → ℕ
last_sector x = x.sector + sectors_for x.entry.size

abbrev pub SectorsApart : List Item → Type 0
SectorsApart [] = Unit {0}
SectorsApart (x ∷ xs) = AllIn (λ y. last_sector x ≤ y.sector) xs × SectorsApart xs

-- the sectors that a tree's entries take in all
unfoldable pub sectors_in : (ℕ → Entry) → Tree → ℕ
sectors_in entry leaf = 0
sectors_in entry (node l i r) = sectors_for (entry i).size + (sectors_in entry l + sectors_in entry r)
