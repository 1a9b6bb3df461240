-- What stands at the places of small windows that start with sector 33, computed. Assumes nothing.
use Prim.Native.Nat.{ℕ}
use mathlib.Core.Path.{◌≡◌, refl}
use mathlib.Core.List.{List, [], ◌∷◌, ◌++◌}
use mathlib.Core.Option.{Option, some, none}
use lib.ListN.{replicate}
use Rattle.units.specs.Told.{Told, gives, refuses}
use Rattle.units.specs.Lent.{Part}
use Rattle.units.specs.Region.{locate_of}
use Rattle.units.specs.declared.Region.{Region}
use Rattle.layout_bytes.specs.Bytes.{all}
use Rattle.layout_node.specs.Header.{header_of, is_blank}
use Rattle.read_entry.specs.Entry.{read_here, read_at, name_of}
use Rattle.read_entry.specs.Links.{is_in}
use Rattle.read_place.specs.Place.{header_entered, table_at, by_link, left_at, right_at, name_at}

-- an entry of 16 bytes at sector 34, of size 2,048: two links of two bytes each, the attributes, and a name of one byte
abbrev entry : ℕ → ℕ → ℕ → ℕ → ℕ → ℕ → List ℕ
entry l l' r r' attributes letter = l ∷ l' ∷ r ∷ r' ∷ 34 ∷ 0 ∷ 0 ∷ 0 ∷ 0 ∷ 8 ∷ 0 ∷ 0 ∷ attributes ∷ 1 ∷ letter ∷ 255 ∷ []

-- a directory `d` with both links, then a file `f` with a left link of 0xff and a right link of 0xffff, then no entry
abbrev window : List ℕ
window = entry 4 0 8 0 16 100 ++ (entry 255 0 255 255 32 102 ++ replicate 16 255)

-- a table of 48 bytes at the window's start, and its places
abbrev table_of : ℕ → Told Region
table_of o = table_at window (record { 0 = 33 }) (record { sector = record { 0 = 33 }; size = 48 }) o

abbrev left_of : ℕ → Told (Option ℕ)
left_of o = left_at window (record { 0 = 33 }) (record { sector = record { 0 = 33 }; size = 48 }) o

abbrev right_of : ℕ → Told (Option ℕ)
right_of o = right_at window (record { 0 = 33 }) (record { sector = record { 0 = 33 }; size = 48 }) o

abbrev name_of_lem : ℕ → Part
name_of_lem o = name_at window (record { 0 = 33 }) (record { sector = record { 0 = 33 }; size = 48 }) o

-- a directory is gone into, a file is 27, no entry 22, an offset at the table's end 23
pub tables :
    (table_of 0 ≡ gives (record { sector = record { 0 = 34 }; size = 2048 })) × (table_of 16 ≡ refuses 27 []) × (table_of 32 ≡ refuses 22 []) × (table_of 48 ≡ refuses 23 (48 ∷ []))
unfolding table_at header_entered read_at locate_of read_here header_of all is_blank
tables = (refl, refl, refl, refl)

-- a link of 0xff leads to byte 1,020, one of 0xffff nowhere
pub links :
    (left_of 0 ≡ gives (some 16)) × (right_of 0 ≡ gives (some 32)) × (left_of 16 ≡ gives (some 1020)) × (right_of 16 ≡ gives none) × (left_of 32 ≡ gives none) × (right_of 48 ≡ refuses 23 (48 ∷ []))
unfolding left_at right_at by_link is_in read_at locate_of read_here header_of all is_blank
links = (refl, refl, refl, refl, refl, refl)

-- a name stands 14 bytes into its entry; no entry, and an offset at the table's end, have the empty one at the window's start
pub names :
    (name_of_lem 0 ≡ record { start = 14; bytes = 100 ∷ [] }) × (name_of_lem 16 ≡ record { start = 30; bytes = 102 ∷ [] })
    × (name_of_lem 32 ≡ record { start = 0; bytes = [] }) × (name_of_lem 48 ≡ record { start = 0; bytes = [] })
unfolding name_at name_of read_at locate_of read_here header_of all is_blank
names = (refl, refl, refl, refl)
