-- A table: its reported size, its bytes, and when it cannot be written. Assumes nothing.
use Rattle.std.specs.Prelude.{ℕ, ◌+◌, ◌-◌, ◌/◌, Bool, true, false, List, [], ◌∷◌, ◌++◌, ltb, replicate}
use Rattle.units.specs.Told.{Told, gives, refuses, pick}
use Rattle.dirtab_entry.specs.Entry.{rounded}
use Rattle.avl_model.specs.Tree.{Tree, leaf, node}
use Rattle.table_model.specs.Entry.{Entry, Item, length_of, entry_bytes}
use Rattle.table_model.specs.Place.{end_of, free_of, items}

-- where an item ends
abbrev pub stop : Item → ℕ
stop x = x.offset + length_of x.entry

-- items one after another, each after a gap of 0xff; e is where the last one ended
unfoldable pub bytes_from : ℕ → List Item → List ℕ
bytes_from e [] = []
bytes_from e (x ∷ xs) = replicate (x.offset - e) 255 ++ (entry_bytes x ++ bytes_from (stop x) xs)

-- some offset over 4 exceeds 65,535
unfoldable pub any_far : List Item → Bool
any_far [] = false
any_far (x ∷ xs) = pick (ltb 65535 (x.offset / 4)) true (any_far xs)

-- what placing gives: the reported size and the next free sector
pub record Placing : Type 0 where
  pub size : ℕ
  pub free : ℕ

module _ (entry : ℕ → Entry) where
  -- the reported size: the last end, or 2,048 for an empty table; it is not rounded
  abbrev pub size_of : Tree → ℕ
  size_of leaf = 2048
  size_of (node l i r) = end_of entry 0 (node l i r)

  module _ (align : ℕ) where
    -- the bytes: the entries in preorder, then 0xff up to the size rounded
    unfoldable pub table_bytes : ℕ → Tree → List ℕ
    table_bytes s t = bytes_from 0 (items entry align 0 s t) ++ replicate (rounded (size_of t) - end_of entry 0 t) 255

    -- placing from a sector on: 7 where an offset over 4 exceeds 65,535, then 8 where the next free sector would
    -- exceed 4,294,967,295
    unfoldable pub place_of : ℕ → Tree → Told Placing
    place_of s t =
        pick (any_far (items entry align 0 s t)) (refuses 7 [])
        (pick (ltb 4294967295 (free_of entry align s t)) (refuses 8 [])
        (gives (record { size = size_of t; free = free_of entry align s t })))
