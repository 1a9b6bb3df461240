-- Where entries stand: offsets and sectors, taken in preorder. Assumes nothing.
use Rattle.std.specs.Prelude.{ℕ, ◌+◌, ◌/◌, ◌%◌, Bool, List, [], ◌∷◌, ◌++◌, leb}
use Rattle.units.specs.Told.{pick}
use Rattle.layout_sector.specs.Counter.{sectors_for, aligned_up}
use Rattle.dirtab_entry.specs.Entry.{rounded}
use Rattle.avl_model.specs.Tree.{Tree, leaf, node}
use Rattle.table_model.specs.Entry.{Entry, Item, length_of}

-- n bytes from byte e on cross no sector line
abbrev pub whole : ℕ → ℕ → Bool
whole e n = leb (e % 2048 + n) 2048

-- where an entry of n bytes starts after what ends at e: there, or on the next sector line if it would cross one
unfoldable pub start_after : ℕ → ℕ → ℕ
start_after e n = pick (whole e n) e (rounded e)

-- `entry i` is the entry with number i
module _ (entry : ℕ → Entry) where
  -- where an entry starts and ends after what ends at e
  abbrev pub start_of : ℕ → ℕ → ℕ
  start_of e i = start_after e (length_of (entry i))

  abbrev pub stop_of : ℕ → ℕ → ℕ
  stop_of e i = start_of e i + length_of (entry i)

  -- where a tree's entries end, in preorder, after what ends at e
  unfoldable pub end_of : ℕ → Tree → ℕ
  end_of e leaf = e
  end_of e (node l i r) = end_of (end_of (stop_of e i) l) r

  -- the link to a tree whose entries come after what ends at e: its first entry's offset over 4, or 0
  abbrev pub link_to : ℕ → Tree → ℕ
  link_to e leaf = 0
  link_to e (node l i r) = start_of e i / 4

  -- sectors are taken at multiples of an alignment, which is 1 today
  module _ (align : ℕ) where
    -- the first free sector after an entry's own
    abbrev pub free_after : ℕ → ℕ → ℕ
    free_after s i = aligned_up align s + sectors_for (entry i).size

    -- the first free sector after a tree's entries, in preorder, from s on
    unfoldable pub free_of : ℕ → Tree → ℕ
    free_of s leaf = s
    free_of s (node l i r) = free_of (free_of (free_after s i) l) r

    -- a node as it is written, after what ends at e, with sectors from s on: its left tree comes after it, its
    -- right tree after that
    abbrev pub item_of : ℕ → ℕ → Tree → ℕ → Tree → Item
    item_of e s l i r = record {
      entry = entry i;
      offset = start_of e i;
      sector = aligned_up align s;
      left = link_to (stop_of e i) l;
      right = link_to (end_of (stop_of e i) l) r;
    }

    -- a tree's entries as they are written, in preorder
    unfoldable pub items : ℕ → ℕ → Tree → List Item
    items e s leaf = []
    items e s (node l i r) =
        let e₁ : ℕ = stop_of e i in
        let s₁ : ℕ = free_after s i in
        item_of e s l i r ∷ (items e₁ s₁ l ++ items (end_of e₁ l) (free_of s₁ l) r)
