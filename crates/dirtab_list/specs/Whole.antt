-- Writing a whole list as a table: 6, then adding's refusals entry by entry, then 7, 8, 9. Assumes nothing.
use Rattle.std.specs.Prelude.{ℕ, min, Bool, ◌&&◌, List, [], ◌∷◌, leb, length, Result, Ok, Err}
use Rattle.units.specs.Told.{Told, gives, refuses, pick}
use Rattle.units.specs.Lent.{cleared_if}
use Rattle.dirtab_entry.specs.Entry.{cause_number}
use Rattle.avl_model.specs.Tree.{Tree}
use Rattle.table_model.specs.Entry.{Entry, entry_for}
use Rattle.table_model.specs.Table.{Placing, place_of, table_bytes}
pub use Rattle.dirtab.specs.Serialise.{if_fits, if_written}
use Rattle.dirtab.specs.declared.Written.{Written}
use Rattle.dirtab.specs.Serialise.{told_write}
use Rattle.dirtab_list.specs.declared.ListError.{ListError}
use Rattle.dirtab_list.specs.declared.ListError.TheVariants.{Room, Refused, Write}
pub use Rattle.dirtab_grow.specs.Listing.{Listing, listing, given_in, given_name}
use Rattle.dirtab_grow.specs.Grow.{grow}

-- entry i as a table has it
abbrev pub entry_in : Listing → ℕ → Entry
entry_in L i = entry_for L.bytes (given_in L i)

-- the length of the shortest column of scratch
abbrev pub shortest : List ℕ → List ℕ → List ℕ → List ℕ → List ℕ → List ℕ → List ℕ → ℕ
shortest left right parent height key order place =
    min (length left) (min (length right)
    (min (length parent) (min (length height) (min (length key) (min (length order) (length place))))))

-- every column has a place for each entry; n is the length of the shortest column of scratch
abbrev pub has_places : Listing → ℕ → Bool
has_places L n =
    leb L.count (length L.start)
    && (leb L.count (length L.len)
    && (leb L.count (length L.size) && (leb L.count (length L.kind) && leb L.count n)))

-- go on with the tree
abbrev pub if_grown : Told Tree → (Tree → Told Placing) → Told Placing
if_grown (gives t) next = next t
if_grown (refuses k vs) next = refuses k vs

-- THE ANSWER: n is the length of the shortest column of scratch, s the first sector, `bytes` the length of the output
unfoldable pub whole_of : Listing → ℕ → ℕ → ℕ → Told Placing
whole_of L n s bytes =
    pick (has_places L n)
    (if_grown (grow L.bytes (given_in L) L.count) (λ t. if_fits bytes (place_of (entry_in L) 1 s t)))
    (refuses 6 [])

-- THE OUTPUT AFTERWARDS: the table's bytes up to the rounded size, the rest unchanged; all unchanged after a refusal
abbrev pub table_for : Told Tree → (Tree → List ℕ) → List ℕ
table_for (gives t) bytes = bytes t
table_for (refuses k vs) bytes = []

unfoldable pub out_after : Listing → ℕ → ℕ → List ℕ → List ℕ
out_after L n s out =
    if_written (whole_of L n s (length out))
    (table_for (grow L.bytes (given_in L) L.count) (λ t. table_bytes (entry_in L) 1 s t)) out

-- EACH COLUMN OF SCRATCH AFTERWARDS: unchanged after the first 6, else all zero
unfoldable pub scratch_after : Listing → ℕ → List ℕ → List ℕ
scratch_after L n xs = cleared_if (has_places L n) xs

-- what is lent: seven columns of scratch, and the output
pub record Lent : Type 0 where
  pub left : List ℕ
  pub right : List ℕ
  pub parent : List ℕ
  pub height : List ℕ
  pub key : List ℕ
  pub order : List ℕ
  pub place : List ℕ
  pub out : List ℕ

abbrev pub lent : List ℕ → List ℕ → List ℕ → List ℕ → List ℕ → List ℕ → List ℕ → List ℕ → Lent
lent left right parent height key order place out = record {
  left = left;
  right = right;
  parent = parent;
  height = height;
  key = key;
  order = order;
  place = place;
  out = out;
}

-- the length of the shortest column of scratch
abbrev pub places_in : Lent → ℕ
places_in m = shortest m.left m.right m.parent m.height m.key m.order m.place

-- the answer, by what is lent
abbrev pub answer_in : Listing → ℕ → Lent → Told Placing
answer_in L s m = whole_of L (places_in m) s (length m.out)

-- ALL THAT WAS LENT, AFTERWARDS
abbrev pub lent_after : Listing → ℕ → Lent → Lent
lent_after L s m = record {
  left = scratch_after L (places_in m) m.left;
  right = scratch_after L (places_in m) m.right;
  parent = scratch_after L (places_in m) m.parent;
  height = scratch_after L (places_in m) m.height;
  key = scratch_after L (places_in m) m.key;
  order = scratch_after L (places_in m) m.order;
  place = scratch_after L (places_in m) m.place;
  out = out_after L (places_in m) s m.out;
}

-- what each answer of the code stands for
abbrev pub told : Result Written ListError → Told Placing
told (Ok w) = gives (record { size = w.size; free = w.free.0 })
told (Err Room) = refuses 6 []
told (Err (Refused c i)) = refuses (cause_number c) (i ∷ [])
told (Err (Write e)) = told_write (Err e)
