-- THE STARRED CASES, said of the operations: those that are computed as one table (agree/specs/Cases.antt), and
-- those that speak of every table. Assumes nothing.
use Rattle.std.specs.Prelude.{ℕ, ◌≤◌, ◌≡◌, length, take, drop}
use mathlib.Core.List.{List, [], ◌∷◌, Memᴰ}
use Rattle.units.specs.Told.{gives, refuses}
use Rattle.dirtab_entry.specs.declared.Entry as given
use Rattle.dirtab_entry.specs.Entry.{name_in, check_of}
use Rattle.avl_model.specs.Tree.{Tree, node, ht}
use Rattle.avl_model.specs.Laws.{Avl, All, size}
use Rattle.table_model.specs.Entry.{Entry, Item, entry_bytes}
use Rattle.table_model.specs.Place.{start_of, stop_of, end_of, item_of, items}
use Rattle.table_model.specs.Said.{Fits}
use Rattle.dirtab_arena.specs.Arena.{Arena, arena}
use Rattle.dirtab_add.specs.Add.{Grown, add_of, columns_after}
use Rattle.dirtab_list.specs.Whole.{Listing, listing, whole_of, out_after}
use Rattle.agree.specs.Cases as computed
use Rattle.agree_causes.specs.Thin.{thin}

-- `abb` and `ABB`, files of no bytes, as a list
abbrev pub abb_in_both_cases : Listing
abb_in_both_cases =
    listing 2 (0 ∷ 3 ∷ []) (3 ∷ 3 ∷ []) (0 ∷ 0 ∷ []) (0 ∷ 0 ∷ [])
    (0x61 ∷ 0x62 ∷ 0x62 ∷ 0x41 ∷ 0x42 ∷ 0x42 ∷ [])

pub record Starred : Type 0 where
  pub table : computed.Starred
  -- `abb` then `ABB`: adding answers 4 and changes nothing, whatever was there before; writing the list answers 4
  -- with the second, and leaves the output as it was
  pub added : (A : Arena) (e f : given.Entry) (g : Grown) → add_of A e ≡ gives g
      → name_in A.bytes e ≡ 0x61 ∷ 0x62 ∷ 0x62 ∷ [] → name_in A.bytes f ≡ 0x41 ∷ 0x42 ∷ 0x42 ∷ []
      → check_of A.bytes f ≡ gives tt
      → (add_of (arena g.root g.count (columns_after A e) A.bytes) f ≡ refuses 4 [])
      × (columns_after (arena g.root g.count (columns_after A e) A.bytes) f ≡ columns_after A e)
  pub whole : (s : ℕ) (out : List ℕ)
      → (whole_of abb_in_both_cases 2 s (length out) ≡ refuses 4 (1 ∷ [])) × (out_after abb_in_both_cases 2 s out ≡ out)
  -- an entry whose left or right child starts at offset 262,128 has the link 65,532, and the bytes 0xfc 0xff; the
  -- left child comes after the entry, the right one after the left tree
  pub left_65532 : (entry : ℕ → Entry) (align e s i j : ℕ) (a b r : Tree)
      → start_of entry (stop_of entry e i) j ≡ 262128
      → ((item_of entry align e s (node a j b) i r).left ≡ 65532)
      × (take 2 (entry_bytes (item_of entry align e s (node a j b) i r)) ≡ 0xfc ∷ 0xff ∷ [])
  pub right_65532 : (entry : ℕ → Entry) (align e s i j : ℕ) (l a b : Tree)
      → start_of entry (end_of entry (stop_of entry e i) l) j ≡ 262128
      → ((item_of entry align e s l i (node a j b)).right ≡ 65532)
      × (take 2 (drop 2 (entry_bytes (item_of entry align e s l i (node a j b)))) ≡ 0xfc ∷ 0xff ∷ [])
  -- no table has a link of 0xffff (`table` has that an item at 262,144 is 7, and that none is at 262,140)
  pub never_0xffff : (entry : ℕ → Entry) (align s : ℕ) (x : Tree) → All (λ i. Fits (entry i)) x → (y : Item)
      → Memᴰ y (items entry align 0 s x) → (y.left ≡ 0xffff → ⊥) × (y.right ≡ 0xffff → ⊥)
  -- the fewest entries at height 19 are 10,945, at 20 are 17,710: a balanced tree has so many, and none has fewer
  pub thin_19 : Avl (thin 19) × ((ht (thin 19) ≡ 19) × (size (thin 19) ≡ 10945))
  pub thin_20 : Avl (thin 20) × ((ht (thin 20) ≡ 20) × (size (thin 20) ≡ 17710))
  pub fewest_19 : (t : Tree) → Avl t → ht t ≡ 19 → 10945 ≤ size t
  pub fewest_20 : (t : Tree) → Avl t → ht t ≡ 20 → 17710 ≤ size t
