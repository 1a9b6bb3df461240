-- A table of three entries, by computing. Assumes nothing.
use Rattle.std.proofs.Common.{ℕ, zero, suc, ◌≡◌, refl, [], ◌∷◌, ◌++◌, replicate}
use Rattle.units.specs.Told.{gives}
use Rattle.layout_node.specs.Header.{header_bytes}
use Rattle.layout_sector.specs.Counter.{sectors_for}
use Rattle.dirtab_entry.specs.declared.Kind.TheVariants.{File, Directory}
use Rattle.avl_model.specs.Tree.{Tree, leaf, node}
use Rattle.table_model.specs.Entry.{Entry, entry_bytes}
use Rattle.table_model.specs.Place.{start_after, end_of, free_of, items}
use Rattle.table_model.specs.Table.{bytes_from, any_far, table_bytes, place_of}

-- 0 is the file a of one byte, 1 the file b of 4,097 bytes, 2 the directory c of 4,096
abbrev entry : ℕ → Entry
entry zero = record { name = 97 ∷ []; kind = File; size = 1 }
entry (suc zero) = record { name = 98 ∷ []; kind = File; size = 4097 }
entry (suc (suc i)) = record { name = 99 ∷ []; kind = Directory; size = 4096 }

abbrev three : Tree
three = node (node leaf 0 leaf) 1 (node leaf 2 leaf)

-- the reported size is not rounded, and an empty table has 2,048 bytes
placed : place_of entry 1 33 three ≡ gives (record { size = 48; free = 39 })
unfolding place_of any_far items end_of free_of start_after sectors_for
placed = refl

nothing_placed : place_of entry 1 33 leaf ≡ gives (record { size = 2048; free = 33 })
unfolding place_of any_far items free_of
nothing_placed = refl

-- the bytes: links in fours, sectors in preorder, padding and the rest of the sector 0xff
bytes : table_bytes entry 1 33 three
    ≡ (4 ∷ 0 ∷ 8 ∷ 0 ∷ 33 ∷ 0 ∷ 0 ∷ 0 ∷ 1 ∷ 16 ∷ 0 ∷ 0 ∷ 32 ∷ 1 ∷ 98 ∷ 255
    ∷ 0 ∷ 0 ∷ 0 ∷ 0 ∷ 36 ∷ 0 ∷ 0 ∷ 0 ∷ 1 ∷ 0 ∷ 0 ∷ 0 ∷ 32 ∷ 1 ∷ 97 ∷ 255
    ∷ 0 ∷ 0 ∷ 0 ∷ 0 ∷ 37 ∷ 0 ∷ 0 ∷ 0 ∷ 0 ∷ 16 ∷ 0 ∷ 0 ∷ 16 ∷ 1 ∷ 99 ∷ 255 ∷ []) ++ replicate 2000 255
unfolding table_bytes bytes_from items entry_bytes header_bytes end_of free_of start_after sectors_for
bytes = refl

-- nothing but 0xff
nothing_written : table_bytes entry 1 33 leaf ≡ replicate 2048 255
unfolding table_bytes bytes_from items end_of
nothing_written = refl
