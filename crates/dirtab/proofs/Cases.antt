-- Small arenas serialised, by computing: serialising neither refuses all nor writes nothing. Assumes nothing.
use mathlib.Core.Path.{◌≡◌, refl}
use mathlib.Core.List.{[], ◌∷◌, ◌++◌}
use lib.ListN.{replicate}
use Rattle.units.specs.Told.{gives, refuses}
use Rattle.layout_name.specs.Order.{number_order, list_order, raised}
use Rattle.name_role.specs.Roles.{given_keys, stored_of, given_order}
use Rattle.layout_node.specs.Header.{header_bytes}
use Rattle.layout_sector.specs.Counter.{sectors_for}
use Rattle.dirtab_entry.specs.Entry.{any_bad, check_of}
use Rattle.avl_model.specs.Names.{to_name}
use Rattle.avl_model.specs.Seek.{tree_at}
use Rattle.avl_arena.specs.Test.{places, inside, between, cell_ok, decoded, whole_tree, holds_tree}
use Rattle.table_model.specs.Entry.{entry_bytes}
use Rattle.table_model.specs.Place.{start_after, end_of, free_of, items}
use Rattle.table_model.specs.Table.{bytes_from, any_far, table_bytes, place_of}
use Rattle.dirtab_arena.specs.Arena.{Arena, arena, columns, is_taken, is_arena}
use Rattle.dirtab.specs.Serialise.{serialise_of, out_after}

-- nothing is held
abbrev empty : Arena
empty = arena 65535 0 (columns [] [] [] [] [] [] [] []) []

-- the files a, of one byte, and b, of 4,097, and the directory c, of 2,049, added in that order: b is at the root
abbrev three : Arena
three =
    arena 1 3
    (columns (65535 ∷ 0 ∷ 65535 ∷ []) (65535 ∷ 2 ∷ 65535 ∷ []) (1 ∷ 65535 ∷ 1 ∷ []) (1 ∷ 2 ∷ 1 ∷ []) (0 ∷ 1 ∷ 2 ∷ []) (1 ∷ 1 ∷ 1 ∷ []) (1 ∷ 4097 ∷ 2049 ∷ []) (0 ∷ 0 ∷ 1 ∷ []))
    (97 ∷ 98 ∷ 99 ∷ [])

empty_given : serialise_of empty 33 0 2048 ≡ gives (record { size = 2048; free = 33 })
unfolding serialise_of is_arena holds_tree whole_tree places decoded tree_at place_of any_far items free_of
empty_given = refl

-- 9 one byte below, and not at the size
empty_small : serialise_of empty 33 0 2047 ≡ refuses 9 []
unfolding serialise_of is_arena holds_tree whole_tree places decoded tree_at place_of any_far items free_of
empty_small = refl

-- the reported size is not rounded; b takes three sectors, a one, c two
three_given : serialise_of three 33 3 2048 ≡ gives (record { size = 48; free = 39 })
unfolding serialise_of is_arena is_taken check_of any_bad holds_tree whole_tree places inside between cell_ok decoded tree_at to_name given_order given_keys stored_of list_order
    number_order raised place_of any_far items end_of free_of start_after sectors_for
three_given = refl

-- b at 0 with the links 4 and 8, then a, then c with its size rounded; sectors in this order; 0xff up to the sector's end, and then the output as it was
three_written : out_after three 33 3 (replicate 2050 7)
    ≡ (4 ∷ 0 ∷ 8 ∷ 0 ∷ 33 ∷ 0 ∷ 0 ∷ 0 ∷ 1 ∷ 16 ∷ 0 ∷ 0 ∷ 32 ∷ 1 ∷ 98 ∷ 255
    ∷ 0 ∷ 0 ∷ 0 ∷ 0 ∷ 36 ∷ 0 ∷ 0 ∷ 0 ∷ 1 ∷ 0 ∷ 0 ∷ 0 ∷ 32 ∷ 1 ∷ 97 ∷ 255
    ∷ 0 ∷ 0 ∷ 0 ∷ 0 ∷ 37 ∷ 0 ∷ 0 ∷ 0 ∷ 0 ∷ 16 ∷ 0 ∷ 0 ∷ 16 ∷ 1 ∷ 99 ∷ 255 ∷ []) ++ (replicate 2000 255 ++ replicate 2 7)
unfolding out_after serialise_of is_arena is_taken check_of any_bad holds_tree whole_tree places inside between cell_ok decoded tree_at to_name given_order given_keys stored_of list_order
    number_order raised place_of any_far items end_of free_of start_after sectors_for table_bytes bytes_from entry_bytes header_bytes
three_written = refl

-- 6 where a column of scratch has two places, 8 where the last sector would be past the last number
three_short : serialise_of three 33 2 2048 ≡ refuses 6 []
unfolding serialise_of is_arena is_taken check_of any_bad holds_tree whole_tree places inside between cell_ok decoded tree_at to_name given_order given_keys stored_of list_order number_order raised
three_short = refl

three_far : serialise_of three 4294967290 3 2048 ≡ refuses 8 []
unfolding serialise_of is_arena is_taken check_of any_bad holds_tree whole_tree places inside between cell_ok decoded tree_at to_name given_order given_keys stored_of list_order
    number_order raised place_of any_far items end_of free_of start_after sectors_for
three_far = refl
