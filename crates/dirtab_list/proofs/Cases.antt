-- Answers at small lists, so that no writer that always refuses, or always writes the empty table, has these answers. Assumes nothing.
use Rattle.std.proofs.Common.{◌≡◌, refl, [], ◌∷◌}
use Rattle.units.specs.Told.{gives, refuses}
use Rattle.table_model.specs.Place.{items, end_of, free_of, start_after}
use Rattle.table_model.specs.Table.{any_far, place_of}
use Rattle.layout_name.specs.Order.{list_order, number_order, raised}
use Rattle.name_role.specs.Roles.{given_keys, stored_of, given_order}
use Rattle.layout_sector.specs.Counter.{sectors_for}
use Rattle.dirtab_entry.specs.Entry.{any_bad, check_of}
use Rattle.avl_model.specs.Tree.{bal}
use Rattle.dirtab_grow.specs.Listing.{listing}
use Rattle.dirtab_grow.specs.Grow.{grow_from}
use Rattle.dirtab_list.specs.Whole.{whole_of}

-- an empty list: size 2,048, no sector taken
pub none_listed : whole_of (listing 0 [] [] [] [] []) 0 33 2048 ≡ gives (record { size = 2048; free = 33 })
unfolding whole_of grow_from place_of any_far items free_of
none_listed = refl

-- `abb` then `ABB`: 4, with the number of the second
pub twice_listed : whole_of (listing 2 (0 ∷ 3 ∷ []) (3 ∷ 3 ∷ []) (1 ∷ 1 ∷ []) (0 ∷ 0 ∷ []) (97 ∷ 98 ∷ 98 ∷ 65 ∷ 66 ∷ 66 ∷ [])) 2 33 2048 ≡ refuses 4 (1 ∷ [])
unfolding whole_of grow_from check_of any_bad given_order given_keys list_order number_order raised bal
twice_listed = refl

-- files `a` and `b` of size 1, from sector 34 on: two entries of 16 bytes, two sectors
pub two_listed : whole_of (listing 2 (0 ∷ 1 ∷ []) (1 ∷ 1 ∷ []) (1 ∷ 1 ∷ []) (0 ∷ 0 ∷ []) (97 ∷ 98 ∷ [])) 2 34 2048 ≡ gives (record { size = 32; free = 36 })
unfolding whole_of grow_from check_of any_bad given_order given_keys stored_of list_order number_order raised bal place_of any_far items end_of free_of start_after sectors_for
two_listed = refl

-- two columns of a place each are too short for two entries: 6, with no number
pub no_places : whole_of (listing 2 (0 ∷ []) (1 ∷ []) (1 ∷ []) (0 ∷ []) (97 ∷ [])) 2 34 2048 ≡ refuses 6 []
unfolding whole_of
no_places = refl
