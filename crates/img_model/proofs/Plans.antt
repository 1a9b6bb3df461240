-- Plans at small images, so that no code that always refuses, or leaves what was lent, has these answers. Assumes nothing.
use mathlib.Core.Path.{◌≡◌, refl}
use mathlib.Core.List.{[], ◌∷◌}
use Rattle.units.specs.Told.{gives, refuses}
use Rattle.layout_name.specs.Order.{list_order, number_order, raised}
use Rattle.name_role.specs.Roles.{given_keys, stored_of, given_order}
use Rattle.layout_sector.specs.Counter.{sectors_for}
use Rattle.dirtab_entry.specs.Entry.{any_bad, check_of}
use Rattle.avl_model.specs.Tree.{bal}
use Rattle.table_model.specs.Place.{items, end_of, free_of, start_after}
use Rattle.table_model.specs.Table.{any_far, place_of}
use Rattle.dirtab_grow.specs.Grow.{grow_from}
use Rattle.img_model.specs.Shares.{is_tree}
use Rattle.img_model.specs.Plan.{total, tree_in, sizes_down, taking_all, taking_up, plan_of}
use Rattle.img_model.specs.Image.{Asked, Lent, asked, lent, fits, has_room, image_of, answer_of, lent_after}

-- a root with the files `a` and `b` of a byte each. What is lent has two places in each column, and nines in them
abbrev two_files : Asked
two_files = asked 1 2 (0 ∷ []) (2 ∷ []) (0 ∷ 1 ∷ []) (1 ∷ 1 ∷ []) (0 ∷ 0 ∷ []) (1 ∷ 1 ∷ []) (97 ∷ 98 ∷ [])

abbrev nines : Lent
nines = lent (9 ∷ 9 ∷ []) (9 ∷ 9 ∷ []) (9 ∷ 9 ∷ []) (9 ∷ 9 ∷ []) (9 ∷ 9 ∷ []) (9 ∷ 9 ∷ []) (9 ∷ 9 ∷ []) (9 ∷ 9 ∷ []) (9 ∷ 9 ∷ []) (9 ∷ 9 ∷ []) (9 ∷ 9 ∷ [])

-- the table has two entries of 16 bytes and stands at 33, the files at 34 and 35
pub two_files_lem : answer_of (image_of two_files nines) ≡ gives 36
unfolding image_of has_room fits plan_of is_tree total sizes_down tree_in grow_from check_of any_bad given_order given_keys stored_of list_order number_order raised bal taking_all taking_up place_of any_far items end_of free_of start_after sectors_for
two_files_lem = refl

pub two_files_left :
    lent_after two_files nines ≡
    lent (32 ∷ 9 ∷ []) (33 ∷ 9 ∷ []) (34 ∷ 35 ∷ []) (0 ∷ 0 ∷ []) (0 ∷ 0 ∷ []) (0 ∷ 0 ∷ []) (0 ∷ 0 ∷ []) (0 ∷ 0 ∷ []) (0 ∷ 0 ∷ []) (0 ∷ 0 ∷ []) (0 ∷ 0 ∷ [])
unfolding lent_after image_of has_room fits plan_of is_tree total sizes_down tree_in grow_from check_of any_bad given_order given_keys stored_of list_order number_order raised bal
    taking_all taking_up place_of any_far items end_of free_of start_after sectors_for
two_files_left = refl

-- a root with the directory `d`, and in it the file `f` of a byte
abbrev one_below_asked : Asked
one_below_asked = asked 2 2 (0 ∷ 1 ∷ []) (1 ∷ 1 ∷ []) (0 ∷ 1 ∷ []) (1 ∷ 1 ∷ []) (1 ∷ 0 ∷ []) (1 ∷ 1 ∷ []) (100 ∷ 102 ∷ [])

-- both tables have one entry of 16 bytes; they stand at 33 and 34, the file at 35
pub one_below : answer_of (image_of one_below_asked nines) ≡ gives 36
unfolding image_of has_room fits plan_of is_tree total sizes_down tree_in grow_from check_of any_bad given_order given_keys stored_of list_order number_order raised bal taking_all taking_up place_of any_far items end_of free_of start_after sectors_for
one_below = refl

pub one_below_left :
    lent_after one_below_asked nines ≡
    lent (16 ∷ 16 ∷ []) (33 ∷ 34 ∷ []) (34 ∷ 35 ∷ []) (0 ∷ 0 ∷ []) (0 ∷ 0 ∷ []) (0 ∷ 0 ∷ []) (0 ∷ 0 ∷ []) (0 ∷ 0 ∷ []) (0 ∷ 0 ∷ []) (0 ∷ 0 ∷ []) (0 ∷ 0 ∷ [])
unfolding lent_after image_of has_room fits plan_of is_tree total sizes_down tree_in grow_from check_of any_bad given_order given_keys stored_of list_order number_order raised bal
    taking_all taking_up place_of any_far items end_of free_of start_after sectors_for
one_below_left = refl

-- a root alone: a table of 2,048 bytes at 33
abbrev empty : Asked
empty = asked 1 0 (0 ∷ []) (0 ∷ []) [] [] [] [] []

pub root_alone_lem : answer_of (image_of empty nines) ≡ gives 34
unfolding image_of has_room fits plan_of is_tree total sizes_down tree_in grow_from taking_all taking_up place_of any_far items free_of sectors_for
root_alone_lem = refl

pub root_alone_left :
    lent_after empty nines ≡
    lent (2048 ∷ 9 ∷ []) (33 ∷ 9 ∷ []) (9 ∷ 9 ∷ []) (0 ∷ 0 ∷ []) (0 ∷ 0 ∷ []) (0 ∷ 0 ∷ []) (0 ∷ 0 ∷ []) (0 ∷ 0 ∷ []) (0 ∷ 0 ∷ []) (0 ∷ 0 ∷ []) (0 ∷ 0 ∷ [])
unfolding lent_after image_of has_room fits plan_of is_tree total sizes_down tree_in grow_from taking_all taking_up place_of any_far items free_of sectors_for
root_alone_left = refl

-- no directory: 11
pub no_directory : image_of (asked 0 0 [] [] [] [] [] [] []) nines ≡ refuses 11 []
unfolding image_of has_room fits plan_of is_tree
no_directory = refl

-- and what is given back is as it was, the scratch zero
pub no_directory_left :
    lent_after (asked 0 0 [] [] [] [] [] [] []) nines ≡
    lent (9 ∷ 9 ∷ []) (9 ∷ 9 ∷ []) (9 ∷ 9 ∷ []) (0 ∷ 0 ∷ []) (0 ∷ 0 ∷ []) (0 ∷ 0 ∷ []) (0 ∷ 0 ∷ []) (0 ∷ 0 ∷ []) (0 ∷ 0 ∷ []) (0 ∷ 0 ∷ []) (0 ∷ 0 ∷ [])
unfolding lent_after image_of has_room fits plan_of is_tree
no_directory_left = refl

-- more directories than their columns have places, and no tree either: 6, and all that was lent is as it was
pub no_room : image_of (asked 3 0 (0 ∷ []) (0 ∷ []) [] [] [] [] []) nines ≡ refuses 6 []
unfolding image_of has_room
no_room = refl

pub no_room_left : lent_after (asked 3 0 (0 ∷ []) (0 ∷ []) [] [] [] [] []) nines ≡ nines
unfolding lent_after image_of has_room
no_room_left = refl
