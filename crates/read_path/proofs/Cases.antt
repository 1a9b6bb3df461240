-- Paths computed over small windows. Assumes nothing.
use Prim.Native.Nat.{ℕ}
use mathlib.Core.Path.{◌≡◌, refl}
use mathlib.Core.List.{List, [], ◌∷◌, ◌++◌}
use lib.ListN.{replicate}
use Rattle.units.specs.Told.{Told, gives, refuses}
use Rattle.units.specs.Region.{locate_of}
use Rattle.layout_bytes.specs.Bytes.{all}
use Rattle.layout_name.specs.Order.{raised, number_order, list_order}
use Rattle.name_role.specs.Roles.{stored_keys, sought_keys, sought_order, bad_sought}
use Rattle.layout_node.specs.Header.{header_of, is_blank}
use Rattle.read_entry.specs.Entry.{Placed, read_here, read_at, name_of}
use Rattle.read_entry.specs.Links.{is_in, absent_under}
use Rattle.read_lookup.specs.Lookup.{by_link, step_at, chain_from, lookup_by}
use Rattle.read_lookup.proofs.Cases.{file, first, of_size}
use Rattle.read_path.specs.Path.{trim, split, unended, parts_from, path_by, path_of}

-- the path to follow from a table of 16 bytes, at the window's first sector, under rule one
abbrev follow : List ℕ → List ℕ → Told Placed
follow w path = path_of 1 w first (of_size 16) path

-- an entry `d` of 16 bytes, a directory, with its table's sector and size
abbrev directory : ℕ → ℕ → List ℕ
directory sector size = 0 ∷ 0 ∷ 0 ∷ 0 ∷ sector ∷ 0 ∷ 0 ∷ 0 ∷ size ∷ 0 ∷ 0 ∷ 0 ∷ 16 ∷ 1 ∷ 100 ∷ 255 ∷ []

-- the answer for the one entry of a window
abbrev entry : ℕ → ℕ → ℕ → Told Placed
entry sector size attributes = gives (record {
  header = record { left = record { 0 = 0 }; right = record { 0 = 0 }; sector = record { 0 = sector }; size = size; attributes = attributes; name_len = 1 };
  place = 0;
})

-- `a/` of a file finds it, and `a/b` and `a//` are 27: the archive bit is not the directory's
pub file_slash : follow (file 0 0 34 97) (97 ∷ 47 ∷ []) ≡ entry 34 1 32
unfolding path_of absent_under path_by trim split unended parts_from lookup_by bad_sought chain_from step_at by_link is_in read_at locate_of read_here header_of all is_blank name_of sought_order sought_keys stored_keys list_order number_order raised
file_slash = refl

pub file_inside : follow (file 0 0 34 97) (97 ∷ 47 ∷ 98 ∷ []) ≡ refuses 27 []
unfolding path_of absent_under path_by trim split unended parts_from lookup_by bad_sought chain_from step_at by_link is_in read_at locate_of read_here header_of all is_blank name_of sought_order sought_keys stored_keys list_order number_order raised
file_inside = refl

pub file_two_slashes : follow (file 0 0 34 97) (97 ∷ 47 ∷ 47 ∷ []) ≡ refuses 27 []
unfolding path_of absent_under path_by trim split unended parts_from lookup_by bad_sought chain_from step_at by_link is_in read_at locate_of read_here header_of all is_blank name_of sought_order sought_keys stored_keys list_order number_order raised
file_two_slashes = refl

-- a part that is missing is 22, with no count, whichever part it is
pub missing_part : follow (directory 33 16) (120 ∷ []) ≡ refuses 22 []
unfolding path_of absent_under path_by trim split unended parts_from lookup_by bad_sought chain_from step_at by_link is_in read_at locate_of read_here header_of all is_blank name_of sought_order sought_keys stored_keys list_order number_order raised
missing_part = refl

pub missing_before : follow (directory 33 16) (120 ∷ 47 ∷ 100 ∷ []) ≡ refuses 22 []
unfolding path_of absent_under path_by trim split unended parts_from lookup_by bad_sought chain_from step_at by_link is_in read_at locate_of read_here header_of all is_blank name_of sought_order sought_keys stored_keys list_order number_order raised
missing_before = refl

-- a directory that names its own table: `/d/D/d` is found in it, and `d//` looks for the empty name
pub inside_itself : follow (directory 33 16) (47 ∷ 100 ∷ 47 ∷ 68 ∷ 47 ∷ 100 ∷ []) ≡ entry 33 16 16
unfolding path_of absent_under path_by trim split unended parts_from lookup_by bad_sought chain_from step_at by_link is_in read_at locate_of read_here header_of all is_blank name_of sought_order sought_keys stored_keys list_order number_order raised
inside_itself = refl

pub inside_empty_name : follow (directory 33 16) (100 ∷ 47 ∷ 47 ∷ []) ≡ refuses 22 []
unfolding path_of absent_under path_by trim split unended parts_from lookup_by bad_sought chain_from step_at by_link is_in read_at locate_of read_here header_of all is_blank name_of sought_order sought_keys stored_keys list_order number_order raised
inside_empty_name = refl

-- inside a directory of size 0 every name is 21
pub inside_size_zero : follow (directory 33 0) (100 ∷ 47 ∷ 120 ∷ []) ≡ refuses 21 []
unfolding path_of absent_under path_by trim split unended parts_from lookup_by bad_sought chain_from step_at by_link is_in read_at locate_of read_here header_of all is_blank name_of sought_order sought_keys stored_keys list_order number_order raised
inside_size_zero = refl

-- a byte above 127 is 2, also in a part that would not be reached
pub high_anywhere : follow (file 0 0 34 97) (97 ∷ 47 ∷ 98 ∷ 47 ∷ 128 ∷ []) ≡ refuses 2 []
unfolding path_of absent_under path_by bad_sought
high_anywhere = refl

-- one rule holds for all parts: `d` stands at 1,020, behind a link of 255, and names its own table, so that it stands so for both parts of `d/D`
abbrev behind_255 : List ℕ
behind_255 = file 0 255 34 97 ++ (replicate 1004 255 ++ (0 ∷ 0 ∷ 0 ∷ 0 ∷ 33 ∷ 0 ∷ 0 ∷ 0 ∷ 0 ∷ 8 ∷ 0 ∷ 0 ∷ 16 ∷ 1 ∷ 100 ∷ 255 ∷ []))

pub lost_behind_255 : path_of 1 behind_255 first (of_size 2048) (100 ∷ 47 ∷ 68 ∷ []) ≡ refuses 22 []
unfolding path_of absent_under path_by trim split unended parts_from lookup_by bad_sought chain_from step_at by_link is_in read_at locate_of read_here header_of all is_blank name_of sought_order sought_keys stored_keys list_order number_order raised
lost_behind_255 = refl

pub found_behind_255 : path_of 2 behind_255 first (of_size 2048) (100 ∷ 47 ∷ 68 ∷ []) ≡ gives (record {
  header = record { left = record { 0 = 0 }; right = record { 0 = 0 }; sector = record { 0 = 33 }; size = 2048; attributes = 16; name_len = 1 };
  place = 1020;
})
unfolding path_of absent_under path_by trim split unended parts_from lookup_by bad_sought chain_from step_at by_link is_in read_at locate_of read_here header_of all is_blank name_of sought_order sought_keys stored_keys list_order number_order raised
found_behind_255 = refl

-- 29 comes before 2, and before 28 for a path without parts
pub rule_zero : path_of 0 (file 0 0 34 97) first (of_size 16) (128 ∷ []) ≡ refuses 29 []
unfolding path_of absent_under
rule_zero = refl

pub rule_three : path_of 3 (file 0 0 34 97) first (of_size 16) [] ≡ refuses 29 []
unfolding path_of absent_under
rule_three = refl
