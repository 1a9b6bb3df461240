-- Cases of the scope, and hard ones, computed over small windows. Assumes nothing.
use Prim.Native.Nat.{ℕ}
use mathlib.Core.Path.{◌≡◌, refl}
use mathlib.Core.List.{List, [], ◌∷◌, ◌++◌}
use lib.ListN.{replicate}
use Rattle.units.specs.Told.{Told, gives, refuses}
use Rattle.units.specs.Region.{locate_of}
use Rattle.units.specs.declared.Sector.{Sector}
use Rattle.units.specs.declared.Region.{Region}
use Rattle.layout_bytes.specs.Bytes.{all}
use Rattle.layout_name.specs.Order.{raised, number_order, list_order}
use Rattle.name_role.specs.Roles.{stored_keys, sought_keys, sought_order, bad_sought}
use Rattle.layout_node.specs.Header.{header_of, is_blank}
use Rattle.read_entry.specs.Entry.{read_here, read_at, name_of}
use Rattle.read_entry.specs.Links.{is_in, absent_under}
use Rattle.read_lookup.specs.Lookup.{Finding, by_link, step_at, chain_from, lookup_by, lookup_of}

-- an entry of 16 bytes: a file of size 1 at a sector, with a name of one byte, and two links of one byte
abbrev pub file : ℕ → ℕ → ℕ → ℕ → List ℕ
file left right sector letter = left ∷ 0 ∷ right ∷ 0 ∷ sector ∷ 0 ∷ 0 ∷ 0 ∷ 1 ∷ 0 ∷ 0 ∷ 0 ∷ 32 ∷ 1 ∷ letter ∷ 255 ∷ []

-- the answer for one of those, at an offset that is its place too
abbrev pub filed : ℕ → ℕ → ℕ → ℕ → ℕ → Told Finding
filed left right sector offset headers = gives (record {
  entry = record {
    header = record { left = record { 0 = left }; right = record { 0 = right }; sector = record { 0 = sector }; size = 1; attributes = 32; name_len = 1 };
    place = offset;
  };
  offset = offset;
  headers = headers;
})

-- a table at the window's first sector
abbrev pub first : Sector
first = record { 0 = 33 }

abbrev pub of_size : ℕ → Region
of_size n = record { sector = record { 0 = 33 }; size = n }

-- the lookup of a name in such a table of a size, under a rule, and under rule one
abbrev pub look_under : ℕ → List ℕ → ℕ → List ℕ → Told Finding
look_under rule w size name = lookup_of rule w first (of_size size) name

abbrev pub look : List ℕ → ℕ → List ℕ → Told Finding
look = look_under 1

-- files `b`, `a`, `c`, as they are written for `a`, `b`, `c`
abbrev three : List ℕ
three = file 4 8 34 98 ++ (file 0 0 35 97 ++ file 0 0 36 99)

-- `C` is found, at offset 32, with two headers read
pub finds_c : look three 48 (67 ∷ []) ≡ filed 0 0 36 32 2
unfolding lookup_of absent_under lookup_by bad_sought chain_from step_at by_link is_in read_at locate_of read_here header_of all is_blank name_of sought_order sought_keys stored_keys list_order number_order raised
finds_c = refl

-- `d` does not exist, with two headers read
pub no_d : look three 48 (100 ∷ []) ≡ refuses 22 (2 ∷ [])
unfolding lookup_of absent_under lookup_by bad_sought chain_from step_at by_link is_in read_at locate_of read_here header_of all is_blank name_of sought_order sought_keys stored_keys list_order number_order raised
no_d = refl

-- a name with a byte 0 is no refusal: such a name is found where it stands, and does not exist elsewhere
pub nul_found : look (file 0 0 34 0) 16 (0 ∷ []) ≡ filed 0 0 34 0 1
unfolding lookup_of absent_under lookup_by bad_sought chain_from step_at by_link is_in read_at locate_of read_here header_of all is_blank name_of sought_order sought_keys stored_keys list_order number_order raised
nul_found = refl

pub no_nul : look three 48 (0 ∷ []) ≡ refuses 22 (2 ∷ [])
unfolding lookup_of absent_under lookup_by bad_sought chain_from step_at by_link is_in read_at locate_of read_here header_of all is_blank name_of sought_order sought_keys stored_keys list_order number_order raised
no_nul = refl

-- the empty name is no refusal: it is less than every other
pub no_empty : look three 48 [] ≡ refuses 22 (2 ∷ [])
unfolding lookup_of absent_under lookup_by bad_sought chain_from step_at by_link is_in read_at locate_of read_here header_of all is_blank name_of sought_order sought_keys stored_keys list_order number_order raised
no_empty = refl

-- a byte above 127 is 2 before the size is looked at; else a size of 0 is 21
pub high_first : look three 0 (128 ∷ []) ≡ refuses 2 []
unfolding lookup_of absent_under lookup_by bad_sought
high_first = refl

pub size_zero : look three 0 (97 ∷ []) ≡ refuses 21 []
unfolding lookup_of absent_under lookup_by bad_sought
size_zero = refl

-- a link of 255 on the way is absent under rule one ..
pub link_255 : look (file 255 0 34 98) 2048 (97 ∷ []) ≡ refuses 22 (1 ∷ [])
unfolding lookup_of absent_under lookup_by bad_sought chain_from step_at by_link is_in read_at locate_of read_here header_of all is_blank name_of sought_order sought_keys stored_keys list_order number_order raised
link_255 = refl

-- .. and leads to offset 1,020 under rule two: `a` is found there
abbrev at_1020 : List ℕ
at_1020 = file 255 0 34 98 ++ (replicate 1004 255 ++ file 0 0 35 97)

pub lost_at_1020 : look at_1020 2048 (97 ∷ []) ≡ refuses 22 (1 ∷ [])
unfolding lookup_of absent_under lookup_by bad_sought chain_from step_at by_link is_in read_at locate_of read_here header_of all is_blank name_of sought_order sought_keys stored_keys list_order number_order raised
lost_at_1020 = refl

pub found_at_1020 : look_under 2 at_1020 2048 (97 ∷ []) ≡ filed 0 0 35 1020 2
unfolding lookup_of absent_under lookup_by bad_sought chain_from step_at by_link is_in read_at locate_of read_here header_of all is_blank name_of sought_order sought_keys stored_keys list_order number_order raised
found_at_1020 = refl

-- `b` with a left link of two bytes of 0xff
abbrev pub left_65535 : List ℕ
left_65535 = 255 ∷ 255 ∷ 0 ∷ 0 ∷ 34 ∷ 0 ∷ 0 ∷ 0 ∷ 1 ∷ 0 ∷ 0 ∷ 0 ∷ 32 ∷ 1 ∷ 98 ∷ 255 ∷ []

-- a link of 65,535 is none that is absent under rule one: it leads to offset 262,140, which must be below the size ..
pub link_65535 : look left_65535 262140 (97 ∷ []) ≡ refuses 23 (262140 ∷ [])
unfolding lookup_of absent_under lookup_by bad_sought chain_from step_at by_link is_in read_at locate_of read_here header_of all is_blank name_of sought_order sought_keys stored_keys list_order number_order raised
link_65535 = refl

-- .. and in the window
pub link_65535_cut : look left_65535 262141 (97 ∷ []) ≡ refuses 24 (262140 ∷ [])
unfolding lookup_of absent_under lookup_by bad_sought chain_from step_at by_link is_in read_at locate_of read_here header_of all is_blank name_of sought_order sought_keys stored_keys list_order number_order raised
link_65535_cut = refl

-- under rule two it is absent
pub link_65535_absent : look_under 2 left_65535 262141 (97 ∷ []) ≡ refuses 22 (1 ∷ [])
unfolding lookup_of absent_under lookup_by bad_sought chain_from step_at by_link is_in read_at locate_of read_here header_of all is_blank name_of sought_order sought_keys stored_keys list_order number_order raised
link_65535_absent = refl

-- 29 comes before 2, for the number 0 and from 3 on
pub rule_zero : look_under 0 three 0 (128 ∷ []) ≡ refuses 29 []
unfolding lookup_of absent_under
rule_zero = refl

pub rule_three : look_under 3 three 0 (128 ∷ []) ≡ refuses 29 []
unfolding lookup_of absent_under
rule_three = refl

-- a header of 0xff is counted: of an empty table, and at the end of a link
pub blank_counted : look (replicate 14 255) 2048 (97 ∷ []) ≡ refuses 22 (1 ∷ [])
unfolding lookup_of absent_under lookup_by bad_sought chain_from step_at by_link is_in read_at locate_of read_here header_of all is_blank name_of sought_order sought_keys stored_keys list_order number_order raised
blank_counted = refl

pub blank_second : look (file 4 0 34 98 ++ replicate 14 255) 2048 (97 ∷ []) ≡ refuses 22 (2 ∷ [])
unfolding lookup_of absent_under lookup_by bad_sought chain_from step_at by_link is_in read_at locate_of read_here header_of all is_blank name_of sought_order sought_keys stored_keys list_order number_order raised
blank_second = refl

-- of a table of size 1 the entry at 0 is read, whole, and no other
pub size_one : look three 1 (98 ∷ []) ≡ filed 4 8 34 0 1
unfolding lookup_of absent_under lookup_by bad_sought chain_from step_at by_link is_in read_at locate_of read_here header_of all is_blank name_of sought_order sought_keys stored_keys list_order number_order raised
size_one = refl

pub size_one_out : look three 1 (97 ∷ []) ≡ refuses 23 (16 ∷ [])
unfolding lookup_of absent_under lookup_by bad_sought chain_from step_at by_link is_in read_at locate_of read_here header_of all is_blank name_of sought_order sought_keys stored_keys list_order number_order raised
size_one_out = refl
