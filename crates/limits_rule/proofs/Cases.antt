-- The loader's answers computed over small windows: bounds of time and age, every refusal but 25, where a window may start and end, and which of two faults is told.
-- Assumes nothing.
use Prim.Native.Nat.{ℕ}
use mathlib.Core.Path.{◌≡◌, refl}
use mathlib.Core.List.{List, [], ◌∷◌, ◌++◌, map}
use lib.ListN.{replicate, take}
use Rattle.units.specs.Region.{locate_of}
use Rattle.layout_bytes.specs.Bytes.{all}
use Rattle.layout_name.specs.Order.{raised, number_order, list_order}
use Rattle.name_role.specs.Roles.{stored_keys, sought_keys, sought_order, bad_sought}
use Rattle.layout_node.specs.Header.{header_of, is_blank}
use Rattle.layout_volume.specs.Descriptor.{descriptor_bytes, same_list, read_of, date_of}
use Rattle.read_entry.specs.Entry.{read_here, read_at, name_of}
use Rattle.read_entry.specs.Links.{is_in, absent_under}
use Rattle.read_lookup.specs.Lookup.{by_link, step_at, chain_from, lookup_by}
use Rattle.read_lookup.proofs.Cases.{file}
use Rattle.read_path.specs.Path.{trim, split, unended, parts_from, path_by, path_of}
use Rattle.limits_rule.specs.Limits.{Limits, volume_in, allowed_at, file_of, load_of, refused_by, limits_of}

-- the descriptor of a volume whose root table stands at sector 33 and has a size, with a stamp
abbrev volume : ℕ → ℕ → List ℕ
volume size stamp = descriptor_bytes (record { root = record { sector = record { 0 = 33 }; size = size }; stamp = stamp })

-- the root's table: a file `a` of 1 byte at sector 34; a directory `a`; a file `a` with a left link to offset 16, beyond a size of 16
abbrev a_file : List ℕ
a_file = file 0 0 34 97

abbrev a_directory : List ℕ
a_directory = 0 ∷ 0 ∷ 0 ∷ 0 ∷ 34 ∷ 0 ∷ 0 ∷ 0 ∷ 1 ∷ 0 ∷ 0 ∷ 0 ∷ 16 ∷ 1 ∷ 97 ∷ 255 ∷ []

abbrev a_link : List ℕ
a_link = file 4 0 34 98

-- a call, and what is answered
record Row : Type 0 where
  first : ℕ
  window : List ℕ
  path : List ℕ
  time : ℕ
  age : ℕ
  answer : Limits

-- the window starts with sector 32: descriptor and table
abbrev from_32 : ℕ → ℕ → List ℕ → List ℕ → ℕ → ℕ → Limits → Row
from_32 size stamp table path time age answer = record { first = 32; window = volume size stamp ++ table; path = path; time = time; age = age; answer = answer }

-- the file `a`, loaded with a stamp
abbrev is_loaded : ℕ → Limits
is_loaded stamp = record { number = 0; sector = record { 0 = 34 }; size = 1; stamp = stamp }

abbrev of_dates : List Row
of_dates =
    -- at the time of its stamp, by age 0; when it is as old as it may be, and one older (42); one before its stamp (41)
    from_32 16 1000 a_file (97 ∷ []) 1000 0 (is_loaded 1000)
    ∷ from_32 16 1000 a_file (97 ∷ []) 1007 7 (is_loaded 1000)
    ∷ from_32 16 1000 a_file (97 ∷ []) 1008 7 (refused_by 42)
    ∷ from_32 16 1000 a_file (97 ∷ []) 999 7 (refused_by 41)
    -- the greatest stamp, at that time; and the greatest age, for the least stamp
    ∷ from_32 16 18446744073709551615 a_file (97 ∷ []) 18446744073709551615 0 (is_loaded 18446744073709551615)
    ∷ from_32 16 1 a_file (97 ∷ []) 18446744073709551615 18446744073709551614 (is_loaded 1)
    ∷ from_32 16 1 a_file (97 ∷ []) 18446744073709551615 18446744073709551613 (refused_by 42)
    -- no date (40), whatever else is wrong: the time, the age, the path
    ∷ from_32 16 0 a_file (200 ∷ []) 0 0 (refused_by 40)
    -- the date comes before the path: too old, and a byte above 127
    ∷ from_32 16 1000 a_file (200 ∷ []) 2000 7 (refused_by 42)
    -- the root's size rounded
    ∷ from_32 2048 1000 a_file (97 ∷ []) 1000 0 (is_loaded 1000)
    ∷ []

-- the path's refusals, and a directory
abbrev of_paths : List Row
of_paths =
    from_32 16 1000 a_file (200 ∷ []) 1000 0 (refused_by 2)
    ∷ from_32 16 1000 a_file (47 ∷ []) 1000 0 (refused_by 28)
    ∷ from_32 0 1000 a_file (97 ∷ []) 1000 0 (refused_by 21)
    ∷ from_32 16 1000 a_file (98 ∷ []) 1000 0 (refused_by 22)
    ∷ from_32 16 1000 a_link (97 ∷ []) 1000 0 (refused_by 23)
    ∷ from_32 16 1000 [] (97 ∷ []) 1000 0 (refused_by 24)
    ∷ from_32 16 1000 a_file (97 ∷ 47 ∷ 98 ∷ []) 1000 0 (refused_by 27)
    ∷ from_32 16 1000 a_directory (97 ∷ []) 1000 0 (refused_by 43)
    ∷ []

-- the window starts a sector earlier, and a sector later, where the descriptor's bytes stand at sector 33 (20); it ends with the second mark, and one byte before its end (20)
abbrev of_windows : List Row
of_windows =
    record { first = 31; window = replicate 2048 0 ++ (volume 16 1000 ++ a_file); path = 97 ∷ []; time = 1000; age = 0; answer = is_loaded 1000 }
    ∷ record { first = 33; window = volume 16 1000 ++ a_file; path = 97 ∷ []; time = 1000; age = 0; answer = refused_by 20 }
    ∷ record { first = 32; window = volume 0 1000; path = 97 ∷ []; time = 1000; age = 0; answer = refused_by 21 }
    ∷ record { first = 32; window = take 2047 (volume 0 1000); path = 97 ∷ []; time = 1000; age = 0; answer = refused_by 20 }
    -- nothing at all
    ∷ record { first = 32; window = []; path = []; time = 0; age = 0; answer = refused_by 20 }
    ∷ []

abbrev asked : Row → Limits
asked r = limits_of r.window (record { 0 = r.first }) r.path r.time r.age

abbrev answers : Row → Limits
answers r = r.answer

dates : map asked of_dates ≡ map answers of_dates
unfolding limits_of load_of volume_in read_of same_list descriptor_bytes date_of allowed_at file_of path_of absent_under path_by trim split unended parts_from lookup_by bad_sought chain_from step_at by_link is_in read_at locate_of
    read_here header_of all is_blank name_of sought_order sought_keys stored_keys list_order number_order raised
dates = refl

paths : map asked of_paths ≡ map answers of_paths
unfolding limits_of load_of volume_in read_of same_list descriptor_bytes date_of allowed_at file_of path_of absent_under path_by trim split unended parts_from lookup_by bad_sought chain_from step_at by_link is_in read_at locate_of
    read_here header_of all is_blank name_of sought_order sought_keys stored_keys list_order number_order raised
paths = refl

windows : map asked of_windows ≡ map answers of_windows
unfolding limits_of load_of volume_in read_of same_list descriptor_bytes date_of allowed_at file_of path_of absent_under path_by trim split unended parts_from lookup_by bad_sought chain_from step_at by_link is_in read_at locate_of
    read_here header_of all is_blank name_of sought_order sought_keys stored_keys list_order number_order raised
windows = refl
