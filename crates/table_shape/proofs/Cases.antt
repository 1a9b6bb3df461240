-- Worked tables, computed: what the check and lookups answer. Assumes nothing.
use Prim.Native.Nat.{ℕ}
use mathlib.Core.Path.{◌≡◌, refl}
use mathlib.Core.List.{List, [], ◌∷◌, ◌++◌}
use mathlib.Core.Option.{Option, some}
use lib.ListN.{replicate}
use Rattle.units.specs.Told.{Told, gives, refuses}
use Rattle.units.specs.Region.{locate_of}
use Rattle.layout_bytes.specs.Bytes.{all}
use Rattle.layout_name.specs.Order.{raised, number_order, list_order}
use Rattle.name_role.specs.Roles.{stored_keys, sought_keys, stored_order, sought_order, bad_sought}
use Rattle.layout_node.specs.Header.{header_of, is_blank}
use Rattle.read_entry.specs.declared.Placed.{Placed}
use Rattle.read_entry.specs.Entry.{read_here, read_at, name_of}
use Rattle.read_entry.specs.Links.{is_in, absent_under}
use Rattle.read_lookup.specs.Lookup.{by_link, step_at, chain_from, lookup_by, lookup_of}
use Rattle.read_lookup.proofs.Cases.{file, filed, first, of_size, look_under}
use Rattle.lookup_way.specs.Along.{Along, there, left, right}
use Rattle.strict_rule.specs.Strict.{apart, placed, every, ordered, verdict_at, push, to_entry, strict_from, strict_of}

-- the check of a table at the window's first sector, of a size, with three places
abbrev check : List ℕ → ℕ → Told (List ℕ)
check w size = strict_of w first (of_size size) 3

-- the root `m`, its left child `c`, and `c`'s right child, an entry of this name
abbrev pub below_c : ℕ → List ℕ
below_c letter = file 4 0 34 109 ++ (file 0 8 35 99 ++ file 0 0 36 letter)

-- `b`, whose left link is 255, and blank bytes up to `a` at offset 1,020, where it leads
abbrev at_1020 : List ℕ
at_1020 = file 255 0 34 98 ++ (replicate 1004 255 ++ file 0 0 35 97)

-- `b`, whose left link leads to `a`, and the left link of `a` and the right one of `b` to a blank header at 32
abbrev twice_blank : List ℕ
twice_blank = file 4 8 34 98 ++ (file 8 0 35 97 ++ replicate 14 255)

pub record Cases : Type 0 where
  -- `z` below `c` is greater than `m`, in whose left subtree it stands: the check refuses the table, and no lookup finds `z`, since `m` has nothing to its right
  pub z_refused : check (below_c 122) 48 ≡ refuses 31 (32 ∷ [])
  pub z_lost_one : look_under 1 (below_c 122) 48 (122 ∷ []) ≡ refuses 22 (1 ∷ [])
  pub z_lost_two : look_under 2 (below_c 122) 48 (122 ∷ []) ≡ refuses 22 (1 ∷ [])
  -- `g` in its place is in order: the check accepts the table, and both rules find `g` after three headers
  pub g_accepted : check (below_c 103) 48 ≡ gives (0 ∷ 16 ∷ 32 ∷ [])
  pub g_found_one : look_under 1 (below_c 103) 48 (103 ∷ []) ≡ filed 0 0 36 32 3
  pub g_found_two : look_under 2 (below_c 103) 48 (103 ∷ []) ≡ filed 0 0 36 32 3
  -- a link of 255 on the way: the check accepts the table, rule one does not find `a`, rule two does
  pub a_accepted : check at_1020 1036 ≡ gives (0 ∷ 1020 ∷ [])
  pub a_lost_one : look_under 1 at_1020 1036 (97 ∷ []) ≡ refuses 22 (1 ∷ [])
  pub a_found_two : look_under 2 at_1020 1036 (97 ∷ []) ≡ filed 0 0 35 1020 2
  -- a blank header that two links lead to is no fault and is not listed; a lookup of the empty name reads it, as one header more than there are entries
  pub blank_accepted : check twice_blank 48 ≡ gives (0 ∷ 16 ∷ [])
  pub blank_read : look_under 2 twice_blank 48 [] ≡ refuses 22 (3 ∷ [])

pub cases : Cases
unfolding lookup_of absent_under lookup_by bad_sought chain_from step_at by_link is_in read_at locate_of read_here header_of all is_blank name_of sought_order sought_keys stored_order stored_keys list_order number_order raised apart placed every ordered verdict_at push to_entry strict_from strict_of
cases = record {
  z_refused = refl;
  z_lost_one = refl;
  z_lost_two = refl;
  g_accepted = refl;
  g_found_one = refl;
  g_found_two = refl;
  a_accepted = refl;
  a_lost_one = refl;
  a_found_two = refl;
  blank_accepted = refl;
  blank_read = refl;
}

-- that a way is the only one is said of entries alone: to the blank header at 32 there are two
abbrev linked : ℕ → ℕ → ℕ → ℕ → Placed
linked l r sector place = record {
  header = record { left = record { 0 = l }; right = record { 0 = r }; sector = record { 0 = sector }; size = 1; attributes = 32; name_len = 1 };
  place = place;
}

abbrev reads : ℕ → Told (Option Placed)
reads = read_at twice_blank first (of_size 48)

reads_b : reads 0 ≡ gives (some (linked 4 8 34 0))
unfolding read_at locate_of read_here header_of all is_blank
reads_b = refl

reads_a : reads 16 ≡ gives (some (linked 8 0 35 16))
unfolding read_at locate_of read_here header_of all is_blank
reads_a = refl

pub two_ways : Along reads 0 32 (8 ∷ []) × Along reads 0 32 (4 ∷ 8 ∷ [])
two_ways = (right {x = linked 4 8 34 0} reads_b there, left {x = linked 4 8 34 0} reads_b (left {x = linked 8 0 35 16} reads_a there))
