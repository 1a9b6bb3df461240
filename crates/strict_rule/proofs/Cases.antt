-- Worked tables, computed, of entries of sixteen bytes: each answer of the check on three entries, and the order rule
-- over several levels. Assumes nothing.
use Prim.Native.Nat.{ℕ, suc}
use mathlib.Core.Path.{◌≡◌, refl, sym, ◌∙◌}
use mathlib.Core.List.{List, [], ◌∷◌, ◌++◌}
use native.Mathlib.Omega.{arith}
use lib.ListN.{length, replicate}
use Rattle.units.specs.Told.{Told, gives, refuses}
use Rattle.units.specs.Region.{locate_of}
use Rattle.units.specs.declared.Region.{Region}
use Rattle.layout_bytes.specs.Bytes.{all}
use Rattle.layout_name.specs.Order.{number_order, list_order, raised}
use Rattle.name_role.specs.Roles.{stored_keys, stored_order}
use Rattle.layout_node.specs.Header.{header_of, is_blank}
use Rattle.read_entry.specs.Entry.{read_here, read_at, name_of}
use Rattle.read_entry.specs.Links.{is_in}
use Rattle.strict_rule.specs.Strict.{root, apart, placed, every, ordered, verdict_at, push, to_entry, strict_from, strict_of}
use Rattle.strict_rule.specs.Accepts.{Accepts}
use Rattle.strict_rule.specs.inner.Nearest.{entered_nearest}
use Rattle.strict_rule.proofs.Accepts.{accepts}

-- an entry with these links and a name of one byte
abbrev entry_of : ℕ → ℕ → ℕ → List ℕ
entry_of left right name = left ∷ 0 ∷ right ∷ 0 ∷ 34 ∷ 0 ∷ 0 ∷ 0 ∷ 1 ∷ 0 ∷ 0 ∷ 0 ∷ 32 ∷ 1 ∷ name ∷ 255 ∷ []

-- the check of a table of `size` bytes that starts where the window does, with `room` places
unfoldable pub check_of : List ℕ → ℕ → ℕ → Told (List ℕ)
check_of bytes size room = strict_of bytes (record { 0 = 33 }) (record { sector = record { 0 = 33 }; size = size }) room

-- a root with links left and right, and two entries without links after it
abbrev three_of : ℕ → ℕ → ℕ → ℕ → ℕ → List ℕ
three_of left right a b c = entry_of left right a ++ entry_of 0 0 b ++ entry_of 0 0 c

-- all of the bytes are the table, and there is room enough
abbrev whole : List ℕ → Region
whole bytes = record { sector = record { 0 = 33 }; size = length bytes }

unfoldable pub check_all : List ℕ → Told (List ℕ)
check_all bytes = strict_of bytes (record { 0 = 33 }) (whole bytes) 8

-- the same by the nearest bounds
unfoldable pub check_nearest : List ℕ → Told (List ℕ)
check_nearest bytes = strict_from entered_nearest bytes (read_at bytes (record { 0 = 33 }) (whole bytes)) (length bytes) 8 [] (root ∷ [])

pub record Cases : Type 0 where
  -- b with a to the left and c to the right is accepted
  pub three : check_of (three_of 4 8 98 97 99) 48 3 ≡ gives (0 ∷ 16 ∷ 32 ∷ [])
  -- 30: both links lead to one entry; also where the list is full, before 26
  pub reached_twice : check_of (three_of 4 4 98 97 99) 48 3 ≡ refuses 30 (16 ∷ [])
  pub reached_twice_when_full : check_of (three_of 4 4 98 97 99) 48 2 ≡ refuses 30 (16 ∷ [])
  -- 26: two places for three entries; also where the third is not all in the table, before 32
  pub too_many : check_of (three_of 4 8 98 97 99) 48 2 ≡ refuses 26 []
  pub too_many_before_place : check_of (three_of 4 8 98 97 99) 40 2 ≡ refuses 26 []
  -- 31: c to the left of b
  pub wrong_side : check_of (three_of 4 8 98 99 97) 48 3 ≡ refuses 31 (16 ∷ [])
  -- 32: the last entry is not all in the table, also where its name is out of order; an entry starts inside the one listed last, or before that
  pub past_the_end : check_of (three_of 4 8 98 97 99) 40 3 ≡ refuses 32 (32 ∷ [])
  pub past_the_end_before_order : check_of (three_of 4 8 98 97 97) 40 3 ≡ refuses 32 (32 ∷ [])
  pub inside_another : check_of (three_of 4 5 98 97 99) 48 3 ≡ refuses 32 (20 ∷ [])
  pub inside_an_earlier : check_of (three_of 8 1 98 120 97) 48 3 ≡ refuses 32 (4 ∷ [])
  -- 23, 24: a link past the table; an entry that is not all in the window
  pub outside : check_of (three_of 4 12 98 97 99) 48 3 ≡ refuses 23 (48 ∷ [])
  pub cut_short : check_of (three_of 4 9 98 97 99) 48 3 ≡ refuses 24 (36 ∷ [])

-- the order rule: letters by their numbers, a 97, c 99, f 102, h 104, m 109, p 112, z 122. Offset 16 has the link 4, 32 has 8, and so on
pub record Levels : Type 0 where
  -- m with c to the left, and z to the right of c: right to its parent, but not less than m; the same exchanged
  pub two_up : check_all (entry_of 4 0 109 ++ entry_of 0 8 99 ++ entry_of 0 0 122) ≡ refuses 31 (32 ∷ [])
  pub two_up_exchanged : check_all (entry_of 0 4 99 ++ entry_of 8 0 109 ++ entry_of 0 0 97) ≡ refuses 31 (32 ∷ [])
  -- p below m, c and f: right to f and to c, but not less than m; a below c, m and f likewise
  pub three_up : check_all (entry_of 4 0 109 ++ entry_of 0 8 99 ++ entry_of 0 12 102 ++ entry_of 0 0 112) ≡ refuses 31 (48 ∷ [])
  pub three_up_exchanged : check_all (entry_of 0 4 99 ++ entry_of 8 0 109 ++ entry_of 12 0 102 ++ entry_of 0 0 97) ≡ refuses 31 (48 ∷ [])
  -- h below m, f and c: less than m, but not less than f
  pub nearer_of_two : check_all (entry_of 4 0 109 ++ entry_of 8 0 102 ++ entry_of 0 12 99 ++ entry_of 0 0 104) ≡ refuses 31 (48 ∷ [])
  pub nearer_of_two_exchanged : check_all (entry_of 0 4 99 ++ entry_of 0 8 109 ++ entry_of 12 0 112 ++ entry_of 0 0 104) ≡ refuses 31 (48 ∷ [])
  -- a name equal to that of an entry above its parent: M (77) below m, C (67) below c
  pub equal_above : check_all (entry_of 4 0 109 ++ entry_of 0 8 99 ++ entry_of 0 0 77) ≡ refuses 31 (32 ∷ [])
  pub equal_above_exchanged : check_all (entry_of 0 4 99 ++ entry_of 8 0 109 ++ entry_of 0 0 67) ≡ refuses 31 (32 ∷ [])
  -- the first in walk order: z, below c on the left of m, comes before a on the right of m, which stands before it in the table
  pub first_in_walk_order : check_all (entry_of 8 4 109 ++ entry_of 0 0 97 ++ entry_of 0 12 99 ++ entry_of 0 0 122) ≡ refuses 31 (48 ∷ [])
  -- at one offset: 32 before it, and 26
  pub place_before_it : check_of (entry_of 4 0 109 ++ entry_of 0 8 99 ++ entry_of 0 0 122) 40 3 ≡ refuses 32 (32 ∷ [])
  pub full_before_it : check_of (entry_of 4 0 109 ++ entry_of 0 8 99 ++ entry_of 0 0 122) 48 2 ≡ refuses 26 []
  -- a blank header (0x00 or 0xff) that a link leads to bounds nothing, and the rest is as without it
  pub blank_between : check_all (entry_of 4 16 109 ++ entry_of 8 12 99 ++ replicate 16 0 ++ entry_of 0 0 102 ++ replicate 16 255)
      ≡ gives (0 ∷ 16 ∷ 48 ∷ [])
  pub blank_and_two_up : check_all (entry_of 4 16 109 ++ entry_of 8 12 99 ++ replicate 16 0 ++ entry_of 0 0 122 ++ replicate 16 255)
      ≡ refuses 31 (48 ∷ [])
  -- m with c and z, c with a and f, z with p
  pub all_in_order : check_all (entry_of 4 16 109 ++ entry_of 8 12 99 ++ entry_of 0 0 97 ++ entry_of 0 0 102 ++ entry_of 20 0 122 ++ entry_of 0 0 112)
      ≡ gives (0 ∷ 16 ∷ 32 ∷ 48 ∷ 64 ∷ 80 ∷ [])

-- by the nearest bounds: each side, and the nearer of two on one side
pub record ByNearest : Type 0 where
  pub two_up : check_nearest (entry_of 4 0 109 ++ entry_of 0 8 99 ++ entry_of 0 0 122) ≡ refuses 31 (32 ∷ [])
  pub two_up_exchanged : check_nearest (entry_of 0 4 99 ++ entry_of 8 0 109 ++ entry_of 0 0 97) ≡ refuses 31 (32 ∷ [])
  pub nearer_of_two : check_nearest (entry_of 4 0 109 ++ entry_of 8 0 102 ++ entry_of 0 12 99 ++ entry_of 0 0 104) ≡ refuses 31 (48 ∷ [])
  pub nearer_of_two_exchanged : check_nearest (entry_of 0 4 99 ++ entry_of 0 8 109 ++ entry_of 12 0 112 ++ entry_of 0 0 104) ≡ refuses 31 (48 ∷ [])

pub cases : Cases
unfolding check_of all number_order list_order raised stored_order stored_keys header_of is_blank read_here read_at locate_of name_of is_in apart placed every ordered verdict_at push to_entry strict_from strict_of
cases = record {
  three = refl;
  reached_twice = refl;
  reached_twice_when_full = refl;
  too_many = refl;
  too_many_before_place = refl;
  wrong_side = refl;
  past_the_end = refl;
  past_the_end_before_order = refl;
  inside_another = refl;
  inside_an_earlier = refl;
  outside = refl;
  cut_short = refl;
}

pub levels : Levels
unfolding check_all check_of all number_order list_order raised stored_order stored_keys header_of is_blank read_here read_at locate_of name_of is_in apart placed every ordered verdict_at push to_entry strict_from strict_of
levels = record {
  two_up = refl;
  two_up_exchanged = refl;
  three_up = refl;
  three_up_exchanged = refl;
  nearer_of_two = refl;
  nearer_of_two_exchanged = refl;
  equal_above = refl;
  equal_above_exchanged = refl;
  first_in_walk_order = refl;
  place_before_it = refl;
  full_before_it = refl;
  blank_between = refl;
  blank_and_two_up = refl;
  all_in_order = refl;
}

pub by_nearest : ByNearest
unfolding check_nearest all number_order list_order raised stored_order stored_keys header_of is_blank read_here read_at locate_of name_of is_in apart placed every ordered verdict_at push to_entry strict_from
by_nearest = record { two_up = refl; two_up_exchanged = refl; nearer_of_two = refl; nearer_of_two_exchanged = refl }

-- the table of m, c and z is none of the rule, whatever is listed
pub no_table : (xs : List ℕ) → Accepts (entry_of 4 0 109 ++ entry_of 0 8 99 ++ entry_of 0 0 122) (record { 0 = 33 }) (whole (entry_of 4 0 109 ++ entry_of 0 8 99 ++ entry_of 0 0 122)) xs → ⊥
unfolding all number_order list_order raised stored_order stored_keys header_of is_blank read_here read_at locate_of name_of is_in apart placed every ordered verdict_at push to_entry strict_from strict_of
no_table xs rule =
    let bytes : List ℕ = entry_of 4 0 109 ++ entry_of 0 8 99 ++ entry_of 0 0 122 in
    let room : ℕ = suc (suc (suc (length xs))) in
    let given : strict_of bytes (record { 0 = 33 }) (whole bytes) room ≡ gives xs = accepts bytes (record { 0 = 33 }) (whole bytes) room xs rule (omega arith) in
    let refused : strict_of bytes (record { 0 = 33 }) (whole bytes) room ≡ refuses 31 (32 ∷ []) = refl in
    let y : ◌≡◌ {A = Told (List ℕ)} (gives xs) (refuses 31 (32 ∷ [])) = sym given ∙ refused in
    let z : ◌≡◌ {A = ℕ} 0 1 = cc in omega arith
