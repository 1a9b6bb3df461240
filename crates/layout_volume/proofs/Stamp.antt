-- What depends on the stamp: eight bytes of a descriptor, the stamp that is read, and the date. Assumes nothing.
use Rattle.std.proofs.Common.{ℕ, zero, suc, ◌+◌, ◌<◌, ◌≡◌, refl, sym, ap, ◌∙◌, Bool, true, false, ◌&&◌, List, [], ◌++◌, arith, ltb, length, take, drop, replicate, get_or-take, take-take, drop-drop}
use Rattle.std.proofs.Math.Option.{Option, some, none}
use borrow.Author.Tests.{ne_eqb}
use Rattle.units.specs.declared.Region.{Region}
use Rattle.units.specs.Told.{Told, gives, refuses, pick}
use Rattle.layout_bytes.specs.Bytes.{u32_at, le32}
use Rattle.layout_volume.specs.declared.Descriptor.{Descriptor}
use Rattle.layout_volume.specs.Descriptor.{mark, descriptor_bytes, bytes_after, same_list, read_of, root_alone, date_of}

-- with stamp 0 the eight bytes are zeros
pub undated : (r : Region)
    → descriptor_bytes (record { root = r; stamp = 0 }) ≡ mark ++ (le32 r.sector.0 ++ (le32 r.size ++ (replicate 8 0 ++ (replicate 1992 0 ++ mark))))
unfolding descriptor_bytes
undated r = refl

-- what an output holds before byte 28, and from byte 36 on, does not depend on the stamp
module _ (out : List ℕ) (r : Region) (x y : ℕ) where
  before : (b : Bool) → take 28 (pick b out (descriptor_bytes (record { root = r; stamp = x }) ++ drop 2048 out))
      ≡ take 28 (pick b out (descriptor_bytes (record { root = r; stamp = y }) ++ drop 2048 out))
  unfolding descriptor_bytes
  before true = refl
  before false = refl

  behind : (b : Bool) → drop 36 (pick b out (descriptor_bytes (record { root = r; stamp = x }) ++ drop 2048 out))
      ≡ drop 36 (pick b out (descriptor_bytes (record { root = r; stamp = y }) ++ drop 2048 out))
  unfolding descriptor_bytes
  behind true = refl
  behind false = refl

  pub same_before : take 28 (bytes_after out (record { root = r; stamp = x })) ≡ take 28 (bytes_after out (record { root = r; stamp = y }))
  unfolding bytes_after
  same_before = before (ltb (length out) 2048)

  pub same_behind : drop 36 (bytes_after out (record { root = r; stamp = x })) ≡ drop 36 (bytes_after out (record { root = r; stamp = y }))
  unfolding bytes_after
  same_behind = behind (ltb (length out) 2048)

-- the root that reading gives, or its refusal, from the bytes before 28 and those from 36 on
root_of : List ℕ → List ℕ → Told Region
root_of front back = pick (same_list (take 20 front) mark && same_list (take 20 (drop 1992 back)) mark)
    (gives (record { sector = record { 0 = u32_at front 20 }; size = u32_at front 24 })) (refuses 20 [])

of_pick : (b : Bool) (d : Descriptor) → root_alone (pick b (gives d) (refuses 20 [])) ≡ pick b (gives d.root) (refuses 20 [])
of_pick true d = refl
of_pick false d = refl

module _ (s : List ℕ) where
  number_before : (at : ℕ) → at + 3 < 28 → u32_at (take 28 s) at ≡ u32_at s at
  number_before at h =
      rw (get_or-take 28 s at 0 (omega arith), get_or-take 28 s (at + 1) 0 (omega arith), get_or-take 28 s (at + 2) 0 (omega arith), get_or-take 28 s (at + 2 + 1) 0 (omega arith))

  by_parts : root_alone (read_of s) ≡ root_of (take 28 s) (drop 36 s)
  unfolding read_of root_of
  by_parts =
      of_pick (same_list (take 20 s) mark && same_list (take 20 (drop 2028 s)) mark) _
      ∙ rw (take-take 20 28 s (omega arith), drop-drop 1992 36 s, number_before 20 (omega arith), number_before 24 (omega arith))

-- so it does not depend on bytes 28 to 35
pub root_apart : (s t : List ℕ) → take 28 s ≡ take 28 t → drop 36 s ≡ drop 36 t → root_alone (read_of s) ≡ root_alone (read_of t)
root_apart s t p q = by_parts s ∙ ap (λ (l : List ℕ). root_of l (drop 36 s)) p ∙ ap (λ (l : List ℕ). root_of (take 28 t) l) q ∙ sym (by_parts t)

-- 0 is no date, every other stamp is one, and no two stamps have the same
pub no_date : date_of 0 ≡ none
unfolding date_of
no_date = refl

pub a_date : (x : ℕ) → (x ≡ 0 → ⊥) → date_of x ≡ some x
unfolding date_of
a_date x h = rw (ne_eqb x 0 h)

-- the stamp again from the date
stamp_back : Option ℕ → ℕ
stamp_back none = 0
stamp_back (some x) = x

stamp_back_date : (x : ℕ) → stamp_back (date_of x) ≡ x
unfolding stamp_back
stamp_back_date zero = ap stamp_back no_date
stamp_back_date (suc n) = ap stamp_back (a_date (suc n) (λ e. omega arith))

pub date_one : (x y : ℕ) → date_of x ≡ date_of y → x ≡ y
date_one x y e = sym (stamp_back_date x) ∙ ap stamp_back e ∙ stamp_back_date y
