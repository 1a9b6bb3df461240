-- A table read in its own part of a window, as a table of sector 0 in a window that starts with sector 0, is read as in the window. Assumes nothing.
--     read_moved, name_moved                 where the table starts in the window: each place is counted from there
--     read_outside, read_past, read_nothing  where it does not: at offset 0 both readings refuse 24
--     starts                                 one of the two is the case
use Prim.Native.Nat.{ℕ, ◌+◌, ◌-◌, ◌*◌, ◌≤◌, ◌<◌}
use mathlib.Core.Path.{◌≡◌, refl, ap, ◌∙◌}
use mathlib.Core.Bool.{Bool, true, false}
use mathlib.Core.List.{List, [], ◌∷◌}
use mathlib.Core.Option.{Option, some, none}
use native.Mathlib.Omega.{arith}
use borrow.Author.Tests.{lt-ltb, le-ltb, lt-leb, ltb-true, ltb-false}
use lib.Dec.{ltb, leb}
use lib.ListN.{length, take, drop, length-drop, drop_of_length-le}
use lib.Seq.{drop-drop}
use Rattle.units.specs.Told.{Told, gives, refuses, pick}
use Rattle.units.specs.declared.Sector.{Sector}
use Rattle.units.specs.declared.Region.{Region}
use Rattle.layout_node.specs.Header.{header_of, is_blank}
use Rattle.read_entry.specs.Entry.{Placed, read_here, read_at, name_of}
use Rattle.read_entry.specs.inner.Part.{part_of, placed_on, moved}
use Rattle.read_entry.proofs.Located.{byte_of, read_by_tests}

-- two tests whose facts follow from each other
same_by : (a b c d : ℕ) (p q : Bool) → ltb a b ≡ p → ltb c d ≡ q → (a < b → c < d) → (c < d → a < b) → p ≡ q
same_by a b c d true true e g to back = refl
same_by a b c d false false e g to back = refl
same_by a b c d true false e g to back = let h : c < d = to (ltb-true a b e) in let k : d ≤ c = ltb-false c d g in absurd (omega arith)
same_by a b c d false true e g to back = let h : a < b = back (ltb-true c d g) in let k : b ≤ a = ltb-false a b e in absurd (omega arith)

-- a length against a place, both less by b
test_moved : (n b m l : ℕ) → b ≤ n → l ≡ n - b → ltb l m ≡ ltb n (b + m)
test_moved n b m l h e = same_by l m n (b + m) (ltb l m) (ltb n (b + m)) refl refl (λ k. omega arith) (λ k. omega arith)

moved_by : (b : ℕ) (p q r : Bool) (o : ℕ) (y : Placed) →
    pick p (refuses 24 (o ∷ [])) (pick q (gives none) (pick r (refuses 24 (o ∷ [])) (gives (some (placed_on b y)))))
    ≡ moved b (pick p (refuses 24 (o ∷ [])) (pick q (gives none) (pick r (refuses 24 (o ∷ [])) (gives (some y)))))
moved_by b true q r o y = refl
moved_by b false true r o y = refl
moved_by b false false true o y = refl
moved_by b false false false o y = refl

moved_past : (b : ℕ) (p : Bool) (o : ℕ) (x y : Told (Option Placed)) → x ≡ moved b y → pick p (refuses 23 (o ∷ [])) x ≡ moved b (pick p (refuses 23 (o ∷ [])) y)
moved_past b true o x y e = refl
moved_past b false o x y e = e

module _ (w : List ℕ) (b : ℕ) (held : b ≤ length w) where
  here_moved : (o k : ℕ) → read_here w (b + o) k ≡ moved b (read_here (drop b w) o k)
  unfolding read_here
  here_moved o k =
      let h : List ℕ = take 14 (drop (b + o) w) in
      let n : ℕ = (header_of h).name_len in
      let head : ltb (length (drop b w)) (o + 14) ≡ ltb (length w) (b + o + 14) =
      test_moved (length w) b (o + 14) (length (drop b w)) held (length-drop b w) ∙ ap (ltb (length w)) (omega arith) in
      let whole : ltb (length (drop b w)) (o + 14 + n) ≡ ltb (length w) (b + o + 14 + n) =
      test_moved (length w) b (o + 14 + n) (length (drop b w)) held (length-drop b w) ∙ ap (ltb (length w)) (omega arith) in
      rw (drop-drop o b w, head, whole)
      (moved_by b (ltb (length w) (b + o + 14)) (is_blank h) (ltb (length w) (b + o + 14 + n)) k (record { header = header_of h; place = o }))

  -- the name of an entry is the same part of both
  pub name_moved : (p n : ℕ) → name_of w (b + p) n ≡ name_of (drop b w) p n
  unfolding name_of
  name_moved p n = let e : b + p + 14 ≡ b + (p + 14) = omega arith in rw (drop-drop (p + 14) b w, e)

-- f and u: the first sector and the table for the part alone
module _ (w : List ℕ) (first : Sector) (t : Region) (f : Sector) (u : Region) (f-is : f.0 ≡ 0) (u-is : u.sector.0 ≡ 0) (same : u.size ≡ t.size) where
  pub read_moved : (b : ℕ) → b + 2048 * first.0 ≡ 2048 * t.sector.0 → b ≤ length w → (o : ℕ) → read_at w first t o ≡ moved b (read_at (drop b w) f u o)
  read_moved b starts held o =
      let p : byte_of t o - 2048 * first.0 ≡ b + o = omega arith in
      let q : byte_of u o - 2048 * f.0 ≡ o = omega arith in
      let i : ltb (byte_of t o) (2048 * first.0) ≡ false = le-ltb (byte_of t o) (2048 * first.0) (omega arith) in
      let j : ltb (byte_of u o) (2048 * f.0) ≡ false = le-ltb (byte_of u o) (2048 * f.0) (omega arith) in
      rw (read_by_tests w first t o, read_by_tests (drop b w) f u o, i, j, p, q, same) (moved_past b (leb t.size o) o (read_here w (b + o) o) (read_here (drop b w) o o) (here_moved w b held o o))

  module _ (some_size : t.size ≡ 0 → ⊥) where
    pub read_outside : 2048 * t.sector.0 < 2048 * first.0 → read_at w first t 0 ≡ refuses 24 (0 ∷ [])
    read_outside h =
        let i : leb t.size 0 ≡ false = lt-leb t.size 0 (omega arith) in
        let j : ltb (byte_of t 0) (2048 * first.0) ≡ true = lt-ltb (byte_of t 0) (2048 * first.0) (omega arith) in
        rw (read_by_tests w first t 0, i, j)

    pub read_past : (b : ℕ) → b + 2048 * first.0 ≡ 2048 * t.sector.0 → length w < b → read_at w first t 0 ≡ refuses 24 (0 ∷ [])
    unfolding read_here
    read_past b starts h =
        let i : leb t.size 0 ≡ false = lt-leb t.size 0 (omega arith) in
        let j : ltb (byte_of t 0) (2048 * first.0) ≡ false = le-ltb (byte_of t 0) (2048 * first.0) (omega arith) in
        let k : ltb (length w) (byte_of t 0 - 2048 * first.0 + 14) ≡ true = lt-ltb (length w) (byte_of t 0 - 2048 * first.0 + 14) (omega arith) in
        rw (read_by_tests w first t 0, i, j, k)

    pub read_nothing : read_at [] f u 0 ≡ refuses 24 (0 ∷ [])
    unfolding read_here
    read_nothing =
        let i : leb u.size 0 ≡ false = lt-leb u.size 0 (omega arith) in
        let j : ltb (byte_of u 0) (2048 * f.0) ≡ false = le-ltb (byte_of u 0) (2048 * f.0) (omega arith) in
        let q : byte_of u 0 - 2048 * f.0 ≡ 0 = omega arith in
        rw (read_by_tests [] f u 0, i, j, q)

-- where a table starts: in the window, at place b, and its part is what is from there on; or outside, and its part is nothing
pub data Starts (w : List ℕ) (first : Sector) (t : Region) (part : List ℕ) : Type 0 where
  inside : (b : ℕ) → b + 2048 * first.0 ≡ 2048 * t.sector.0 → b ≤ length w → part ≡ drop b w → b ≡ length w - length part → Starts w first t part
  outside : part ≡ [] → ((t.size ≡ 0 → ⊥) → read_at w first t 0 ≡ refuses 24 (0 ∷ [])) → Starts w first t part

starts_by : (w : List ℕ) (first : Sector) (t : Region) (p q : Bool) →
    ltb (2048 * t.sector.0) (2048 * first.0) ≡ p → ltb (length w) (2048 * t.sector.0 - 2048 * first.0) ≡ q →
    Starts w first t (pick p [] (drop (2048 * t.sector.0 - 2048 * first.0) w))
starts_by w first t true q e g = outside refl (λ z. read_outside w first t (record { 0 = 0 }) (record { sector = record { 0 = 0 }; size = t.size }) refl refl refl z (ltb-true (2048 * t.sector.0) (2048 * first.0) e))
starts_by w first t false true e g =
    let b : ℕ = 2048 * t.sector.0 - 2048 * first.0 in
    let h : 2048 * first.0 ≤ 2048 * t.sector.0 = ltb-false (2048 * t.sector.0) (2048 * first.0) e in
    let k : length w < b = ltb-true (length w) b g in
    outside (drop_of_length-le w {i = b} (omega arith))
    (λ z. read_past w first t (record { 0 = 0 }) (record { sector = record { 0 = 0 }; size = t.size }) refl refl refl z b (omega arith) k)
starts_by w first t false false e g =
    let b : ℕ = 2048 * t.sector.0 - 2048 * first.0 in
    let h : 2048 * first.0 ≤ 2048 * t.sector.0 = ltb-false (2048 * t.sector.0) (2048 * first.0) e in
    let k : b ≤ length w = ltb-false (length w) b g in
    let l : length (drop b w) ≡ length w - b = length-drop b w in
    inside b (omega arith) (omega arith) refl (omega arith)

-- .. and one of them is the case
pub starts : (w : List ℕ) (first : Sector) (t : Region) (part : List ℕ) → part ≡ part_of w first t → Starts w first t part
unfolding part_of
starts w first t part e =
    rw e (starts_by w first t (ltb (2048 * t.sector.0) (2048 * first.0)) (ltb (length w) (2048 * t.sector.0 - 2048 * first.0)) refl refl)
