-- One turn of placing and of counting, and their ends. Assumes nothing.
use Rattle.std.proofs.Common.{ℕ, ◌+◌, ◌/◌, ◌%◌, ◌≤◌, ◌<◌, ◌≡◌, refl, sym, ap, ◌∙◌, Bool, true, false, List, [], ◌∷◌, Result, Ok, Err, IsErr, length, get_or, drop, add-one, drop-cons, arith}
use Rattle.std.proofs.Math.Dec.{ltb}
use Rattle.std.proofs.Math.ListN.{set, drop_of_length-le}
use borrow.Author.Tests.{le-leb, lt-leb, lt-ltb, le-ltb, ltb-false}
use Rattle.units.specs.Told.{gives, refuses, pick}
use Rattle.layout_node.specs.Header.{entry_length}
use Rattle.units.specs.declared.Sector.{Sector}
use Rattle.layout_sector.specs.declared.SectorOverflow.{SectorOverflow}
use Rattle.layout_sector.specs.Counter.{Run, sectors_for, aligned_up, take_of}
use Rattle.layout_sector.proofs.Laws.{given_free, overflow_where_8}
use Rattle.dirtab_entry.specs.Entry.{rounded}
use Rattle.table_model.specs.Place.{start_after}
use Rattle.table_model.proofs.Places.{starts}
use Rattle.dirtab_place.specs.inner.Places.{start_in, is_far, ends_over, places_over, size_in, free_in, free_over, told_free}

pub stays : (e n : ℕ) → e % 2048 + n ≤ 2048 → e ≡ start_after e n
unfolding start_after
stays e n h = rw (le-leb (e % 2048 + n) 2048 h)

pub moves : (e n : ℕ) → 2048 < e % 2048 + n → rounded e ≡ start_after e n
unfolding start_after
moves e n h = rw (lt-leb (e % 2048 + n) 2048 h)

-- what is left of the order at its next number
pub cut : (order : List ℕ) (k : ℕ) → k < length order → drop k order ≡ get_or order k 0 ∷ drop (k + 1) order
cut order k h = rw add-one (drop-cons order k 0 h)

-- what the whole order comes to is what the rest of it comes to, from the end e and the column p that there are at its k-th number
module _ (len order p₀ p : List ℕ) (e k n o : ℕ)
    (ends : ends_over len 0 order ≡ ends_over len e (drop k order)) (places : places_over len 0 order p₀ ≡ places_over len e (drop k order) p) where
  abbrev i : ℕ
  i = get_or order k 0

  module _ (h : k < length order) (en : n ≡ entry_length (get_or len i 0)) (eo : o ≡ start_after e n) where
    stands : o ≡ start_in len e i
    stands = rw (eo, en)

    -- an entry that is too far
    pub far_end : 65535 < o / 4 → refuses 7 [] ≡ ends_over len 0 order
    unfolding ends_over
    far_end f =
        let t : is_far len e i ≡ true = lt-ltb _ _ (rw stands at f) in
        sym (ends ∙ rw (cut order k h, t))

    pub far_places : 65535 < o / 4 → p ≡ places_over len 0 order p₀
    unfolding places_over
    far_places f =
        let t : is_far len e i ≡ true = lt-ltb _ _ (rw stands at f) in
        sym (places ∙ rw (cut order k h, t))

    -- one that is not
    pub next_end : o / 4 ≤ 65535 → ends_over len 0 order ≡ ends_over len (o + n) (drop (k + 1) order)
    unfolding ends_over
    next_end f =
        let t : is_far len e i ≡ false = le-ltb _ _ (rw stands at f) in
        ends ∙ rw (cut order k h, t, stands, en)

    pub next_places : (x : ℕ) → o / 4 ≤ 65535 → x ≡ o / 4 → places_over len 0 order p₀ ≡ places_over len (o + n) (drop (k + 1) order) (set p i x)
    unfolding places_over
    next_places x f ex =
        let t : is_far len e i ≡ false = le-ltb _ _ (rw stands at f) in
        places ∙ rw (cut order k h, t, ex, stands, en)

  -- the end
  module _ (h : length order ≤ k) where
    pub last_end : gives e ≡ ends_over len 0 order
    unfolding ends_over
    last_end = sym (ends ∙ rw (drop_of_length-le order h))

    pub last_places : p ≡ places_over len 0 order p₀
    unfolding places_over
    last_places = sym (places ∙ rw (drop_of_length-le order h))

low_of : (b : Bool) (p r : Run) (n : ℕ) → ltb 4294967295 n ≡ b → pick b (refuses 8 []) (gives p) ≡ gives r → n ≤ 4294967295
low_of true p r n q e = let z : ◌≡◌ {A = ℕ} 0 1 = cc in absurd (omega arith)
low_of false p r n q e = ltb-false _ _ q

pub given_low : (s n : ℕ) (r : Run) → take_of 1 s n ≡ gives r → aligned_up 1 s + sectors_for n ≤ 4294967295
unfolding take_of
given_low s n r e = low_of (ltb 4294967295 (aligned_up 1 s + sectors_for n)) _ r _ refl e

-- a refusal stands for 8
pub told_over : (r : Result Sector SectorOverflow) → IsErr r → told_free r ≡ refuses 8 []
told_over (Ok s) h = cc
told_over (Err e) h = refl

-- `first` is the counter's number before the loop, and `from` the sector that it was made of
module _ (size kind order : List ℕ) (first from s k : ℕ) (so_far : free_over size kind first order ≡ free_over size kind s (drop k order)) (start : first ≡ from) where
  -- b is the size of the entry
  module _ (b : ℕ) (h : k < length order) (eb : b ≡ size_in size kind (get_or order k 0)) where
    pub overflows : refuses 8 [] ≡ take_of 1 s b → refuses 8 [] ≡ free_over size kind from order
    unfolding free_over
    overflows e =
        let t : ltb 4294967295 (free_in size kind s (get_or order k 0)) ≡ true = lt-ltb _ _ (rw eb at (overflow_where_8 1 s b (sym e))) in
        sym (ap (λ (m : ℕ). free_over size kind m order) (sym start) ∙ so_far ∙ rw (cut order k h, t))

    pub next_free_lem : (a f : ℕ) → gives (record { start = a; free = f }) ≡ take_of 1 s b → free_over size kind first order ≡ free_over size kind f (drop (k + 1) order)
    unfolding free_over
    next_free_lem a f e =
        let t : ltb 4294967295 (free_in size kind s (get_or order k 0)) ≡ false = le-ltb _ _ (rw eb at (given_low s b _ (sym e))) in
        let q : f ≡ free_in size kind s (get_or order k 0) = rw eb at (given_free 1 s b _ (sym e)) in
        so_far ∙ rw (cut order k h, t, q)

  pub last_free_lem : (x : ℕ) → x ≡ s → length order ≤ k → gives x ≡ free_over size kind from order
  unfolding free_over
  last_free_lem x ex h = sym (ap (λ (m : ℕ). free_over size kind m order) (sym start) ∙ so_far ∙ rw (drop_of_length-le order h, ex))

-- where an entry starts is less than a sector further on
pub start_most : (e n o : ℕ) → n ≤ 272 → o ≡ start_after e n → o < e + 2048
start_most e n o h q = omega (arith, (starts e n (omega arith)).near)

-- what placing and counting take of these
pub ruleset placing = (far_end, far_places, next_end, next_places, last_end, last_places)

pub ruleset counting = (told_over, overflows, next_free_lem, last_free_lem)
