-- Entries take their sectors along an order: turn by turn, and along a directory's preorder as the plan has it. Assumes nothing.
use Prim.Native.Nat.{ℕ, suc, ◌+◌, ◌/◌, ◌≤◌, ◌<◌}
use native.Mathlib.Omega.{arith}
use native.Mathlib.Numerals.{add-one}
use mathlib.Core.Path.{◌≡◌, refl, sym, ap, ap₂, subst, ◌∙◌}
use mathlib.Core.Bool.{Bool, true, false}
use mathlib.Core.List.{List, [], ◌∷◌}
use lib.Dec.{eqb}
use lib.ListN.{length, get_or, set, drop, drop_of_length-le}
use lib.Seq.{drop-cons}
use Rattle.units.specs.Told.{pick}
use Rattle.units.specs.declared.Sector.{Sector}
use Rattle.layout_sector.specs.declared.SectorCounter.{SectorCounter}
use Rattle.layout_sector.specs.declared.SectorOverflow.{SectorOverflow}
use Rattle.std.specs.Prelude.{Result, Ok, Err, IsOk}
use Rattle.layout_sector.specs.Counter.{sectors_for, aligned_up, told, take_of}
use Rattle.layout_sector.proofs.Laws.{aligned_above, given_free, overflow_where_8}
use Rattle.dirtab_place.specs.inner.Places.{size_in, free_in}
use Rattle.dirtab_place.proofs.Taking.{taken_start, taken_free, can_take}
use Rattle.dirtab_place.proofs.Along.{SameSize}
use Rattle.img_model.specs.Shares.{Request, share_of, first_of}
use Rattle.img_model.specs.Plan.{Taking, entries_at, taking_all}
use Rattle.img_model.specs.Plan as plan
use Rattle.img_take.specs.inner.Forward.{taking, take_one, take_along, Enters, EntersAll}

-- ---- the sectors that a size of four bytes takes

few_by : (n : ℕ) (b : Bool) → n ≤ 4294967295 → pick b 1 ((n + 2047) / 2048) ≤ 2097152
few_by n true h = omega arith
few_by n false h = omega arith

pub few_sectors : (n : ℕ) → n ≤ 4294967295 → sectors_for n ≤ 2097152
unfolding sectors_for
few_sectors n h = few_by n (eqb n 0) h

-- ---- the root table

module _ (n : ℕ) (r : Result (Sector × SectorCounter) SectorOverflow) (s : ℕ) (first : s ≡ 33) (taken : told r ≡ take_of 1 s n) where
  pub root_free : (p : Sector × SectorCounter) → r ≡ Ok p → p.1.next.0 ≡ 33 + sectors_for n
  root_free p er = given_free 1 s n _ (sym taken ∙ ap told er) ∙ ap (λ (s : ℕ). aligned_up 1 s + sectors_for n) first

  pub root_fits : n < 4294967296 → IsOk r
  root_fits h = of r refl
    where
      of : (q : Result (Sector × SectorCounter) SectorOverflow) → r ≡ q → IsOk q
      of (Ok p) e = refl
      of (Err x) e =
          let over : 4294967295 < aligned_up 1 s + sectors_for n = overflow_where_8 1 s n (sym taken ∙ ap told e) in
          absurd (omega (arith, few_sectors n (omega arith)))

-- ---- an entry that names a directory

pub named_is : (tables : List ℕ) (kind value sector : ℕ) → eqb kind 1 ≡ true → set tables value sector ≡ pick (eqb kind 1) (set tables value sector) tables
named_is tables kind value sector k = sym (ap (λ (b : Bool). pick b (set tables value sector) tables) k)

pub named_none : (tables new : List ℕ) (kind : ℕ) → eqb kind 1 ≡ false → tables ≡ pick (eqb kind 1) new tables
named_none tables new kind k = sym (ap (λ (b : Bool). pick b new tables) k)

-- ---- one entry

-- b is its size, and r what taking answered
module _ (kind value size : List ℕ) (f i s b : ℕ) (r : Result (Sector × SectorCounter) SectorOverflow) (eb : b ≡ size_in size kind i) (taken : told r ≡ take_of 1 s b) where
  pub one_taken : (tables sectors tables₁ sectors₁ : List ℕ) (y : ℕ) (p : Sector × SectorCounter) → r ≡ Ok p → y ≡ p.0.0
      → tables₁ ≡ pick (eqb (get_or kind i 0) 1) (set tables (get_or value i 0) y) tables → sectors₁ ≡ set sectors (f + i) y
      → taking tables₁ sectors₁ p.1.next.0 ≡ take_one kind value size f (taking tables sectors s) i
  one_taken tables sectors tables₁ sectors₁ y p er ey et es =
      let y_is : y ≡ aligned_up 1 s = ey ∙ taken_start size kind s i i b r refl eb taken p er in
      let free : p.1.next.0 ≡ free_in size kind s i = taken_free size kind s i i b r refl eb taken p er in
      rw (et, es, y_is, free)

  pub one_fits : free_in size kind s i ≤ 4294967295 → IsOk r
  one_fits = can_take size kind s i i b r refl eb taken

-- ---- turn by turn

module _ (kind value size : List ℕ) (f : ℕ) where
  along_cut : (p : Taking) (order : List ℕ) (k i : ℕ) → k < length order → i ≡ get_or order k 0
      → take_along kind value size f p (drop k order) ≡ take_along kind value size f (take_one kind value size f p i) (drop (k + 1) order)
  unfolding take_along
  along_cut p order k i h e =
      let q : drop k order ≡ i ∷ drop (k + 1) order = rw (e, add-one) (drop-cons order k 0 h) in
      ap (take_along kind value size f p) q

  -- the next free sector only grows
  pub along_more : (p : Taking) (is : List ℕ) → p.free ≤ (take_along kind value size f p is).free
  unfolding take_along
  along_more p [] = omega arith
  along_more p (i ∷ is) = omega (arith, along_more (take_one kind value size f p i) is, aligned_above 1 p.free (omega arith))

  -- `so_far`: what is left of the order is taken from p on
  module _ (order : List ℕ) (p₀ p : Taking) (k i : ℕ) (so_far : take_along kind value size f p₀ order ≡ take_along kind value size f p (drop k order)) (i-is : i ≡ get_or order k 0) where
    pub along_low : k < length order → (take_along kind value size f p₀ order).free ≤ 4294967295 → (take_one kind value size f p i).free ≤ 4294967295
    along_low h low =
        let e : take_along kind value size f p₀ order ≡ take_along kind value size f (take_one kind value size f p i) (drop (k + 1) order) = so_far ∙ along_cut p order k i h i-is in
        let g : (take_along kind value size f (take_one kind value size f p i) (drop (k + 1) order)).free ≤ 4294967295 = subst (λ (q : Taking). q.free ≤ 4294967295) e low in
        omega (arith, g, along_more (take_one kind value size f p i) (drop (k + 1) order))

    pub along_next : (q : Taking) (j : ℕ) → k < length order → q ≡ take_one kind value size f p i → j ≡ k + 1 → take_along kind value size f p₀ order ≡ take_along kind value size f q (drop j order)
    along_next q j h e ej =
        so_far ∙ along_cut p order k i h i-is ∙ ap₂ (λ (q : Taking) (m : ℕ). take_along kind value size f q (drop m order)) (sym e) (sym ej)

    pub along_asks : (tables₀ sectors₀ tables sectors : ℕ) → k < length order → EntersAll order kind value size f tables₀ sectors₀ → tables ≡ tables₀ → sectors ≡ sectors₀ → Enters kind value size f i tables sectors
    along_asks tables₀ sectors₀ tables sectors h a et es = rw (i-is, et, es) (a k h)

  pub along_last : (order : List ℕ) (p₀ p : Taking) (k : ℕ) → take_along kind value size f p₀ order ≡ take_along kind value size f p (drop k order) → length order ≤ k → p ≡ take_along kind value size f p₀ order
  unfolding take_along
  along_last order p₀ p k so_far h = sym (so_far ∙ ap (take_along kind value size f p) (drop_of_length-le order h))

-- ---- as the plan has it

module _ (R : Request) (s : List ℕ) (d : ℕ) (size : List ℕ) where
  one_is : (p : Taking) (i : ℕ) → SameSize (entries_at R s d) size (share_of R d).kind i
      → plan.taking R s d p i ≡ take_one (share_of R d).kind (share_of R d).value size (first_of R d) p i
  one_is p i e =
      ap (λ (n : ℕ). record {
        tables = pick (eqb (get_or (share_of R d).kind i 0) 1) (set p.tables (get_or (share_of R d).value i 0) (aligned_up 1 p.free)) p.tables;
        sectors = set p.sectors (first_of R d + i) (aligned_up 1 p.free);
        free = aligned_up 1 p.free + sectors_for n;
      }) e

  pub along_is : (p : Taking) (is : List ℕ) → ((k : ℕ) → k < length is → SameSize (entries_at R s d) size (share_of R d).kind (get_or is k 0))
      → taking_all R s d p is ≡ take_along (share_of R d).kind (share_of R d).value size (first_of R d) p is
  unfolding taking_all take_along
  along_is p [] h = refl
  along_is p (i ∷ is) h =
      ap (λ (q : Taking). taking_all R s d q is) (one_is p i (h 0 (omega arith)))
      ∙ along_is (take_one (share_of R d).kind (share_of R d).value size (first_of R d) p i) is (λ k g. h (suc k) (omega arith))
