-- TAKING AN ENTRY'S SECTORS: where they start, and the next free one after them. Assumes nothing.
use Rattle.std.proofs.Common.{ℕ, ◌+◌, ◌≤◌, ◌<◌, ◌≡◌, refl, sym, ap, ◌∙◌, List, Result, Ok, Err, IsOk, arith}
use Rattle.units.specs.Told.{gives}
use Rattle.units.specs.declared.Sector.{Sector}
use Rattle.layout_sector.specs.declared.SectorCounter.{SectorCounter}
use Rattle.layout_sector.specs.declared.SectorOverflow.{SectorOverflow}
use Rattle.layout_sector.specs.Counter.{sectors_for, aligned_up, told, take_of}
use Rattle.layout_sector.proofs.Laws.{given_start, given_free, overflow_where_8}
use Rattle.dirtab_place.specs.inner.Places.{size_in, free_in}

-- taking what an entry's size takes; j is its number as an index, and b its size
module _ (size kind : List ℕ) (s i j b : ℕ) (r : Result (Sector × SectorCounter) SectorOverflow) (ej : j ≡ i) (eb : b ≡ size_in size kind j) (taken : told r ≡ take_of 1 s b) where
  size_is : b ≡ size_in size kind i
  size_is = eb ∙ ap (size_in size kind) ej

  module _ (p : Sector × SectorCounter) (er : r ≡ Ok p) where
    gave : take_of 1 s b ≡ gives (record { start = p.0.0; free = p.1.next.0 })
    gave = sym taken ∙ ap told er

    pub taken_start : p.0.0 ≡ aligned_up 1 s
    taken_start = given_start 1 s b _ gave

    pub taken_free : p.1.next.0 ≡ free_in size kind s i
    taken_free = given_free 1 s b _ gave ∙ ap (λ (m : ℕ). aligned_up 1 s + sectors_for m) size_is

  -- where they can be taken, it is not refused
  pub never_over : free_in size kind s i ≤ 4294967295 → (e : SectorOverflow) → r ≡ Err e → ⊥
  never_over h e er =
      let over : 4294967295 < aligned_up 1 s + sectors_for b = overflow_where_8 1 s b (sym taken ∙ ap told er) in
      omega (arith, ap (λ (m : ℕ). aligned_up 1 s + sectors_for m) size_is)

  pub can_take : free_in size kind s i ≤ 4294967295 → IsOk r
  can_take h = of r refl
    where
      of : (q : Result (Sector × SectorCounter) SectorOverflow) → r ≡ q → IsOk q
      of (Ok p) e = refl
      of (Err x) e = absurd (never_over h x e)
