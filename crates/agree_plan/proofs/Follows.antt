-- ALL RUNS OF SECTORS OF A PLAN follow one another, from 33 to the next free sector: no gap, no overlap. Assumes nothing.
use Prim.Native.Nat.{ℕ, zero, suc, ◌+◌, ◌≤◌, ◌<◌}
use native.Mathlib.Omega.{arith}
use mathlib.Core.Path.{◌≡◌, refl, sym, subst}
use mathlib.Core.List.{List, [], ◌∷◌, ◌++◌, map, map-append}
use Rattle.layout_sector.specs.Counter.{sectors_for}
use Rattle.layout_sector.proofs.Laws.{aligned_one}
use Rattle.avl_model.specs.Tree.{Tree, leaf, node}
use Rattle.table_model.specs.Entry.{Entry, Item}
use Rattle.table_model.specs.Place.{stop_of, end_of, free_after, free_of, items}
use Rattle.table_model.proofs.Placing.{free_given_lem}
use Rattle.img_model.specs.Shares.{Request, directories_of}
use Rattle.img_model.specs.Plan.{table_in, entries_at, Plan}
use Rattle.agree_plan.specs.Planned.{tree_at, root_sector, start_sector, items_at, Planned, Disjoint, sector_at}
use Rattle.agree_plan.specs.Runs.{Run, run_of, runs_of, Follow, counts, AllRuns, RunsApart}
use Rattle.agree_plan.proofs.Tables.{table_planned, free_is}
use Rattle.agree_plan.proofs.Sectors.{sectors_planned}

-- two rows of runs, of which the second follows the first
follow_append : (s m e : ℕ) (rs qs : List Run) → Follow s rs m → Follow m qs e → Follow s (rs ++ qs) e
follow_append s m e [] qs a b = subst (λ (v : ℕ). Follow v qs e) (sym a) b
follow_append s m e (r ∷ rs) qs a b = (a.0, follow_append (r.start + r.count) m e rs qs a.1 b)

-- the next free sector is the first and all counts
follow_counts : (s e : ℕ) (rs : List Run) → Follow s rs e → e ≡ s + counts rs
follow_counts s e [] a = omega (arith, a)
follow_counts s e (r ∷ rs) a = omega (arith, a.0, follow_counts (r.start + r.count) e rs a.1)

-- none starts before s, so no two overlap
follow_after : (m s e : ℕ) (rs : List Run) → m ≤ s → Follow s rs e → AllRuns (λ q. m ≤ q.start) rs
follow_after m s e [] h a = tt
follow_after m s e (r ∷ rs) h a = (omega (arith, a.0), follow_after m (r.start + r.count) e rs (omega (arith, a.0)) a.1)

follow_apart : (s e : ℕ) (rs : List Run) → Follow s rs e → RunsApart rs
follow_apart s e [] a = tt
follow_apart s e (r ∷ rs) a = (follow_after (r.start + r.count) (r.start + r.count) e rs (omega arith) a.1, follow_apart (r.start + r.count) e rs a.1)

-- the runs of a table's items follow one another
items_follow : (entry : ℕ → Entry) (t : Tree) (e s : ℕ) → Follow s (map run_of (items entry 1 e s t)) (free_of entry 1 s t)
unfolding items free_of
items_follow entry leaf e s = refl
items_follow entry (node l i r) e s =
    let e₁ : ℕ = stop_of entry e i in
    let s₁ : ℕ = free_after entry 1 s i in
    let s₂ : ℕ = free_of entry 1 s₁ l in (
      aligned_one s,
      subst (λ (rs : List Run). Follow s₁ rs (free_of entry 1 s₂ r)) (sym (map-append run_of (items entry 1 e₁ s₁ l) (items entry 1 (end_of entry e₁ l) s₂ r)))
          (follow_append s₁ s₂ (free_of entry 1 s₂ r) (map run_of (items entry 1 e₁ s₁ l)) (map run_of (items entry 1 (end_of entry e₁ l) s₂ r))
          (items_follow entry l e₁ s₁) (items_follow entry r (end_of entry e₁ l) s₂)),
    )

-- the runs of items, by their entries' numbers
runs_by : (entry : ℕ → Entry) (sector : ℕ → ℕ) (xs : List Item) (is : List ℕ) → map (λ (y : Item). y.entry) xs ≡ map entry is → map (λ (y : Item). y.sector) xs ≡ map sector is
    → map run_of xs ≡ map (λ i. record { start = sector i; count = sectors_for (entry i).size }) is
runs_by entry sector [] [] a b = refl
runs_by entry sector [] (i ∷ is) a b = let z : ◌≡◌ {A = ℕ} 0 1 = cc in absurd (omega arith)
runs_by entry sector (x ∷ xs) [] a b = let z : ◌≡◌ {A = ℕ} 0 1 = cc in absurd (omega arith)
runs_by entry sector (x ∷ xs) (i ∷ is) a b =
    let e : x.entry ≡ entry i = cc in
    let f : x.sector ≡ sector i = cc in
    let g : map (λ (y : Item). y.entry) xs ≡ map entry is = cc in
    let h : map (λ (y : Item). y.sector) xs ≡ map sector is = cc in
    λ k. record { start = f k; count = sectors_for (e k).size } ∷ runs_by entry sector xs is g h k

module _ (R : Request) (places : ℕ) (tables sectors : List ℕ) (p : Plan) (g : Planned R places tables sectors p) where
  next_start : (d : ℕ) → d < directories_of R → start_sector R p.sizes (suc d) ≡ free_of (entries_at R p.sizes d) 1 (start_sector R p.sizes d) (tree_at R p.sizes d)
  next_start d h =
      free_given_lem (entries_at R p.sizes d) 1 (start_sector R p.sizes d) (tree_at R p.sizes d)
      (record { size = table_in p.sizes d; free = start_sector R p.sizes (suc d) }) (table_planned R places tables sectors p g d h).placed

  root_start : start_sector R p.sizes 0 ≡ root_sector + sectors_for (table_in p.sizes 0)
  unfolding start_sector
  root_start = refl

  up_to : (d : ℕ) → d ≤ directories_of R → Follow root_sector (runs_of R p.sizes d) (start_sector R p.sizes d)
  unfolding runs_of
  up_to zero h = (refl, sym root_start)
  up_to (suc d) h =
      follow_append root_sector (start_sector R p.sizes d) (start_sector R p.sizes (suc d)) (runs_of R p.sizes d) (map run_of (items_at R p.sizes d)) (up_to d (omega arith))
      (subst (λ (m : ℕ). Follow (start_sector R p.sizes d) (map run_of (items_at R p.sizes d)) m) (sym (next_start d (omega arith)))
      (items_follow (entries_at R p.sizes d) (tree_at R p.sizes d) 0 (start_sector R p.sizes d)))

  -- ONE AFTER ANOTHER
  pub runs_follow : Follow 33 (runs_of R p.sizes (directories_of R)) p.taken.free
  runs_follow = subst (Follow 33 (runs_of R p.sizes (directories_of R))) (sym (free_is R places tables sectors p g)) (up_to (directories_of R) (omega arith))

  -- NO TWO OVERLAP
  pub runs_apart : RunsApart (runs_of R p.sizes (directories_of R))
  runs_apart = follow_apart 33 p.taken.free (runs_of R p.sizes (directories_of R)) runs_follow

  -- THE NEXT FREE SECTOR is 33 plus all counts
  pub free-counts : p.taken.free ≡ 33 + counts (runs_of R p.sizes (directories_of R))
  free-counts = follow_counts 33 p.taken.free (runs_of R p.sizes (directories_of R)) runs_follow

  -- THESE RUNS ARE THE PLANNED ONES, where no entry is in two shares: directory by directory, each entry once
  pub runs_planned : (apart : Disjoint R) (d : ℕ) (h : d < directories_of R)
      → map run_of (items_at R p.sizes d)
      ≡ map (λ i. record { start = sector_at R p d i; count = sectors_for (entries_at R p.sizes d i).size }) (sectors_planned R places tables sectors p g apart d h).numbers
  runs_planned apart d h =
      let s = sectors_planned R places tables sectors p g apart d h in
      runs_by (entries_at R p.sizes d) (sector_at R p d) (items_at R p.sizes d) s.numbers s.entries s.sectors
