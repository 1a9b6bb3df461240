-- EVERY TABLE OF A PLAN THAT IS GIVEN has the planned size, and can be written from the sector where the one before ended. Assumes nothing.
use Prim.Native.Nat.{ℕ, ◌*◌, ◌≤◌, ◌<◌}
use native.Mathlib.Omega.{arith}
use mathlib.Core.Path.{◌≡◌, refl, sym, ap, subst, ◌∙◌}
use mathlib.Core.Bool.{Bool, true, false}
use mathlib.Core.List.{List, []}
use lib.Dec.{leb}
use lib.ListN.{replicate, length-replicate}
use Rattle.units.specs.Told.{Told, gives, refuses, pick}
use Rattle.table_model.specs.Table.{size_of, place_of}
use Rattle.table_model.proofs.Placing.{size_given}
use Rattle.img_model.specs.Shares.{Request, share_of, directories_of, is_tree}
use Rattle.img_model.specs.Plan.{table_in, Taking, entries_at, sizes_down, taking_up, rooted, Plan, with_sizes, if_sized, total, plan_of}
use Rattle.agree_plan.specs.Planned.{tree_or, tree_at, free_given, start_sector, Planned, Tabled}
use Rattle.agree_plan.proofs.Grew.{table_small}
use Rattle.agree_plan.proofs.Down.{down_sized}
use Rattle.agree_plan.proofs.Up.{taken_before, all_taken, each_placed, starts_are}

-- what a given plan went through
passed : (b : Bool) (k : ℕ) (x : Told Plan) (p : Plan) → pick b x (refuses k []) ≡ gives p → (b ≡ true) × (x ≡ gives p)
passed true k x p e = (refl, e)
passed false k x p e = let z : ◌≡◌ {A = ℕ} 0 1 = cc in absurd (omega arith)

took : (s : List ℕ) (x : Told Taking) (p : Plan) → with_sizes s x ≡ gives p → (s ≡ p.sizes) × (x ≡ gives p.taken)
took s (gives y) p e =
    let same : record { sizes = s; taken = y } ≡ p = cc in
    (ap (λ (v : Plan). v.sizes) same, ap (λ (v : Plan). gives v.taken) same)
took s (refuses k vs) p e = let z : ◌≡◌ {A = ℕ} 0 1 = cc in absurd (omega arith)

sized : (g : Told (List ℕ)) (next : List ℕ → Told Taking) (p : Plan) → if_sized g next ≡ gives p → (g ≡ gives p.sizes) × (next p.sizes ≡ gives p.taken)
sized (gives s) next p e =
    let u = took s (next s) p e in
    (ap gives u.0, ap next (sym u.0) ∙ u.1)
sized (refuses k vs) next p e = let z : ◌≡◌ {A = ℕ} 0 1 = cc in absurd (omega arith)

module _ (R : Request) (places : ℕ) (tables sectors : List ℕ) (p : Plan) (g : Planned R places tables sectors p) where
  parts : (is_tree R ≡ true) × ((sizes_down R (directories_of R) (replicate (directories_of R) 0) ≡ gives p.sizes)
      × (taking_up R p.sizes (directories_of R) 0 (rooted R p.sizes tables sectors) ≡ gives p.taken))
  unfolding plan_of
  parts =
      let a = passed (is_tree R) 11 _ p g.given in
      let b = passed (leb (total R.share) places) 6 _ p a.1 in
      (a.0, sized (sizes_down R (directories_of R) (replicate (directories_of R) 0)) (λ s. taking_up R s (directories_of R) 0 (rooted R s tables sectors)) p b.1)

  -- a plan is given of a tree of directories alone
  pub rule_kept : is_tree R ≡ true
  rule_kept = parts.0

  abbrev pub from : Taking
  from = rooted R p.sizes tables sectors

  -- what was taken is what all directories took
  pub taken_is : p.taken ≡ taken_before R p.sizes from (directories_of R)
  taken_is = all_taken R p.sizes from (directories_of R) p.taken parts.1.1

  pub start_is : (d : ℕ) → d ≤ directories_of R → start_sector R p.sizes d ≡ (taken_before R p.sizes from d).free
  start_is = starts_are R p.sizes from (directories_of R) p.taken parts.1.1 tables sectors refl

  -- EACH TABLE
  pub table_planned : (d : ℕ) → d < directories_of R → Tabled R p d
  unfolding start_sector
  table_planned d h =
      let w = each_placed R p.sizes from (directories_of R) p.taken parts.1.1 d h in
      let z = down_sized R rule_kept (directories_of R) (replicate (directories_of R) 0) p.sizes
      (subst (λ (m : ℕ). directories_of R ≤ m) (sym (length-replicate (directories_of R) 0)) (omega arith)) (omega arith) parts.1.0 d h in
      let same : z.t ≡ tree_at R p.sizes d = ap tree_or (sym z.told) in
      let s : ℕ = start_sector R p.sizes d in
      let size_is : table_in p.sizes d ≡ size_of (entries_at R p.sizes d) (tree_at R p.sizes d) = z.size_is ∙ ap (size_of (entries_at R p.sizes d)) same in
      let at : place_of (entries_at R p.sizes d) 1 s (tree_at R p.sizes d) ≡ gives w.placing =
      ap (λ (m : ℕ). place_of (entries_at R p.sizes d) 1 m (tree_at R p.sizes d)) (start_is d (omega arith)) ∙ w.placed in
      let size : w.placing.size ≡ table_in p.sizes d = size_given (entries_at R p.sizes d) 1 s (tree_at R p.sizes d) w.placing at ∙ sym size_is in
      let free : w.placing.free ≡ free_given (place_of (entries_at R p.sizes d) 1 s (tree_at R p.sizes d)) = ap free_given (sym at) in
      record {
        grown = w.told;
        sized = size_is;
        placed = at ∙ λ k. gives (record { size = size k; free = free k });
      }

  -- of a size of at most 16,384 times 2,320 bytes
  pub size_most : (d : ℕ) → d < directories_of R → table_in p.sizes d ≤ 16384 * 2320
  size_most d h =
      let T = table_planned d h in
      subst (λ (n : ℕ). n ≤ 16384 * 2320) (sym T.sized) (table_small (share_of R d) (table_in p.sizes) (tree_at R p.sizes d) T.grown)

  -- THE NEXT FREE SECTOR is where the last one ended
  pub free_is : p.taken.free ≡ start_sector R p.sizes (directories_of R)
  free_is = ap (λ (v : Taking). v.free) taken_is ∙ sym (start_is (directories_of R) (omega arith))
