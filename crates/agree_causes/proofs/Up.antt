-- Going forward over the directories: all are placed, or up to the first that cannot be. Assumes nothing.
use Prim.Native.Nat.{ℕ, zero, suc, ◌+◌, ◌≤◌, ◌<◌}
use native.Mathlib.Omega.{arith}
use native.Mathlib.Numerals.{add-one}
use native.Mathlib.Decide.{ℕ_discrete}
use mathlib.Core.Path.{◌≡◌, refl, sym, ap, subst, ◌∙◌}
use mathlib.Core.List.{List}
use Rattle.units.specs.Told.{Told, gives}
use Rattle.avl_model.specs.Tree.{Tree}
use Rattle.avl_model.specs.Order.{order}
use Rattle.table_model.specs.Place.{free_of}
use Rattle.table_model.specs.Table.{Placing, place_of}
use Rattle.table_model.proofs.Placing as placing
use Rattle.table_model.proofs.Placing.{outcome}
use Rattle.img_model.specs.Shares.{Request, share_of, given_name, directories_of, count_of}
use Rattle.img_model.specs.Plan.{if_grown, Taking, entries_at, taking_all, if_placed, taking_up, with_sizes}
use Rattle.img_model.proofs.Takings.{free_taken}
use Rattle.img_model.specs.Image.{answer_of}
use Rattle.agree_causes.specs.Plans.{FairImage, TooLong, tree_for, SizesOf, free_before, items_for, Placeable, PlanOutcome, planned, seven, eight}
use Rattle.agree_causes.specs.Lists.{sectors_of}
use Rattle.agree_causes.proofs.Sectors.{free_is}
use Rattle.agree_causes.proofs.OfList.{near}
use Rattle.agree_causes.proofs.Down.{Low, tree_given}

module _ (R : Request) (f : FairImage R) (s : List ℕ) (none : (d i : ℕ) → TooLong R d i → ⊥) (low : Low s) (z : SizesOf R s) where
  free_step : (d : ℕ) → free_before R s (suc d) ≡ free_before R s d + sectors_of (entries_at R s d) (count_of R d)
  unfolding free_before
  free_step d = refl

  free_next : (d : ℕ) → free_before R s (suc d) ≡ free_of (entries_at R s d) 1 (free_before R s d) (tree_for R s d)
  free_next d = free_step d ∙ sym (free_is (given_name (share_of R d)) (entries_at R s d) (free_before R s d) (count_of R d))

  abbrev Answers : Told Taking → Type 0
  Answers x = PlanOutcome R (answer_of (with_sizes s x))

  one : (d : ℕ) → d < directories_of R → ((e : ℕ) → e < d → Placeable R s e) → placing.Outcome (entries_at R s d) 1 (free_before R s d) (tree_for R s d) → (rest : Told Taking)
      → (Placeable R s d → Answers rest) → Answers (if_placed R s d (place_of (entries_at R s d) 1 (free_before R s d) (tree_for R s d)) rest)
  one d h before (placing.given a l e) rest next =
      subst (λ (g : Told Placing). Answers (if_placed R s d g rest)) (sym e)
      (next (record { near = near (items_for R s d) a; low = subst (λ (m : ℕ). m ≤ 4294967295) (sym (free_next d)) l }))
  one d h before (placing.seven y m far e) rest next =
      subst (λ (g : Told Placing). Answers (if_placed R s d g rest)) (sym e) (seven none s z d h before y m (omega arith))
  one d h before (placing.eight a over e) rest next =
      subst (λ (g : Told Placing). Answers (if_placed R s d g rest)) (sym e)
      (eight none s z d h before (near (items_for R s d) a) (subst (λ (m : ℕ). 4294967295 < m) (sym (free_next d)) over))

  pub up : (k d : ℕ) → d + k ≡ directories_of R → (p : Taking) → p.free ≡ free_before R s d → ((e : ℕ) → e < d → Placeable R s e) → PlanOutcome R (answer_of (with_sizes s (taking_up R s k d p)))
  unfolding taking_up
  up zero d e p q before =
      let same : d ≡ directories_of R = omega arith in
      subst (λ (m : ℕ). PlanOutcome R (gives m)) (sym (q ∙ ap (free_before R s) same)) (planned none s z (λ x h. before x (omega arith)))
  up (suc k) d e p q before =
      let h : d < directories_of R = omega arith in
      subst (λ (g : Told Tree). Answers (if_grown R d g (λ t. if_placed R s d (place_of (entries_at R s d) 1 p.free t) (taking_up R s k (d + 1) (taking_all R s d p (order t))))))
      (sym (tree_given R f s low d h none))
      (subst (λ (m : ℕ). Answers (if_placed R s d (place_of (entries_at R s d) 1 m (tree_for R s d)) (taking_up R s k (d + 1) (taking_all R s d p (order (tree_for R s d)))))) (sym q)
      (one d h before (outcome (entries_at R s d) 1 (free_before R s d) (tree_for R s d)) (taking_up R s k (d + 1) (taking_all R s d p (order (tree_for R s d))))
      (λ c. up k (d + 1) (omega arith) (taking_all R s d p (order (tree_for R s d)))
      (free_taken R s d (tree_for R s d) p ∙ ap (λ (m : ℕ). free_of (entries_at R s d) 1 m (tree_for R s d)) q ∙ sym (free_next d) ∙ ap (free_before R s) (sym (add-one d)))
      (λ x g. elim (ℕ_discrete d x) [
        | yes u ↦ subst (Placeable R s) u c
        | no u ↦ before x (omega arith)
      ]))))
