-- WHAT PLANNING ANSWERS, by its cause. Assumes nothing.
use Prim.Native.Nat.{ℕ, ◌≤◌}
use native.Mathlib.Omega.{arith}
use mathlib.Core.Path.{◌≡◌, refl, sym, ap, subst, ◌∙◌}
use mathlib.Core.Bool.{Bool}
use mathlib.Core.List.{List, []}
use lib.Dec.{leb}
use lib.ListN.{length, take, replicate, length-replicate}
use borrow.Author.Tests.{le-leb}
use Rattle.units.specs.Told.{Told, gives, refuses, pick}
use Rattle.table_model.specs.Table.{size_of}
use Rattle.img_model.specs.Shares.{Request, directories_of}
use Rattle.img_model.specs.Plan.{sizes_down, entries_at, taking_up, rooted, if_sized, total, plan_of}
use Rattle.img_model.specs.Image.{Asked, Lent, request_in, image_of, answer_of, answer_in}
use Rattle.agree_plan.proofs.Down.{down_sized}
use Rattle.agree_plan.proofs.NeverFive.{zeros_low}
use Rattle.agree_causes.specs.Plans.{FairImage, EnoughFor, TooLong, tree_for, SizesOf, free_before, PlanOutcome, ten}
use Rattle.agree_causes.proofs.Down.{Low, Downs, sized, stopped, tree_given, down}
use Rattle.agree_causes.proofs.Up.{up}

module _ (R : Request) (f : FairImage R) where
  abbrev zeros : List ℕ
  zeros = replicate (directories_of R) 0

  long_zeros : length zeros ≡ directories_of R
  long_zeros = length-replicate (directories_of R) 0

  -- the sizes are their tables'
  sizes_are : (s : List ℕ) → sizes_down R (directories_of R) zeros ≡ gives s → ((d i : ℕ) → TooLong R d i → ⊥) → Low s → length s ≡ directories_of R → SizesOf R s
  sizes_are s e none low long = record {
    long = long;
    each = λ d h.
        let w = down_sized R f.tree (directories_of R) zeros s (subst (λ (m : ℕ). directories_of R ≤ m) (sym long_zeros) (omega arith)) (omega arith) e d h in
        let q : gives w.t ≡ gives (tree_for R s d) = sym w.told ∙ tree_given R f s low d h none in
        let same : w.t ≡ tree_for R s d = cc in
        w.size_is ∙ ap (size_of (entries_at R s d)) same;
  }

  module _ (tables sectors : List ℕ) where
    first_free : (s : List ℕ) → (rooted R s tables sectors).free ≡ free_before R s 0
    unfolding free_before
    first_free s = refl

    after : {x : Told (List ℕ)} → Downs R x → sizes_down R (directories_of R) zeros ≡ x
        → PlanOutcome R (answer_of (if_sized x (λ s. taking_up R s (directories_of R) 0 (rooted R s tables sectors))))
    after (sized s none low long) e =
        up R f s none low (sizes_are s e none low long) (directories_of R) 0 (omega arith) (rooted R s tables sectors) (first_free s) (λ x h. absurd (omega arith))
    after (stopped d i t later first) e = ten d i t later first

    of_plan : (places : ℕ) → total R.share ≤ places → PlanOutcome R (answer_of (plan_of R places tables sectors))
    unfolding plan_of
    of_plan places h =
        subst (λ (b : Bool). PlanOutcome R (answer_of (pick b (pick (leb (total R.share) places)
        (if_sized (sizes_down R (directories_of R) zeros) (λ s. taking_up R s (directories_of R) 0 (rooted R s tables sectors))) (refuses 6 [])) (refuses 11 [])))) (sym f.tree)
        (subst (λ (b : Bool). PlanOutcome R (answer_of (pick b
        (if_sized (sizes_down R (directories_of R) zeros) (λ s. taking_up R s (directories_of R) 0 (rooted R s tables sectors))) (refuses 6 [])))) (sym (le-leb (total R.share) places h))
        (after (down R f (directories_of R) zeros (omega arith) long_zeros (zeros_low (directories_of R)) (λ d i l t. let k = t.directory in omega arith)) refl))

-- A PLAN
pub plan_outcome : (A : Asked) (m : Lent) → FairImage (request_in A) → EnoughFor A m → PlanOutcome (request_in A) (answer_in A m)
unfolding image_of
plan_outcome A m f e =
    subst (λ (b : Bool). PlanOutcome (request_in A) (answer_of (pick b (plan_of (request_in A) (length m.order) (take A.directories m.tables) (take A.entries m.sectors)) (refuses 6 [])))) (sym e.room)
    (of_plan (request_in A) f (take A.directories m.tables) (take A.entries m.sectors) (length m.order) e.orders)
