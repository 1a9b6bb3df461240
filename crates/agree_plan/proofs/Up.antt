-- Going forward over the directories: each is placed from the next free sector that the one before left. Assumes nothing.
use Prim.Native.Nat.{ℕ, zero, suc, ◌+◌, ◌≤◌, ◌<◌}
use native.Mathlib.Omega.{arith}
use native.Mathlib.Numerals.{add-one}
use native.Mathlib.Decide.{ℕ_discrete}
use mathlib.Core.Path.{◌≡◌, refl, sym, ap, subst, ◌∙◌}
use mathlib.Core.List.{List}
use Rattle.units.specs.Told.{Told, gives, refuses}
use Rattle.avl_model.specs.Tree.{Tree}
use Rattle.avl_model.specs.Order.{order}
use Rattle.table_model.specs.Table.{Placing, place_of}
use Rattle.table_model.proofs.Placing.{free_given_lem}
use Rattle.img_model.specs.Shares.{Request, share_of}
use Rattle.img_model.specs.Plan.{table_in, tree_in, Taking, entries_at, taking_all, if_placed, taking_up, rooted}
use Rattle.img_model.proofs.Takings.{free_taken}
use Rattle.agree_plan.specs.Planned.{tree_or, tree_at, free_given, start_sector}
use Rattle.agree_plan.proofs.Down.{tree_there}

module _ (R : Request) (s : List ℕ) where
  placed_there : (d : ℕ) (g : Told Placing) (x : Told Taking) (q : Taking) → if_placed R s d g x ≡ gives q → (z : Placing) × ((g ≡ gives z) × (x ≡ gives q))
  placed_there d (gives z) x q e = (z, (refl, e))
  placed_there d (refuses k vs) x q e = let z : ◌≡◌ {A = ℕ} 0 1 = cc in absurd (omega arith)

  -- a table that can be placed from a sector on
  pub record PlacedFrom (d free : ℕ) : Type 0 where
    pub told : tree_in (share_of R d) (table_in s) ≡ gives (tree_at R s d)
    pub placing : Placing
    pub placed : place_of (entries_at R s d) 1 free (tree_at R s d) ≡ gives placing

  step : (k d : ℕ) (p q : Taking) → taking_up R s (suc k) d p ≡ gives q
      → PlacedFrom d p.free × (taking_up R s k (suc d) (taking_all R s d p (order (tree_at R s d))) ≡ gives q)
  unfolding taking_up
  step k d p q e =
      let u = tree_there R d (tree_in (share_of R d) (table_in s)) _ q e in
      let same : u.0 ≡ tree_at R s d = sym (ap tree_or u.1.0) in
      let v = placed_there d (place_of (entries_at R s d) 1 p.free u.0) _ q u.1.1 in (
        record {
          told = u.1.0 ∙ ap gives same;
          placing = v.0;
          placed = ap (place_of (entries_at R s d) 1 p.free) (sym same) ∙ v.1.0;
        },
        ap (λ (m : ℕ). taking_up R s k m (taking_all R s d p (order (tree_at R s d)))) (sym (add-one d))
            ∙ ap (λ (t : Tree). taking_up R s k (d + 1) (taking_all R s d p (order t))) (sym same) ∙ v.1.1,
      )

  ends : (d : ℕ) (p q : Taking) → taking_up R s zero d p ≡ gives q → p ≡ q
  unfolding taking_up
  ends d p q e = cc

  -- what is taken before directory d, from p on
  unfoldable pub taken_before : Taking → ℕ → Taking
  taken_before p zero = p
  taken_before p (suc d) = taking_all R s d (taken_before p d) (order (tree_at R s d))

  pub before_next : (p : Taking) (d : ℕ) → taken_before p (suc d) ≡ taking_all R s d (taken_before p d) (order (tree_at R s d))
  unfolding taken_before
  before_next p d = refl

  pub before_none : (p : Taking) → taken_before p zero ≡ p
  unfolding taken_before
  before_none p = refl

  going : (p : Taking) (k d : ℕ) (q : Taking) → taking_up R s k d (taken_before p d) ≡ gives q
      → (q ≡ taken_before p (d + k)) × ((e : ℕ) → d ≤ e → e < d + k → PlacedFrom e (taken_before p e).free)
  going p zero d q h = (sym (ends d (taken_before p d) q h) ∙ ap (taken_before p) {x = d} {y = d + 0} (omega arith), λ e l g. absurd (omega arith))
  going p (suc k) d q h =
      let u = step k d (taken_before p d) q h in
      let v = going p k (suc d) q (ap (taking_up R s k (suc d)) (before_next p d) ∙ u.1) in (
        v.0 ∙ ap (taken_before p) {x = suc d + k} {y = d + suc k} (omega arith),
        λ e l g. elim (ℕ_discrete d e) [
          | yes c ↦ subst (λ (m : ℕ). PlacedFrom m (taken_before p m).free) c u.0
          | no c ↦ v.1 e (omega (arith, c)) (omega arith)
        ],
      )

  module _ (p : Taking) (n : ℕ) (q : Taking) (h : taking_up R s n 0 p ≡ gives q) where
    gone : (q ≡ taken_before p (0 + n)) × ((e : ℕ) → 0 ≤ e → e < 0 + n → PlacedFrom e (taken_before p e).free)
    unfolding taken_before
    gone = going p n 0 q h

    pub all_taken : q ≡ taken_before p n
    all_taken = gone.0 ∙ ap (taken_before p) {x = 0 + n} {y = n} (omega arith)

    pub each_placed : (e : ℕ) → e < n → PlacedFrom e (taken_before p e).free
    each_placed e g = gone.1 e (omega arith) (omega arith)

    -- the directories start where the ones before end
    pub starts_are : (tables sectors : List ℕ) → p ≡ rooted R s tables sectors → (d : ℕ) → d ≤ n → start_sector R s d ≡ (taken_before p d).free
    unfolding start_sector taken_before
    starts_are tables sectors e zero l = ap (λ (v : Taking). v.free) (sym e)
    starts_are tables sectors e (suc d) l =
        let w = each_placed d (omega arith) in
        let ih : start_sector R s d ≡ (taken_before p d).free = starts_are tables sectors e d (omega arith) in
        ap (λ (m : ℕ). free_given (place_of (entries_at R s d) 1 m (tree_at R s d))) ih
        ∙ ap free_given w.placed
        ∙ free_given_lem (entries_at R s d) 1 (taken_before p d).free (tree_at R s d) w.placing w.placed
        ∙ sym (free_taken R s d (tree_at R s d) (taken_before p d))
