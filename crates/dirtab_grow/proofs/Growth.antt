-- What growing a tree of a list comes to: it has the numbers of the list, each of which passed its checks, and it can be grown in two parts. Assumes nothing.
use Rattle.std.proofs.Common.{ℕ, zero, suc, ◌+◌, ◌≤◌, ◌<◌, arith, ◌≡◌, refl, sym, ap, ap₂, subst, ◌∙◌, Bool, true, false, List, [], ◌∷◌, ltb, ltb-true}
use native.Mathlib.Decide.{ℕ_discrete}
use Rattle.units.specs.Told.{Told, gives, refuses, pick}
use Rattle.std.specs.declared.cmp.Ordering.{Ordering}
use Rattle.avl_model.specs.declared.Spot.{Spot}
use Rattle.avl_model.specs.declared.Spot.TheVariants.{Same, Free}
use Rattle.avl_model.specs.declared.Place.TheVariants.{Root}
use Rattle.avl_model.specs.Names.{is_less}
use Rattle.avl_model.specs.Seek.{spot_in}
use Rattle.avl_model.specs.Tree.{Tree, ins}
use Rattle.avl_model.specs.Laws.{All}
use Rattle.avl_model.proofs.Avl.{all_ins, all_map}
use Rattle.dirtab_grow.specs.Grow.{if_taken, if_free, grow_from}

never : {X : Type 0} {t : Tree} {k : ℕ} {vs : List ℕ} → ◌≡◌ {A = Told Tree} (refuses k vs) (gives t) → X
never e = let z : ◌≡◌ {A = ℕ} 0 1 = cc in absurd (omega arith)

-- a step, by the test that there is room; x is what is left to be grown
abbrev step : ℕ → Told (Unit {0}) → Spot → Bool → Told Tree → Told Tree
step i u s b x = if_taken i u (if_free i s (pick b x (refuses 6 (i ∷ []))))

-- a step that ends in a tree has passed its checks, and what is left ends in that tree
passed : (i : ℕ) (u : Told (Unit {0})) (s : Spot) (b : Bool) (x : Told Tree) {t : Tree} → step i u s b x ≡ gives t → (u ≡ gives tt) × (b ≡ true) × (x ≡ gives t)
passed i (gives u) (Same j) b x e = never e
passed i (gives u) (Free q) true x e = (refl, refl, e)
passed i (gives u) (Free q) false x e = never e
passed i (refuses k vs) s b x e = never e

-- go on with the tree that is given
abbrev pub and_then : Told Tree → (Tree → Told Tree) → Told Tree
and_then (gives t) next = next t
and_then (refuses k vs) next = refuses k vs

then_step : (i : ℕ) (u : Told (Unit {0})) (s : Spot) (b : Bool) (x : Told Tree) (next : Tree → Told Tree) → and_then (step i u s b x) next ≡ step i u s b (and_then x next)
then_step i (gives u) (Same j) b x next = refl
then_step i (gives u) (Free q) true x next = refl
then_step i (gives u) (Free q) false x next = refl
then_step i (refuses k vs) s b x next = refl

same_tree : {t u : Tree} → ◌≡◌ {A = Told Tree} (gives t) (gives u) → t ≡ u
same_tree e = cc

module _ (between : ℕ → ℕ → Ordering) where
  abbrev more : ℕ → Tree → Tree
  more i t = ins (λ j. is_less (between i j)) i t

  abbrev spot : ℕ → Tree → Spot
  spot i t = spot_in (between i) t Root

  -- what is asked of other entries makes no difference
  pub same_checks : (f g : ℕ → Told (Unit {0})) (k i : ℕ) (t : Tree) → ((j : ℕ) → i ≤ j → j < i + k → f j ≡ g j) → grow_from f between k i t ≡ grow_from g between k i t
  unfolding grow_from
  same_checks f g zero i t h = refl
  same_checks f g (suc k) i t h =
      ap₂ (λ (u : Told (Unit {0})) (x : Told Tree). step i u (spot i t) (ltb i 16384) x) (h i (omega arith) (omega arith))
      (same_checks f g k (i + 1) (more i t) (λ j p q. h j (omega arith) (omega arith)))

  module _ (check : ℕ → Told (Unit {0})) where
    abbrev grown : ℕ → ℕ → Tree → Told Tree
    grown k i t = grow_from check between k i t

    -- the first k entries, and then m more
    pub grow_then : (k m i n j : ℕ) (t : Tree) → n ≡ k + m → j ≡ i + k → grow_from check between n i t ≡ and_then (grow_from check between k i t) (λ u. grow_from check between m j u)
    unfolding grow_from
    grow_then zero m i n j t en ej =
        ap (λ (a : ℕ). grown a i t) {x = n} {y = m} (omega arith) ∙ ap (λ (b : ℕ). grown m b t) {x = i} {y = j} (omega arith)
    grow_then (suc k) m i n j t en ej =
        ap (λ (a : ℕ). grown a i t) {x = n} {y = suc (k + m)} (omega arith)
        ∙ ap (step i (check i) (spot i t) (ltb i 16384)) (grow_then k m (i + 1) (k + m) j (more i t) refl (omega arith))
        ∙ sym (then_step i (check i) (spot i t) (ltb i 16384) (grown k (i + 1) (more i t)) (λ u. grown m j u))

    -- an entry that its check refuses is the answer
    pub grow_refused : (k i c : ℕ) (vs : List ℕ) (t : Tree) → check i ≡ refuses c vs → grow_from check between (suc k) i t ≡ refuses c (i ∷ [])
    unfolding grow_from
    grow_refused k i c vs t e = ap (λ (u : Told (Unit {0})). step i u (spot i t) (ltb i 16384) (grown k (i + 1) (more i t))) e

    pub grow_none : (i : ℕ) (t : Tree) → grow_from check between 0 i t ≡ gives t
    unfolding grow_from
    grow_none i t = refl

    one_in : (k i : ℕ) (t : Tree) {u : Tree} → grow_from check between (suc k) i t ≡ gives u → (check i ≡ gives tt) × (ltb i 16384 ≡ true) × (grow_from check between k (i + 1) (more i t) ≡ gives u)
    unfolding grow_from
    one_in k i t e = passed i (check i) (spot i t) (ltb i 16384) (grown k (i + 1) (more i t)) e

    -- every entry of a list that grew into a tree has passed its checks
    pub all_passed : (k i : ℕ) (t : Tree) {u : Tree} → grow_from check between k i t ≡ gives u → (j : ℕ) → i ≤ j → j < i + k → check j ≡ gives tt
    all_passed zero i t e j h g = absurd (omega arith)
    all_passed (suc k) i t e j h g =
        let p = one_in k i t e in
        elim (ℕ_discrete i j) [
          | yes q ↦ subst (λ (v : ℕ). check v ≡ gives tt) q p.0
          | no q ↦ all_passed k (i + 1) (more i t) p.2 j (omega (arith, q)) (omega arith)
        ]

    -- there are not more than 16,384 of them
    pub few_grown : (k i : ℕ) (t : Tree) {u : Tree} → i ≤ 16384 → grow_from check between k i t ≡ gives u → i + k ≤ 16384
    few_grown zero i t h e = omega arith
    few_grown (suc k) i t h e =
        let p = one_in k i t e in
        let low : i < 16384 = ltb-true i 16384 p.1 in
        omega (arith, few_grown k (i + 1) (more i t) (omega arith) p.2)

    -- the tree has no other numbers
    pub below_grown : (k i : ℕ) (t : Tree) {u : Tree} → All (λ j. j < i) t → grow_from check between k i t ≡ gives u → All (λ j. j < i + k) u
    unfolding grow_from
    below_grown zero i t {u} a e = subst (All (λ j. j < i + 0)) (same_tree e) (all_map (λ j. j < i) (λ j. j < i + 0) t (λ j h. omega arith) a)
    below_grown (suc k) i t {u} a e =
        let p = one_in k i t e in
        all_map (λ j. j < i + 1 + k) (λ j. j < i + suc k) u (λ j h. omega arith)
        (below_grown k (i + 1) (more i t) (all_ins (λ j. j < i + 1) (λ j. is_less (between i j)) i t (omega arith) (all_map (λ j. j < i) (λ j. j < i + 1) t (λ j h. omega arith) a)) p.2)
