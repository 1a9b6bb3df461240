-- One directory of going forward, and then the rest. Assumes nothing.
use Prim.Native.Nat.{ℕ, zero, suc, ◌+◌, ◌≤◌, ◌<◌}
use native.Mathlib.Omega.{arith}
use mathlib.Core.Path.{◌≡◌, refl, sym, ap, ◌∙◌}
use mathlib.Core.Bool.{Bool, true, false}
use mathlib.Core.List.{List, [], ◌∷◌}
use lib.Dec.{ltb}
use borrow.Author.Tests.{lt-ltb, le-ltb, ltb-false}
use Rattle.units.specs.Told.{Told, gives, refuses, pick}
use Rattle.avl_model.specs.Tree.{Tree}
use Rattle.avl_model.specs.Order.{order}
use Rattle.table_model.specs.Place.{free_of, items}
use Rattle.table_model.specs.Table.{Placing, any_far, size_of, place_of}
use Rattle.table_model.proofs.Far.{far_is}
use Rattle.img_model.specs.Shares.{Request, share_of}
use Rattle.img_model.specs.Plan.{table_in, tree_in, if_grown, Taking, entries_at, taking_all, if_placed, taking_up}
use Rattle.img_model.proofs.Passed.{all_fit}
use Rattle.img_model.proofs.Takings.{free_taken}
use Rattle.img_take.specs.inner.Forward.{taking, free_told, limited}

-- go on with what is given
abbrev pub and_then : {A B : Type 0} → Told A → (A → Told B) → Told B
and_then (gives x) next = next x
and_then (refuses k vs) next = refuses k vs

pub then_given : {A B : Type 0} {next : A → Told B} {y : B} (x : Told A) → and_then x next ≡ gives y → (z : A) × ((x ≡ gives z) × (next z ≡ gives y))
then_given (gives z) e = (z, (refl, e))
then_given (refuses k vs) e = let z : ◌≡◌ {A = ℕ} 0 1 = cc in absurd (omega arith)

-- a refusal is told with the directory's number
abbrev pub at : {A : Type 0} → ℕ → Told A → Told A
at d (gives x) = gives x
at d (refuses k vs) = refuses k (d ∷ [])

module _ (R : Request) (s : List ℕ) where
  -- ---- one directory

  abbrev next : ℕ → ℕ → Taking → Tree → Told Taking
  next k d p t = if_placed R s d (place_of (entries_at R s d) 1 p.free t) (taking_up R s k (d + 1) (taking_all R s d p (order t)))

  grown : (k d : ℕ) (p : Taking) → taking_up R s (suc k) d p ≡ if_grown R d (tree_in (share_of R d) (table_in s)) (next k d p)
  unfolding taking_up
  grown k d p = refl

  grown_one : (d : ℕ) (p : Taking) (t : Tree) → next 0 d p t ≡ if_placed R s d (place_of (entries_at R s d) 1 p.free t) (gives (taking_all R s d p (order t)))
  unfolding taking_up
  grown_one d p t = refl

  pub step_is : (k d : ℕ) (p : Taking) {t : Tree} → tree_in (share_of R d) (table_in s) ≡ gives t → taking_up R s (suc k) d p ≡ next k d p t
  step_is k d p e = grown k d p ∙ ap (λ (g : Told Tree). if_grown R d g (next k d p)) e

  pub one_is : (d : ℕ) (p : Taking) {t : Tree} → tree_in (share_of R d) (table_in s) ≡ gives t
      → taking_up R s 1 d p ≡ if_placed R s d (place_of (entries_at R s d) 1 p.free t) (gives (taking_all R s d p (order t)))
  one_is d p {t} e = step_is 0 d p e ∙ grown_one d p t

  -- ---- and then the rest

  split_placed : (k d : ℕ) (p : Taking) (t : Tree) (q : Told Placing)
      → if_placed R s d q (taking_up R s k (d + 1) (taking_all R s d p (order t))) ≡ and_then (if_placed R s d q (gives (taking_all R s d p (order t)))) (taking_up R s k (d + 1))
  split_placed k d p t (gives q) = refl
  split_placed k d p t (refuses c vs) = refl

  split_grown : (k d : ℕ) (p : Taking) (g : Told Tree) → if_grown R d g (next k d p) ≡ and_then (if_grown R d g (next 0 d p)) (taking_up R s k (d + 1))
  split_grown k d p (gives t) =
      split_placed k d p t (place_of (entries_at R s d) 1 p.free t) ∙ ap (λ (x : Told Taking). and_then x (taking_up R s k (d + 1))) (sym (grown_one d p t))
  split_grown k d p (refuses c vs) = refl

  pub split : (k d : ℕ) (p : Taking) → taking_up R s (suc k) d p ≡ and_then (taking_up R s 1 d p) (taking_up R s k (d + 1))
  split k d p =
      grown k d p ∙ split_grown k d p (tree_in (share_of R d) (table_in s)) ∙ ap (λ (x : Told Taking). and_then x (taking_up R s k (d + 1))) (sym (grown 0 d p))

  -- ---- of what was taken before, the next free sector alone tells the next free sector after all

  same_placed : (k d : ℕ) (p q : Taking) (t : Tree) (u : Told Placing)
      → free_told (taking_up R s k (d + 1) (taking_all R s d p (order t))) ≡ free_told (taking_up R s k (d + 1) (taking_all R s d q (order t)))
      → free_told (if_placed R s d u (taking_up R s k (d + 1) (taking_all R s d p (order t)))) ≡ free_told (if_placed R s d u (taking_up R s k (d + 1) (taking_all R s d q (order t))))
  same_placed k d p q t (gives u) h = h
  same_placed k d p q t (refuses c vs) h = refl

  same_grown : (k d : ℕ) (p q : Taking) → ((p q : Taking) → p.free ≡ q.free → free_told (taking_up R s k (d + 1) p) ≡ free_told (taking_up R s k (d + 1) q))
      → p.free ≡ q.free → (g : Told Tree) → free_told (if_grown R d g (next k d p)) ≡ free_told (if_grown R d g (next k d q))
  same_grown k d p q ih e (gives t) =
      ap (λ (m : ℕ). free_told (if_placed R s d (place_of (entries_at R s d) 1 m t) (taking_up R s k (d + 1) (taking_all R s d p (order t))))) e
      ∙ same_placed k d p q t (place_of (entries_at R s d) 1 q.free t)
      (ih (taking_all R s d p (order t)) (taking_all R s d q (order t)) (free_taken R s d t p ∙ ap (λ (m : ℕ). free_of (entries_at R s d) 1 m t) e ∙ sym (free_taken R s d t q)))
  same_grown k d p q ih e (refuses c vs) = refl

  pub same_free : (k d : ℕ) (p q : Taking) → p.free ≡ q.free → free_told (taking_up R s k d p) ≡ free_told (taking_up R s k d q)
  unfolding taking_up
  same_free zero d p q e = ap gives e
  same_free (suc k) d p q e = same_grown k d p q (same_free k (d + 1)) e (tree_in (share_of R d) (table_in s))

  then_free : (k d : ℕ) (x : Told Taking) → free_told (and_then x (taking_up R s k d)) ≡ and_then (free_told x) (λ f. free_told (taking_up R s k d (taking [] [] f)))
  then_free k d (gives p) = same_free k d p (taking [] [] p.free) refl
  then_free k d (refuses c vs) = refl

  pub split_free : (k d : ℕ) (p : Taking) → free_told (taking_up R s (suc k) d p) ≡ and_then (free_told (taking_up R s 1 d p)) (λ f. free_told (taking_up R s k (d + 1) (taking [] [] f)))
  split_free k d p = ap free_told (split k d p) ∙ then_free k (d + 1) (taking_up R s 1 d p)

  -- nothing is left
  pub none_left : (d : ℕ) (p : Taking) → taking_up R s 0 d p ≡ gives p
  unfolding taking_up
  none_left d p = refl

  -- ---- 7 and 8

  placed_by : (d : ℕ) (p : Taking) (t : Tree) (over : Bool) (z : ℕ)
      → free_told (if_placed R s d (pick over (refuses 8 []) (gives (record { size = z; free = free_of (entries_at R s d) 1 p.free t }))) (gives (taking_all R s d p (order t))))
      ≡ at d (pick over (refuses 8 []) (gives (free_of (entries_at R s d) 1 p.free t)))
  placed_by d p t true z = refl
  placed_by d p t false z = ap gives (free_taken R s d t p)

  module _ (d : ℕ) (p : Taking) {t : Tree} (told : tree_in (share_of R d) (table_in s) ≡ gives t) where
    far_by_size : any_far (items (entries_at R s d) 1 0 p.free t) ≡ ltb 262144 (size_of (entries_at R s d) t)
    far_by_size = far_is (entries_at R s d) 1 t p.free (all_fit (share_of R d) (table_in s) told)

    place_by_size : place_of (entries_at R s d) 1 p.free t
        ≡ pick (ltb 262144 (size_of (entries_at R s d) t)) (refuses 7 []) (pick (ltb 4294967295 (free_of (entries_at R s d) 1 p.free t)) (refuses 8 [])
        (gives (record { size = size_of (entries_at R s d) t; free = free_of (entries_at R s d) 1 p.free t })))
    unfolding place_of
    place_by_size = ap (λ (b : Bool). pick b (refuses 7 [])
        (pick (ltb 4294967295 (free_of (entries_at R s d) 1 p.free t)) (refuses 8 [])
        (gives (record { size = size_of (entries_at R s d) t; free = free_of (entries_at R s d) 1 p.free t })))) far_by_size

    one_by_size : (b : Bool) → ltb 262144 (size_of (entries_at R s d) t) ≡ b → taking_up R s 1 d p
        ≡ if_placed R s d (pick b (refuses 7 []) (pick (ltb 4294967295 (free_of (entries_at R s d) 1 p.free t)) (refuses 8 [])
        (gives (record { size = size_of (entries_at R s d) t; free = free_of (entries_at R s d) 1 p.free t })))) (gives (taking_all R s d p (order t)))
    one_by_size b e =
        one_is d p told
        ∙ ap (λ (u : Told Placing). if_placed R s d u (gives (taking_all R s d p (order t))))
        (place_by_size ∙ ap (λ (v : Bool). pick v (refuses 7 [])
        (pick (ltb 4294967295 (free_of (entries_at R s d) 1 p.free t)) (refuses 8 [])
        (gives (record { size = size_of (entries_at R s d) t; free = free_of (entries_at R s d) 1 p.free t })))) e)

    pub far_step : 262144 < size_of (entries_at R s d) t → free_told (taking_up R s 1 d p) ≡ refuses 7 (d ∷ [])
    far_step h = ap free_told (one_by_size true (lt-ltb _ _ h))

    pub near_step : size_of (entries_at R s d) t ≤ 262144 → free_told (taking_up R s 1 d p) ≡ at d (limited (free_of (entries_at R s d) 1 p.free t))
    near_step h = ap free_told (one_by_size false (le-ltb _ _ h)) ∙ placed_by d p t (ltb 4294967295 (free_of (entries_at R s d) 1 p.free t)) (size_of (entries_at R s d) t)

    given_by : (far over : Bool) (z : Placing) (q : Taking) → ltb 4294967295 (free_of (entries_at R s d) 1 p.free t) ≡ over
        → if_placed R s d (pick far (refuses 7 []) (pick over (refuses 8 []) (gives z))) (gives (taking_all R s d p (order t))) ≡ gives q
        → (taking_all R s d p (order t) ≡ q) × (free_of (entries_at R s d) 1 p.free t ≤ 4294967295)
    given_by true over x q h e = let y : ◌≡◌ {A = ℕ} 0 1 = cc in absurd (omega arith)
    given_by false true x q h e = let y : ◌≡◌ {A = ℕ} 0 1 = cc in absurd (omega arith)
    given_by false false x q h e = (cc, ltb-false _ _ h)

    -- a directory whose entries have taken theirs
    pub given_step : (q : Taking) → taking_up R s 1 d p ≡ gives q → (taking_all R s d p (order t) ≡ q) × (free_of (entries_at R s d) 1 p.free t ≤ 4294967295)
    given_step q e =
        given_by (ltb 262144 (size_of (entries_at R s d) t)) (ltb 4294967295 (free_of (entries_at R s d) 1 p.free t)) _ q refl
        (sym (one_by_size (ltb 262144 (size_of (entries_at R s d) t)) refl) ∙ e)
