-- What entries take along a list of numbers: which places of the columns change, and to what. Assumes nothing.
use Prim.Native.Nat.{ℕ, ◌+◌, ◌≤◌, ◌<◌}
use native.Mathlib.Omega.{arith}
use native.Mathlib.Decide.{ℕ_discrete}
use mathlib.Core.Path.{◌≡◌, refl, sym, ap, ap₂, subst, ◌∙◌}
use mathlib.Core.Bool.{Bool, true, false}
use mathlib.Core.List.{List, [], ◌∷◌, ◌++◌, map, map-append}
use lib.ListN.{length, get_or, set, length-set}
use lib.Seq.{get_or-set_same, get_or-set_other}
use Rattle.units.specs.Told.{pick}
use Rattle.layout_sector.specs.Counter.{aligned_up}
use Rattle.avl_model.specs.Tree.{Tree, leaf, node, δ}
use Rattle.avl_model.specs.Order.{order}
use Rattle.avl_model.proofs.Frame.{δ-same, δ-apart}
use Rattle.table_model.specs.Entry.{Entry, Item}
use Rattle.table_model.specs.Place.{stop_of, end_of, free_after, free_of, items}
use Rattle.img_model.specs.Shares.{Request, share_of, first_of, is_directory, value_of}
use Rattle.img_model.specs.Plan.{Taking, entries_at, taking, taking_all}
use Rattle.agree.specs.Given.{times}

-- what holds of each number that stands in a list holds along it
pub map_same : {A : Type 0} (f g : ℕ → A) (is : List ℕ) → ((i : ℕ) → 1 ≤ times i is → f i ≡ g i) → map f is ≡ map g is
map_same f g [] h = refl
map_same f g (i ∷ is) h = ap₂ ◌∷◌ (h i (omega (arith, δ-same i))) (map_same f g is (λ j k. h j (omega arith)))

-- the sectors that entries take along a list, from s on
module _ (entry : ℕ → Entry) where
  unfoldable pub along : ℕ → List ℕ → List ℕ
  along s [] = []
  along s (i ∷ is) = aligned_up 1 s ∷ along (free_after entry 1 s i) is

  -- where they end
  unfoldable past : ℕ → List ℕ → ℕ
  past s [] = s
  past s (i ∷ is) = past (free_after entry 1 s i) is

  along_append : (s : ℕ) (is js : List ℕ) → along s (is ++ js) ≡ along s is ++ along (past s is) js
  unfolding along past
  along_append s [] js = refl
  along_append s (i ∷ is) js = ap (λ (z : List ℕ). aligned_up 1 s ∷ z) (along_append (free_after entry 1 s i) is js)

  past_append : (s : ℕ) (is js : List ℕ) → past s (is ++ js) ≡ past (past s is) js
  unfolding past
  past_append s [] js = refl
  past_append s (i ∷ is) js = past_append (free_after entry 1 s i) is js

  past_free : (t : Tree) (s : ℕ) → past s (order t) ≡ free_of entry 1 s t
  unfolding past free_of
  past_free leaf s = refl
  past_free (node l i r) s =
      let s₁ : ℕ = free_after entry 1 s i in
      past_append s₁ (order l) (order r) ∙ ap (λ (m : ℕ). past m (order r)) (past_free l s₁) ∙ past_free r (free_of entry 1 s₁ l)

  -- the items of a table have them in preorder
  pub items-along : (t : Tree) (e s : ℕ) → map (λ (y : Item). y.sector) (items entry 1 e s t) ≡ along s (order t)
  unfolding items along
  items-along leaf e s = refl
  items-along (node l i r) e s =
      let e₁ : ℕ = stop_of entry e i in
      let s₁ : ℕ = free_after entry 1 s i in
      ap (λ (z : List ℕ). aligned_up 1 s ∷ z)
      (map-append (λ (y : Item). y.sector) (items entry 1 e₁ s₁ l) (items entry 1 (end_of entry e₁ l) (free_of entry 1 s₁ l) r)
      ∙ ap₂ ◌++◌ (items-along l e₁ s₁) (items-along r (end_of entry e₁ l) (free_of entry 1 s₁ l))
      ∙ ap (λ (m : ℕ). along s₁ (order l) ++ along m (order r)) (sym (past_free l s₁))
      ∙ sym (along_append s₁ (order l) (order r)))

module _ (R : Request) (s : List ℕ) (d : ℕ) where
  -- an entry's own place
  abbrev at : ℕ → ℕ
  at i = first_of R d + i

  -- the places of others stay
  pub sectors_kept : (p : Taking) (is : List ℕ) (x : ℕ) → ((i : ℕ) → first_of R d + i ≡ x → times i is ≡ 0) → get_or (taking_all R s d p is).sectors x 0 ≡ get_or p.sectors x 0
  unfolding taking_all
  sectors_kept p [] x h = refl
  sectors_kept p (i ∷ is) x h =
      sectors_kept (taking R s d p i) is x (λ j e. omega (arith, h j e))
      ∙ get_or-set_other p.sectors (at i) x (aligned_up 1 p.free) 0 (λ e. omega (arith, h i (sym e), δ-same i))

  pub sectors_long : (p : Taking) (is : List ℕ) → length (taking_all R s d p is).sectors ≡ length p.sectors
  unfolding taking_all
  sectors_long p [] = refl
  sectors_long p (i ∷ is) = sectors_long (taking R s d p i) is ∙ length-set p.sectors (at i) (aligned_up 1 p.free)

  -- each has its own, where none stands there twice
  pub sectors_taken : (p : Taking) (is : List ℕ) → ((i : ℕ) → times i is ≤ 1) → ((i : ℕ) → 1 ≤ times i is → first_of R d + i < length p.sectors)
      → map (λ i. get_or (taking_all R s d p is).sectors (first_of R d + i) 0) is ≡ along (entries_at R s d) p.free is
  unfolding taking_all along
  sectors_taken p [] once low = refl
  sectors_taken p (i ∷ is) once low =
      let q : Taking = taking R s d p i in
      let here : δ i i ≡ 1 = δ-same i in
      ap₂ ◌∷◌
      (sectors_kept q is (at i) (λ j e. let same : j ≡ i = omega arith in ap (λ (m : ℕ). times m is) same ∙ omega (arith, once i))
      ∙ get_or-set_same p.sectors (at i) (aligned_up 1 p.free) 0 (low i (omega arith)))
      (sectors_taken q is (λ j. omega (arith, once j)) (λ j h. subst (λ (m : ℕ). at j < m) (sym (length-set p.sectors (at i) (aligned_up 1 p.free))) (low j (omega arith))))

  -- ---- the tables

  pick_other : (b : Bool) (ts : List ℕ) (v a x : ℕ) → (b ≡ true → v ≡ x → ⊥) → get_or (pick b (set ts v a) ts) x 0 ≡ get_or ts x 0
  pick_other true ts v a x h = get_or-set_other ts v x a 0 (λ e. h refl (sym e))
  pick_other false ts v a x h = refl

  pick_long : (b : Bool) (ts : List ℕ) (v a : ℕ) → length (pick b (set ts v a) ts) ≡ length ts
  pick_long true ts v a = length-set ts v a
  pick_long false ts v a = refl

  pub tables_kept : (p : Taking) (is : List ℕ) (x : ℕ) → ((i : ℕ) → is_directory (share_of R d) i ≡ true → value_of (share_of R d) i ≡ x → times i is ≡ 0)
      → get_or (taking_all R s d p is).tables x 0 ≡ get_or p.tables x 0
  unfolding taking_all
  tables_kept p [] x h = refl
  tables_kept p (i ∷ is) x h =
      tables_kept (taking R s d p i) is x (λ j b e. omega (arith, h j b e))
      ∙ pick_other (is_directory (share_of R d) i) p.tables (value_of (share_of R d) i) (aligned_up 1 p.free) x (λ b e. omega (arith, h i b e, δ-same i))

  pub tables_long : (p : Taking) (is : List ℕ) → length (taking_all R s d p is).tables ≡ length p.tables
  unfolding taking_all
  tables_long p [] = refl
  tables_long p (i ∷ is) = tables_long (taking R s d p i) is ∙ pick_long (is_directory (share_of R d) i) p.tables (value_of (share_of R d) i) (aligned_up 1 p.free)

  pick_same : (b : Bool) (ts : List ℕ) (v a : ℕ) → b ≡ true → v < length ts → get_or (pick b (set ts v a) ts) v 0 ≡ a
  pick_same true ts v a e h = get_or-set_same ts v a 0 h
  pick_same false ts v a e h = let z : ◌≡◌ {A = ℕ} 0 1 = cc in absurd (omega arith)

  -- a directory's table has the sector of its entry, where no other names it
  pub tables_taken : (p : Taking) (is : List ℕ) (i : ℕ) → 1 ≤ times i is → ((j : ℕ) → times j is ≤ 1) → is_directory (share_of R d) i ≡ true
      → value_of (share_of R d) i < length p.tables → first_of R d + i < length p.sectors
      → ((j : ℕ) → 1 ≤ times j is → is_directory (share_of R d) j ≡ true → value_of (share_of R d) j ≡ value_of (share_of R d) i → j ≡ i)
      → get_or (taking_all R s d p is).tables (value_of (share_of R d) i) 0 ≡ get_or (taking_all R s d p is).sectors (first_of R d + i) 0
  unfolding taking_all
  tables_taken p [] i h once b lt ls alone = absurd (omega arith)
  tables_taken p (j ∷ is) i h once b lt ls alone =
      let q : Taking = taking R s d p j in
      let a : ℕ = aligned_up 1 p.free in
      elim (ℕ_discrete j i) [
        | yes e ↦
            let none : times i is ≡ 0 = omega (arith, once i, ap (λ (m : ℕ). δ m i) e, δ-same i) in
            tables_kept q is (value_of (share_of R d) i) (λ k bk ek. stays k bk ek none)
            ∙ ap (λ (m : ℕ). get_or (taking R s d p m).tables (value_of (share_of R d) i) 0) e
            ∙ pick_same (is_directory (share_of R d) i) p.tables (value_of (share_of R d) i) a b lt
            ∙ sym (get_or-set_same p.sectors (at i) a 0 ls)
            ∙ ap (λ (m : ℕ). get_or (taking R s d p m).sectors (at i) 0) (sym e)
            ∙ sym (sectors_kept q is (at i) (λ k ek. let same : k ≡ i = omega arith in ap (λ (m : ℕ). times m is) same ∙ none))
        | no e ↦
            tables_taken q is i (omega (arith, δ-apart j i e)) (λ k. omega (arith, once k)) b
            (subst (λ (m : ℕ). value_of (share_of R d) i < m) (sym (pick_long (is_directory (share_of R d) j) p.tables (value_of (share_of R d) j) a)) lt)
            (subst (λ (m : ℕ). at i < m) (sym (length-set p.sectors (at j) a)) ls)
            (λ k hk bk ek. alone k (omega arith) bk ek)
      ]
    where
      stays : (k : ℕ) → is_directory (share_of R d) k ≡ true → value_of (share_of R d) k ≡ value_of (share_of R d) i → times i is ≡ 0 → times k is ≡ 0
      stays k bk ek none = elim (ℕ_discrete (times k is) 0) [
        | yes z ↦ z
        | no z ↦ ap (λ (m : ℕ). times m is) (alone k (omega (arith, z)) bk ek) ∙ none
      ]
