-- ALONG THE PREORDER OF A TREE the places are the table's.
--     ends_are         the end, or 7: as the table's items say
--     free_are         the next free sector, or 8: as the table says
--     places_are       the column then holds the offset over 4 of each entry
-- Assumes nothing.
use Prim.Native.Nat.{ℕ, ◌+◌, ◌/◌, ◌≤◌, ◌<◌}
use mathlib.Core.Path.{◌≡◌, refl, sym, ap, subst, ◌∙◌}
use mathlib.Core.Bool.{Bool, true, false}
use mathlib.Core.List.{List, [], ◌∷◌, ◌++◌, append_assoc, append-nil}
use native.Mathlib.Omega.{arith}
use lib.Dec.{ltb}
use lib.ListN.{length, get_or, set, length-set}
use lib.Seq.{get_or-set_same, get_or-set_other}
use borrow.Author.Tests.{lt-ltb, le-ltb, ltb-true, ltb-false}
use Rattle.units.specs.Told.{Told, gives, refuses, pick}
use Rattle.layout_node.specs.Header.{entry_length}
use Rattle.layout_sector.specs.Counter.{sectors_for, aligned_up}
use Rattle.avl_model.specs.Tree.{Tree, leaf, node, δ, cnt}
use Rattle.avl_model.specs.Laws.{All}
use Rattle.avl_model.specs.Order.{order}
use Rattle.avl_model.proofs.Frame.{δ-same}
use Rattle.table_model.specs.Entry.{Entry, length_of}
use Rattle.table_model.specs.Place.{start_after, start_of, stop_of, end_of, free_after, free_of, items}
use Rattle.table_model.specs.Table.{any_far}
use Rattle.table_model.proofs.Places.{free_after_lem}
use Rattle.table_model.proofs.Far.{far_append}
use Rattle.dirtab_place.specs.inner.Places.{start_in, stop_in, is_far, ends_over, places_over, size_in, free_over}

three : {A : Type 0} (a b d : Bool) (x y : A) → pick a x (pick b x (pick d x y)) ≡ pick (pick a true (pick b true d)) x y
three true b d x y = refl
three false true d x y = refl
three false false d x y = refl

false_all : (a b d : Bool) → pick a true (pick b true d) ≡ false → (a ≡ false) × (b ≡ false) × (d ≡ false)
false_all true b d e = let z : ◌≡◌ {A = ℕ} 0 1 = cc in absurd (omega arith)
false_all false true d e = let z : ◌≡◌ {A = ℕ} 0 1 = cc in absurd (omega arith)
false_all false false d e = (refl, refl, e)

-- a limit that is met on the way to s₃ is met at s₃
limit_last : (b : Bool) (s₂ s₃ : ℕ) (y z : Told ℕ) → ltb 4294967295 s₂ ≡ b → s₂ ≤ s₃ → (s₂ ≤ 4294967295 → y ≡ pick (ltb 4294967295 s₃) (refuses 8 []) z)
    → pick b (refuses 8 []) y ≡ pick (ltb 4294967295 s₃) (refuses 8 []) z
limit_last true s₂ s₃ y z q g k = let h : 4294967295 < s₂ = ltb-true _ _ q in sym (rw (lt-ltb 4294967295 s₃ (omega arith)))
limit_last false s₂ s₃ y z q g k = k (ltb-false _ _ q)

limit_on : (s₁ s₂ s₃ : ℕ) (x y z : Told ℕ) → s₁ ≤ s₂ → s₂ ≤ s₃ → (s₁ ≤ 4294967295 → x ≡ pick (ltb 4294967295 s₂) (refuses 8 []) y)
    → (s₂ ≤ 4294967295 → y ≡ pick (ltb 4294967295 s₃) (refuses 8 []) z) → pick (ltb 4294967295 s₁) (refuses 8 []) x ≡ pick (ltb 4294967295 s₃) (refuses 8 []) z
limit_on s₁ s₂ s₃ x y z g₁ g₂ f h =
    limit_last (ltb 4294967295 s₁) s₁ s₃ x z refl (omega arith) (λ k. f k ∙ limit_last (ltb 4294967295 s₂) s₂ s₃ y z refl g₂ h)

-- `entry` says the entries that the columns have
module _ (entry : ℕ → Entry) (len : List ℕ) where
  abbrev pub SameLength : ℕ → Type 0
  SameLength i = length_of (entry i) ≡ entry_length (get_or len i 0)

  -- the end, or 7, of a tree and then of more numbers
  ends_append : (align s : ℕ) (t : Tree) (e : ℕ) (js : List ℕ) → All SameLength t
      → ends_over len e (order t ++ js) ≡ pick (any_far (items entry align e s t)) (refuses 7 []) (ends_over len (end_of entry e t) js)
  unfolding ends_over any_far items end_of
  ends_append align s leaf e js a = refl
  ends_append align s (node l i r) e js a =
      let e₁ : ℕ = stop_of entry e i in
      let s₁ : ℕ = free_after entry align s i in
      let e₂ : ℕ = end_of entry e₁ l in
      let s₂ : ℕ = free_of entry align s₁ l in
      let xs = items entry align e₁ s₁ l in
      let ys = items entry align e₂ s₂ r in
      let rest : ends_over len e₁ ((order l ++ order r) ++ js) ≡ pick (any_far xs) (refuses 7 []) (pick (any_far ys) (refuses 7 []) (ends_over len (end_of entry e₂ r) js)) =
      ap (ends_over len e₁) (append_assoc (order l) (order r) js) ∙ ends_append align s₁ l e₁ (order r ++ js) a.1
      ∙ ap (pick (any_far xs) (refuses 7 [])) (ends_append align s₂ r e₂ js a.2) in
      ap (λ (m : ℕ). pick (ltb 65535 (start_after e m / 4)) (refuses 7 []) (ends_over len (start_after e m + m) ((order l ++ order r) ++ js))) (sym a.0)
      ∙ ap (pick (ltb 65535 (start_of entry e i / 4)) (refuses 7 [])) rest
      ∙ three (ltb 65535 (start_of entry e i / 4)) (any_far xs) (any_far ys) _ _
      ∙ ap (λ (b : Bool). pick (pick (ltb 65535 (start_of entry e i / 4)) true b) (refuses 7 []) (ends_over len (end_of entry e₂ r) js)) (sym (far_append xs ys))

  pub ends_are : (align s : ℕ) (t : Tree) → All SameLength t → ends_over len 0 (order t) ≡ pick (any_far (items entry align 0 s t)) (refuses 7 []) (gives (end_of entry 0 t))
  unfolding ends_over
  ends_are align s t a = ap (ends_over len 0) (sym (append-nil (order t))) ∙ ends_append align s t 0 [] a

  -- the column after a tree is placed
  pub places_in : ℕ → Tree → List ℕ → List ℕ
  places_in e leaf p = p
  places_in e (node l i r) p = places_in (end_of entry (stop_of entry e i) l) r (places_in (stop_of entry e i) l (set p i (start_of entry e i / 4)))

  places_append : (align s : ℕ) (t : Tree) (e : ℕ) (js p : List ℕ) → All SameLength t → any_far (items entry align e s t) ≡ false
      → places_over len e (order t ++ js) p ≡ places_over len (end_of entry e t) js (places_in e t p)
  unfolding places_over any_far items end_of places_in
  places_append align s leaf e js p a f = refl
  places_append align s (node l i r) e js p a f =
      let e₁ : ℕ = stop_of entry e i in
      let s₁ : ℕ = free_after entry align s i in
      let e₂ : ℕ = end_of entry e₁ l in
      let s₂ : ℕ = free_of entry align s₁ l in
      let xs = items entry align e₁ s₁ l in
      let ys = items entry align e₂ s₂ r in
      let p₁ : List ℕ = set p i (start_of entry e i / 4) in
      let near = false_all (ltb 65535 (start_of entry e i / 4)) (any_far xs) (any_far ys) (ap (pick (ltb 65535 (start_of entry e i / 4)) true) (sym (far_append xs ys)) ∙ f) in
      ap (λ (m : ℕ). pick (ltb 65535 (start_after e m / 4)) p (places_over len (start_after e m + m) ((order l ++ order r) ++ js) (set p i (start_after e m / 4)))) (sym a.0)
      ∙ ap (λ (b : Bool). pick b p (places_over len e₁ ((order l ++ order r) ++ js) p₁)) near.0
      ∙ ap (λ (is : List ℕ). places_over len e₁ is p₁) (append_assoc (order l) (order r) js)
      ∙ places_append align s₁ l e₁ (order r ++ js) p₁ a.1 near.1
      ∙ places_append align s₂ r e₂ js (places_in e₁ l p₁) a.2 near.2

  -- a column that has the offset over 4 of each entry of a tree
  abbrev pub Kept : List ℕ → ℕ → Tree → Type 0
  Kept p e leaf = Unit {0}
  Kept p e (node l i r) = (get_or p i 0 ≡ start_of entry e i / 4) × Kept p (stop_of entry e i) l × Kept p (end_of entry (stop_of entry e i) l) r

  in_length : (t : Tree) (e : ℕ) (p : List ℕ) → length (places_in e t p) ≡ length p
  unfolding places_in
  in_length leaf e p = refl
  in_length (node l i r) e p =
      in_length r (end_of entry (stop_of entry e i) l) _ ∙ in_length l (stop_of entry e i) _ ∙ length-set p i (start_of entry e i / 4)

  in_other : (t : Tree) (e : ℕ) (p : List ℕ) (j : ℕ) → cnt j t ≡ 0 → get_or (places_in e t p) j 0 ≡ get_or p j 0
  unfolding places_in
  in_other leaf e p j h = refl
  in_other (node l i r) e p j h =
      in_other r (end_of entry (stop_of entry e i) l) _ j (omega arith) ∙ in_other l (stop_of entry e i) _ j (omega arith)
      ∙ get_or-set_other p i j (start_of entry e i / 4) 0 (λ q. let d : δ i j ≡ 1 = subst (λ (v : ℕ). δ i v ≡ 1) (sym q) (δ-same i) in omega arith)

  kept_same : (t : Tree) (e : ℕ) (p q : List ℕ) → ((j : ℕ) → 1 ≤ cnt j t → get_or q j 0 ≡ get_or p j 0) → Kept p e t → Kept q e t
  kept_same leaf e p q h k = tt
  kept_same (node l i r) e p q h k = (
    h i (omega (arith, δ-same i)) ∙ k.0,
    kept_same l (stop_of entry e i) p q (λ j m. h j (omega arith)) k.1,
    kept_same r (end_of entry (stop_of entry e i) l) p q (λ j m. h j (omega arith)) k.2,
  )

  kept_in : (t : Tree) (e : ℕ) (p : List ℕ) → ((j : ℕ) → cnt j t ≤ 1) → All (λ i. i < length p) t → Kept (places_in e t p) e t
  unfolding places_in
  kept_in leaf e p d f = tt
  kept_in (node l i r) e p d f =
      let e₁ : ℕ = stop_of entry e i in
      let e₂ : ℕ = end_of entry e₁ l in
      let p₁ : List ℕ = set p i (start_of entry e i / 4) in
      let p₂ : List ℕ = places_in e₁ l p₁ in
      let n₁ : length p₁ ≡ length p = length-set p i (start_of entry e i / 4) in
      let n₂ : length p₂ ≡ length p = in_length l e₁ p₁ ∙ n₁ in (
        in_other r e₂ p₂ i (omega (arith, d i, δ-same i)) ∙ in_other l e₁ p₁ i (omega (arith, d i, δ-same i)) ∙ get_or-set_same p i (start_of entry e i / 4) 0 f.0,
        kept_same l e₁ p₂ (places_in e₂ r p₂) (λ j m. in_other r e₂ p₂ j (omega (arith, d j)))
            (kept_in l e₁ p₁ (λ j. omega (arith, d j)) (subst (λ (n : ℕ). All (λ i. i < n) l) (sym n₁) f.1)),
        kept_in r e₂ p₂ (λ j. omega (arith, d j)) (subst (λ (n : ℕ). All (λ i. i < n) r) (sym n₂) f.2),
      )

  pub places_are : (align s : ℕ) (t : Tree) (p : List ℕ) → All SameLength t → ((j : ℕ) → cnt j t ≤ 1) → All (λ i. i < length p) t
      → any_far (items entry align 0 s t) ≡ false → Kept (places_over len 0 (order t) p) 0 t
  unfolding places_over
  places_are align s t p a d f h =
      let e : places_over len 0 (order t) p ≡ places_in 0 t p = ap (λ (is : List ℕ). places_over len 0 is p) (sym (append-nil (order t))) ∙ places_append align s t 0 [] p a h in
      subst (λ (q : List ℕ). Kept q 0 t) (sym e) (kept_in t 0 p d f)

-- placing keeps the column's length
pub places_length : (len : List ℕ) (e : ℕ) (is p : List ℕ) → length (places_over len e is p) ≡ length p
unfolding places_over
places_length len e [] p = refl
places_length len e (i ∷ is) p = go (is_far len e i) (places_length len (stop_in len e i) is (set p i (start_in len e i / 4)))
  where
    go : (b : Bool) → length (places_over len (stop_in len e i) is (set p i (start_in len e i / 4))) ≡ length (set p i (start_in len e i / 4))
        → length (pick b p (places_over len (stop_in len e i) is (set p i (start_in len e i / 4)))) ≡ length p
    go true q = refl
    go false q = q ∙ length-set p i (start_in len e i / 4)

-- the next free sector
module _ (entry : ℕ → Entry) (size kind : List ℕ) where
  abbrev pub SameSize : ℕ → Type 0
  SameSize i = (entry i).size ≡ size_in size kind i

  abbrev limited : ℕ → Told ℕ → Told ℕ
  limited f x = pick (ltb 4294967295 f) (refuses 8 []) x

  free_append : (t : Tree) (s : ℕ) (js : List ℕ) → All SameSize t → s ≤ 4294967295
      → free_over size kind s (order t ++ js) ≡ limited (free_of entry 1 s t) (free_over size kind (free_of entry 1 s t) js)
  unfolding free_over free_of
  free_append leaf s js a h = rw (le-ltb _ _ h)
  free_append (node l i r) s js a h =
      let s₁ : ℕ = free_after entry 1 s i in
      let s₂ : ℕ = free_of entry 1 s₁ l in
      let s₃ : ℕ = free_of entry 1 s₂ r in
      let g₁ : s₁ ≤ s₂ = free_after_lem entry 1 (omega arith) l s₁ in
      let g₂ : s₂ ≤ s₃ = free_after_lem entry 1 (omega arith) r s₂ in
      ap (λ (m : ℕ). limited (aligned_up 1 s + sectors_for m) (free_over size kind (aligned_up 1 s + sectors_for m) ((order l ++ order r) ++ js))) (sym a.0)
      ∙ ap (λ (is : List ℕ). limited s₁ (free_over size kind s₁ is)) (append_assoc (order l) (order r) js)
      ∙ limit_on s₁ s₂ s₃ _ _ _ g₁ g₂ (free_append l s₁ (order r ++ js) a.1) (free_append r s₂ js a.2)

  pub free_are : (t : Tree) (s : ℕ) → All SameSize t → s ≤ 4294967295
      → free_over size kind s (order t) ≡ pick (ltb 4294967295 (free_of entry 1 s t)) (refuses 8 []) (gives (free_of entry 1 s t))
  unfolding free_over
  free_are t s a h = ap (free_over size kind s) (sym (append-nil (order t))) ∙ free_append t s [] a h
