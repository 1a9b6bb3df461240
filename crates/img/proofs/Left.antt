-- All that was lent, after a plan and after the first 6. Assumes nothing.
use Prim.Native.Nat.{ℕ}
use mathlib.Core.Path.{◌≡◌, sym, ap, ap₂, ◌∙◌}
use mathlib.Core.Bool.{Bool, true, false}
use mathlib.Core.List.{List, []}
use lib.ListN.{length, take, replicate}
use Rattle.units.specs.Lent.{cleared_if}
use Rattle.units.specs.Told.{Told, refuses, pick}
use Rattle.std.specs.Prelude.{Result, Err}
use Rattle.units.specs.declared.Sector.{Sector}
use Rattle.img_model.specs.declared.PlanError.{PlanError}
use Rattle.img_model.specs.declared.PlanError.TheVariants as plan
use Rattle.img_model.specs.Plan.{Plan, told, plan_of}
use Rattle.img_model.specs.Image.{Asked, Lent, lent, has_room, request_in, image_of, answer_of, column_after, lent_after}
use Rattle.img.specs.inner.Steps.{Given, plan_in, PlannedIn}

-- what is left, where it is known whether there is room and what is told
abbrev left_by : Bool → Told Plan → Asked → Lent → Lent
left_by room g A L = record {
  sizes = column_after g (λ p. p.sizes) A.directories L.sizes;
  tables = column_after g (λ p. p.taken.tables) A.directories L.tables;
  sectors = column_after g (λ p. p.taken.sectors) A.entries L.sectors;
  sized = cleared_if room L.sized;
  left = cleared_if room L.left;
  right = cleared_if room L.right;
  parent = cleared_if room L.parent;
  height = cleared_if room L.height;
  key = cleared_if room L.key;
  size = cleared_if room L.size;
  order = cleared_if room L.order;
}

left_by_lem : (A : Asked) (L : Lent) (room : Bool) (g : Told Plan) → has_room A L ≡ room → image_of A L ≡ g → lent_after A L ≡ left_by room g A L
unfolding lent_after
left_by_lem A L room g e q = ap₂ (λ (b : Bool) (u : Told Plan). left_by b u A L) e q

-- ---- no room

image_none : (A : Asked) (L : Lent) → has_room A L ≡ false → image_of A L ≡ refuses 6 []
unfolding image_of
image_none A L e = ap (λ (b : Bool). pick b (plan_of (request_in A) (length L.order) (take A.directories L.tables) (take A.entries L.sectors)) (refuses 6 [])) e

module _ (A : Asked) (L : Lent) (b : Bool) (is : b ≡ has_room A L) (no : b ≡ false) where
  none : has_room A L ≡ false
  none = sym is ∙ no

  pub answer_none : told (Err plan.Room) ≡ answer_of (image_of A L)
  answer_none = ap answer_of (sym (image_none A L none))

  pub left_none : L ≡ lent_after A L
  left_none = sym (left_by_lem A L false (refuses 6 []) none (image_none A L none))

-- ---- room

image_some : (A : Asked) (L : Lent) → has_room A L ≡ true → image_of A L ≡ plan_in A L
unfolding image_of plan_in
image_some A L e = ap (λ (b : Bool). pick b (plan_of (request_in A) (length L.order) (take A.directories L.tables) (take A.entries L.sectors)) (refuses 6 [])) e

-- columns that are equal one by one
lent_equal : {a b c d e f g h i j k a' b' c' d' e' f' g' h' i' j' k' : List ℕ} → a ≡ a' → b ≡ b' → c ≡ c' → d ≡ d' → e ≡ e' → f ≡ f' → g ≡ g' → h ≡ h' → i ≡ i' → j ≡ j' → k ≡ k' →
    lent a b c d e f g h i j k ≡ lent a' b' c' d' e' f' g' h' i' j' k'
lent_equal {b = b} {c = c} {d = d} {e = e} {f = f} {g = g} {h = h} {i = i} {j = j} {k = k} {a' = a'} {b' = b'} {c' = c'} {d' = d'} {e' = e'} {f' = f'} {g' = g'} {h' = h'} {i' = i'} {j' = j'} p q r s t u v w x y z =
    ap (λ (n : List ℕ). lent n b c d e f g h i j k) p ∙
    ap (λ (n : List ℕ). lent a' n c d e f g h i j k) q ∙
    ap (λ (n : List ℕ). lent a' b' n d e f g h i j k) r ∙
    ap (λ (n : List ℕ). lent a' b' c' n e f g h i j k) s ∙
    ap (λ (n : List ℕ). lent a' b' c' d' n f g h i j k) t ∙
    ap (λ (n : List ℕ). lent a' b' c' d' e' n g h i j k) u ∙
    ap (λ (n : List ℕ). lent a' b' c' d' e' f' n h i j k) v ∙
    ap (λ (n : List ℕ). lent a' b' c' d' e' f' g' n i j k) w ∙
    ap (λ (n : List ℕ). lent a' b' c' d' e' f' g' h' n j k) x ∙
    ap (λ (n : List ℕ). lent a' b' c' d' e' f' g' h' i' n k) y ∙
    ap (λ (n : List ℕ). lent a' b' c' d' e' f' g' h' i' j' n) z

module _ (A : Asked) (L : Lent) (b : Bool) (is : b ≡ has_room A L) (yes : b ≡ true) (r : Result Sector PlanError) (new : Given) (done : PlannedIn r A L new) where
  some : has_room A L ≡ true
  some = sym is ∙ yes

  pub answer_some : told r ≡ answer_of (image_of A L)
  answer_some = done.answer ∙ ap answer_of (sym (image_some A L some))

  pub left_some : (sized left right parent height key size order : List ℕ) → sized ≡ replicate (length L.sized) 0 → left ≡ replicate (length L.left) 0 →
      right ≡ replicate (length L.right) 0 → parent ≡ replicate (length L.parent) 0 → height ≡ replicate (length L.height) 0 → key ≡ replicate (length L.key) 0 →
      size ≡ replicate (length L.size) 0 → order ≡ replicate (length L.order) 0 → lent new.sizes new.tables new.sectors sized left right parent height key size order ≡ lent_after A L
  left_some sized left right parent height key size order d e f g h i j k =
      lent_equal done.sizes_are done.tables_are done.sectors_are d e f g h i j k ∙
      sym (left_by_lem A L true (plan_in A L) some (image_some A L some))

-- a column that was cleared when it was as long as another
pub cleared : {x : List ℕ} (y z : List ℕ) → x ≡ replicate (length y) 0 → length y ≡ length z → x ≡ replicate (length z) 0
cleared y z e l = e ∙ ap (λ (n : ℕ). replicate n 0) l
