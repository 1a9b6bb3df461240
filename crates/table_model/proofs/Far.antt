-- 7 BY THE SIZE ALONE, for every alignment: an offset over 4 exceeds 65,535 exactly where the reported size exceeds 262,144, since 262,144 is a sector line
-- and no entry crosses it. Assumes nothing.
use Rattle.std.proofs.Common.{ℕ, ◌+◌, ◌/◌, ◌%◌, ◌≤◌, ◌<◌, arith, ◌≡◌, refl, sym, ap, ◌∙◌, Bool, true, false, List, [], ◌∷◌, ◌++◌, ltb, lt-ltb, le-ltb, ltb-true, ltb-false}
use Rattle.units.specs.Told.{pick}
use Rattle.avl_model.specs.Tree.{Tree, leaf, node}
use Rattle.avl_model.specs.Laws.{All}
use Rattle.table_model.specs.Entry.{Entry, Item, length_of}
use Rattle.table_model.specs.Place.{start_of, stop_of, end_of, free_after, free_of, items}
use Rattle.table_model.specs.Table.{any_far, size_of}
use Rattle.table_model.proofs.Places.{FitsAt, start_at, end_after}

-- of items one after another
pub far_append : (xs ys : List Item) → any_far (xs ++ ys) ≡ pick (any_far xs) true (any_far ys)
unfolding any_far
far_append [] ys = refl
far_append (x ∷ xs) ys = go (ltb 65535 (x.offset / 4)) (far_append xs ys)
  where
    go : (b : Bool) → any_far (xs ++ ys) ≡ pick (any_far xs) true (any_far ys) → pick b true (any_far (xs ++ ys)) ≡ pick (pick b true (any_far xs)) true (any_far ys)
    go true e = refl
    go false e = e

-- an entry that starts before the line ends by it
by_line : (o n : ℕ) → o % 2048 + n ≤ 2048 → o < 262144 → o + n ≤ 262144
by_line o n h k = omega arith

-- an entry from o to e₁, then what ends at e₂, then what ends at e₃; x and y say whether some of the first and of the second is far
module _ (o e₁ e₂ e₃ : ℕ) (x y : Bool) (p₁ : o < e₁) (p₂ : e₁ ≤ e₂) (p₃ : e₂ ≤ e₃) (line : o < 262144 → e₁ ≤ 262144)
    (one : e₁ ≤ 262144 → x ≡ ltb 262144 e₂) (two : e₂ ≤ 262144 → y ≡ ltb 262144 e₃) where
  then_two : (b : Bool) → ltb 262144 e₂ ≡ b → pick b true y ≡ ltb 262144 e₃
  then_two true h = let k : 262144 < e₂ = ltb-true _ _ h in sym (lt-ltb 262144 e₃ (omega arith))
  then_two false h = two (ltb-false _ _ h)

  then_one : (b : Bool) → ltb 65535 (o / 4) ≡ b → pick b true (pick x true y) ≡ ltb 262144 e₃
  then_one true h = let k : 65535 < o / 4 = ltb-true _ _ h in sym (lt-ltb 262144 e₃ (omega arith))
  then_one false h =
      let k : o / 4 ≤ 65535 = ltb-false _ _ h in
      ap (λ (b : Bool). pick b true y) (one (line (omega arith))) ∙ then_two (ltb 262144 e₂) refl

module _ (entry : ℕ → Entry) (align : ℕ) where
  far_end : (t : Tree) (e s : ℕ) → All (FitsAt entry) t → e ≤ 262144 → any_far (items entry align e s t) ≡ ltb 262144 (end_of entry e t)
  unfolding any_far items end_of
  far_end leaf e s a h = sym (le-ltb 262144 e h)
  far_end (node l i r) e s a h =
      let e₁ : ℕ = stop_of entry e i in
      let s₁ : ℕ = free_after entry align s i in
      let e₂ : ℕ = end_of entry e₁ l in
      let s₂ : ℕ = free_of entry align s₁ l in
      let at = start_at entry e i a.0 in
      ap (pick (ltb 65535 (start_of entry e i / 4)) true) (far_append (items entry align e₁ s₁ l) (items entry align e₂ s₂ r))
      ∙ then_one (start_of entry e i) e₁ e₂ (end_of entry e₂ r) _ _ (omega arith) (end_after entry l e₁ a.1) (end_after entry r e₂ a.2)
      (by_line (start_of entry e i) (length_of (entry i)) at.within) (far_end l e₁ s₁ a.1) (far_end r e₂ s₂ a.2) (ltb 65535 (start_of entry e i / 4)) refl

  pub far_is : (t : Tree) (s : ℕ) → All (FitsAt entry) t → any_far (items entry align 0 s t) ≡ ltb 262144 (size_of entry t)
  unfolding any_far items
  far_is leaf s a = sym (le-ltb 262144 2048 (omega arith))
  far_is (node l i r) s a = far_end (node l i r) 0 s a (omega arith)
