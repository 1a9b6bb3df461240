-- THE LINKS OF A TABLE: none is 65,535, and one to offset 262,128 is 65,532, in the bytes too. Assumes nothing.
use Prim.Native.Nat.{ℕ, ◌/◌, ◌%◌}
use native.Mathlib.Omega.{arith}
use mathlib.Core.Path.{◌≡◌, ap}
use mathlib.Core.List.{[], ◌∷◌}
use lib.ListN.{take, drop}
use Rattle.layout_node.specs.Header.{header_bytes}
use Rattle.avl_model.specs.Tree.{Tree, leaf, node}
use Rattle.avl_model.specs.Laws.{All}
use Rattle.table_model.specs.Entry.{Entry, Item, entry_bytes}
use Rattle.table_model.specs.Place.{stop_of, end_of, free_after, free_of, link_to, item_of, items}
use Rattle.table_model.specs.Said.{AllIn}
use Rattle.table_model.proofs.Places.{FitsAt, stop_four, end_four}
use Rattle.table_model.proofs.Geometry.{all_append, items_stand, never_65535}

module _ (entry : ℕ → Entry) (align : ℕ) where
  never_to : (t : Tree) (e s : ℕ) → All (FitsAt entry) t → e % 4 ≡ 0 → link_to entry e t ≡ 65535 → ⊥
  unfolding items
  never_to leaf e s f h q = omega arith
  never_to (node l i r) e s f h q = never_65535 e (end_of entry e (node l i r)) (item_of entry align e s l i r) (items_stand entry align (node l i r) e s f h).0 q

  -- no item's links are 65,535
  pub never_linked : (t : Tree) (e s : ℕ) → All (FitsAt entry) t → e % 4 ≡ 0 → AllIn (λ y. (y.left ≡ 65535 → ⊥) × (y.right ≡ 65535 → ⊥)) (items entry align e s t)
  unfolding items
  never_linked leaf e s f h = tt
  never_linked (node l i r) e s f h =
      let e₁ : ℕ = stop_of entry e i in
      let s₁ : ℕ = free_after entry align s i in
      let e₂ : ℕ = end_of entry e₁ l in
      let s₂ : ℕ = free_of entry align s₁ l in
      let h₁ = stop_four entry e i f.0 h in
      let h₂ = end_four entry l e₁ f.1 h₁ in (
        (never_to l e₁ s₁ f.1 h₁, never_to r e₂ s₂ f.2 h₂),
        all_append _ (items entry align e₁ s₁ l) (items entry align e₂ s₂ r) (never_linked l e₁ s₁ f.1 h₁) (never_linked r e₂ s₂ f.2 h₂),
      )

-- the two bytes of a link of 65,532
pub left_bytes : (y : Item) → y.left ≡ 65532 → take 2 (entry_bytes y) ≡ 0xfc ∷ 0xff ∷ []
unfolding entry_bytes header_bytes
left_bytes y e = ap (λ (n : ℕ). n % 256 ∷ n / 256 % 256 ∷ []) e

pub right_bytes : (y : Item) → y.right ≡ 65532 → take 2 (drop 2 (entry_bytes y)) ≡ 0xfc ∷ 0xff ∷ []
unfolding entry_bytes header_bytes
right_bytes y e = ap (λ (n : ℕ). n % 256 ∷ n / 256 % 256 ∷ []) e
