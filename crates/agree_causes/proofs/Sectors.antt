-- THE SECTORS OF A TABLE'S ENTRIES: the next free one after those of a grown tree is the first and what the entries take together. Assumes nothing.
use Prim.Native.Nat.{ℕ, zero, suc, ◌+◌}
use native.Mathlib.Omega.{arith}
use mathlib.Core.Path.{◌≡◌, refl, ap, ◌∙◌}
use mathlib.Core.Bool.{Bool, true, false}
use mathlib.Core.List.{List}
use Rattle.layout_sector.specs.Counter.{sectors_for}
use Rattle.avl_model.specs.Tree.{Tree, leaf, node, bal, ins, ins_by}
use Rattle.avl_model.proofs.Bal.{bal_ind}
use Rattle.table_model.specs.Entry.{Entry}
use Rattle.table_model.specs.Place.{free_of}
use Rattle.table_model.specs.Said.{sectors_in}
use Rattle.table_model.proofs.Places.{free_sum}
use Rattle.agree.specs.Given.{grown}
use Rattle.agree_causes.specs.Lists.{sectors_of}

module _ (name : ℕ → List ℕ) (entry : ℕ → Entry) where
  abbrev own : ℕ → ℕ
  own i = sectors_for (entry i).size

  at_node : (l : Tree) (i : ℕ) (r : Tree) → sectors_in entry (node l i r) ≡ own i + (sectors_in entry l + sectors_in entry r)
  unfolding sectors_in
  at_node l i r = refl

  at_leaf : sectors_in entry leaf ≡ 0
  unfolding sectors_in
  at_leaf = refl

  -- a rotation keeps them
  bal_sum : (l : Tree) (i : ℕ) (r : Tree) → sectors_in entry (bal l i r) ≡ own i + (sectors_in entry l + sectors_in entry r)
  unfolding sectors_in
  bal_sum l i r = bal_ind (λ s. sectors_in entry s ≡ own i + (sectors_in entry l + sectors_in entry r)) l i r (λ p q. refl) (
    (λ x b y e h. (λ q. rw e (omega arith), λ u c v f q. rw e (rw f (omega arith)))),
    (λ y b z e h. (λ q. rw e (omega arith), λ u c v f q. rw e (rw f (omega arith)))),
  )

  ins_sum : (less : ℕ → Bool) (new : ℕ) (t : Tree) → sectors_in entry (ins less new t) ≡ sectors_in entry t + own new
  ins_sum less new leaf = omega (arith, at_node leaf new leaf, at_leaf)
  ins_sum less new (node l i r) = elim (less i) as (λ b. sectors_in entry (ins_by b l (ins less new l) i r (ins less new r)) ≡ sectors_in entry (node l i r) + own new) [
    | true ↦ omega (arith, at_node l i r, bal_sum (ins less new l) i r, ins_sum less new l)
    | false ↦ omega (arith, at_node l i r, bal_sum l i (ins less new r), ins_sum less new r)
  ]

  grown_sum : (n : ℕ) → sectors_in entry (grown name n) ≡ sectors_of entry n
  unfolding grown sectors_of
  grown_sum zero = at_leaf
  grown_sum (suc n) = ins_sum _ n (grown name n) ∙ ap (λ (m : ℕ). m + own n) (grown_sum n)

  pub free_is : (s n : ℕ) → free_of entry 1 s (grown name n) ≡ s + sectors_of entry n
  free_is s n = free_sum entry (grown name n) s ∙ ap (λ (m : ℕ). s + m) (grown_sum n)
