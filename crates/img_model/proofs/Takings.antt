-- The next free sector after the entries of an order have taken theirs. Assumes nothing.
use Prim.Native.Nat.{ℕ}
use mathlib.Core.Path.{◌≡◌, refl, ap, ◌∙◌}
use mathlib.Core.List.{List, [], ◌∷◌, ◌++◌}
use Rattle.avl_model.specs.Tree.{Tree, leaf, node}
use Rattle.avl_model.specs.Order.{order}
use Rattle.table_model.specs.Place.{free_of}
use Rattle.img_model.specs.Shares.{Request}
use Rattle.img_model.specs.Plan.{Taking, entries_at, taking, taking_all}

module _ (R : Request) (s : List ℕ) where
  take_append : (d : ℕ) (p : Taking) (xs ys : List ℕ) → taking_all R s d p (xs ++ ys) ≡ taking_all R s d (taking_all R s d p xs) ys
  unfolding taking_all
  take_append d p [] ys = refl
  take_append d p (x ∷ xs) ys = take_append d (taking R s d p x) xs ys

  -- along a tree's preorder it is the one after the tree's entries
  pub free_taken : (d : ℕ) (t : Tree) (p : Taking) → (taking_all R s d p (order t)).free ≡ free_of (entries_at R s d) 1 p.free t
  unfolding taking_all free_of
  free_taken d leaf p = refl
  free_taken d (node l i r) p =
      let q : Taking = taking R s d p i in
      ap (λ (v : Taking). v.free) (take_append d q (order l) (order r))
      ∙ free_taken d r (taking_all R s d q (order l))
      ∙ ap (λ (m : ℕ). free_of (entries_at R s d) 1 m r) (free_taken d l q)
