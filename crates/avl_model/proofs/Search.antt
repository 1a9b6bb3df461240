-- The search by name: what it finds has the name, and where it finds none no node has it; so insertion keeps the order of names.
use Rattle.std.proofs.Common.{ℕ, ◌+◌, ◌≤◌, arith, ◌≡◌, refl, sym, ap, subst, ◌∙◌, true, false, List}
use Rattle.std.specs.declared.cmp.Ordering.{Ordering}
use Rattle.std.specs.declared.cmp.Ordering.TheVariants.{Less, Equal, Greater}
use Rattle.layout_name.specs.inner.Order.{opposite}
use Rattle.name_role.specs.Roles.{given_order}
use Rattle.name_role.proofs.Roles.{given_opposite, given_trans}
use Rattle.avl_model.specs.declared.Place.{Place}
use Rattle.avl_model.specs.declared.Place.TheVariants.{Left, Right}
use Rattle.avl_model.specs.declared.Spot.{Spot}
use Rattle.avl_model.specs.declared.Spot.TheVariants.{Same, Free}
use Rattle.avl_model.specs.Tree.{Tree, leaf, node, δ, cnt, ins}
use Rattle.avl_model.specs.Laws.{All, Ordered}
use Rattle.avl_model.specs.Names.{Names, name_at, to_name, is_less, Before}
use Rattle.avl_model.specs.Seek.{spot_in, spot_by}
use Rattle.avl_model.proofs.Frame.{δ-same}
use Rattle.avl_model.proofs.Avl.{all_map, ins_ordered, two}
use Rattle.avl_model.proofs.Counted.{all_at}

differ : {o : Ordering} → o ≡ Less → o ≡ Equal → ⊥
differ e f = let z : ◌≡◌ {A = ℕ} 0 1 = cc in omega arith

differ_more : {o : Ordering} → o ≡ Greater → o ≡ Equal → ⊥
differ_more e f = let z : ◌≡◌ {A = ℕ} 0 1 = cc in omega arith

pub before_trans : (N : Names) (i j k : ℕ) → Before N i j → Before N j k → Before N i k
unfolding to_name
before_trans N i j k = given_trans (name_at N i) (name_at N j) (name_at N k)

-- ---- what is found

same_turn : (by : ℕ → Ordering) (o : Ordering) (l : Tree) (i : ℕ) (r : Tree) (j : ℕ) (x y : Spot) → by i ≡ o
    → (x ≡ Same j → (by j ≡ Equal) × (1 ≤ cnt j l)) → (y ≡ Same j → (by j ≡ Equal) × (1 ≤ cnt j r))
    → spot_by o (Same i) x y ≡ Same j → (by j ≡ Equal) × (1 ≤ cnt j l + (δ i j + cnt j r))
same_turn by Less l i r j x y b f g e = ((f e).0, omega (arith, (f e).1))
same_turn by Equal l i r j x y b f g e =
    let q : i ≡ j = cc in
    let d : δ i j ≡ 1 = subst (λ (v : ℕ). δ i v ≡ 1) q (δ-same i) in
    (ap by (sym q) ∙ b, omega arith)
same_turn by Greater l i r j x y b f g e = ((g e).0, omega (arith, (g e).1))

-- the node that is found stands in the tree and has the name
pub same_found : (by : ℕ → Ordering) (t : Tree) (p : Place) (j : ℕ) → spot_in by t p ≡ Same j → (by j ≡ Equal) × (1 ≤ cnt j t)
same_found by leaf p j e = let z : ◌≡◌ {A = ℕ} 0 1 = cc in absurd (omega arith)
same_found by (node l i r) p j e =
    same_turn by (by i) l i r j (spot_in by l (Left i)) (spot_in by r (Right i)) refl (same_found by l (Left i) j) (same_found by r (Right i) j) e

module _ (N : Names) (a : List ℕ) where
  -- what is after a node is after all that is before it
  less_on : (i j : ℕ) → to_name N a i ≡ Less → Before N i j → to_name N a j ≡ Less
  unfolding to_name
  less_on i j e b = given_trans a (name_at N i) (name_at N j) e b

  turned : (i : ℕ) → to_name N a i ≡ Greater → given_order (name_at N i) a ≡ Less
  unfolding to_name
  turned i e = given_opposite a (name_at N i) ∙ ap opposite e

  more_on : (i j : ℕ) → to_name N a i ≡ Greater → Before N j i → to_name N a j ≡ Greater
  unfolding to_name
  more_on i j e b = given_opposite (name_at N j) a ∙ ap opposite (given_trans (name_at N j) (name_at N i) a b (turned i e))

  free_turn : (o : Ordering) (l : Tree) (i : ℕ) (r : Tree) (q : Place) (x y : Spot) → to_name N a i ≡ o → Ordered (Before N) (node l i r)
      → (x ≡ Free q → All (λ j. to_name N a j ≡ Equal → ⊥) l) → (y ≡ Free q → All (λ j. to_name N a j ≡ Equal → ⊥) r)
      → spot_by o (Same i) x y ≡ Free q → All (λ j. to_name N a j ≡ Equal → ⊥) (node l i r)
  free_turn Less l i r q x y b s f g e = (differ b, f e, all_map (λ j. Before N i j) (λ j. to_name N a j ≡ Equal → ⊥) r (λ j h. differ (less_on i j b h)) s.1)
  free_turn Equal l i r q x y b s f g e = let z : ◌≡◌ {A = ℕ} 0 1 = cc in absurd (omega arith)
  free_turn Greater l i r q x y b s f g e = (differ_more b, all_map (λ j. Before N j i) (λ j. to_name N a j ≡ Equal → ⊥) l (λ j h. differ_more (more_on i j b h)) s.0, g e)

  -- where the search in an ordered tree ends at a free place, no node of the tree has the name
  pub free_apart : (t : Tree) (p q : Place) → Ordered (Before N) t → spot_in (to_name N a) t p ≡ Free q → All (λ j. to_name N a j ≡ Equal → ⊥) t
  free_apart leaf p q s e = tt
  free_apart (node l i r) p q s e =
      free_turn (to_name N a i) l i r q (spot_in (to_name N a) l (Left i)) (spot_in (to_name N a) r (Right i)) refl s (free_apart l (Left i) q s.2) (free_apart r (Right i) q s.3) e

  module _ (new : ℕ) (is : name_at N new ≡ a) where
    new_before : (j : ℕ) → to_name N a j ≡ Less → Before N new j
    unfolding to_name
    new_before j e = ap (λ (b : List ℕ). given_order b (name_at N j)) is ∙ e

    new_after : (j : ℕ) → to_name N a j ≡ Greater → Before N j new
    unfolding to_name
    new_after j e = ap (given_order (name_at N j)) is ∙ turned j e

    tells : (j : ℕ) (o : Ordering) → to_name N a j ≡ o → (to_name N a j ≡ Equal → ⊥) → (is_less o ≡ true → Before N new j) × (is_less o ≡ false → Before N j new)
    tells j Less e n = (λ h. new_before j e, λ h. two true refl h)
    tells j Equal e n = absurd (n e)
    tells j Greater e n = (λ h. two false h refl, λ h. new_after j e)

    -- insertion keeps the order of names
    pub ins_names : (t : Tree) (p q : Place) → Ordered (Before N) t → spot_in (to_name N a) t p ≡ Free q → Ordered (Before N) (ins (λ i. is_less (to_name N a i)) new t)
    ins_names t p q s e =
        ins_ordered (Before N) (before_trans N) (λ i. is_less (to_name N a i)) new t
        (all_map (λ j. to_name N a j ≡ Equal → ⊥) (λ j. (is_less (to_name N a j) ≡ true → Before N new j) × (is_less (to_name N a j) ≡ false → Before N j new)) t
        (λ j n. tells j (to_name N a j) refl n) (free_apart t p q s e))
        s

-- a name that a node of an ordered tree has is found
pub equal_found : (N : Names) (a : List ℕ) (t : Tree) (p : Place) (j : ℕ) → Ordered (Before N) t → 1 ≤ cnt j t → to_name N a j ≡ Equal → (k : ℕ) × (spot_in (to_name N a) t p ≡ Same k)
equal_found N a t p j s m e = go (spot_in (to_name N a) t p) refl
  where
    go : (x : Spot) → spot_in (to_name N a) t p ≡ x → (k : ℕ) × (spot_in (to_name N a) t p ≡ Same k)
    go (Same k) q = (k, q)
    go (Free u) q = absurd (all_at (λ i. to_name N a i ≡ Equal → ⊥) t j (free_apart N a t p u s q) m e)
