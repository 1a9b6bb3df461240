-- Growing a tree of entries that differ in name: all of them, or up to the first that is refused by itself. Assumes nothing.
use Prim.Native.Nat.{ℕ, zero, suc, ◌+◌, ◌≤◌, ◌<◌}
use native.Mathlib.Omega.{arith}
use native.Mathlib.Numerals.{add-one}
use native.Mathlib.Decide.{ℕ_discrete}
use mathlib.Core.Path.{◌≡◌, refl, sym, ap, subst, ◌∙◌}
use mathlib.Core.Bool.{Bool}
use mathlib.Core.Logic.{◌⊎◌, inl, inr}
use mathlib.Core.List.{List, [], ◌∷◌}
use lib.Dec.{ltb}
use borrow.Author.Tests.{lt-ltb}
use Rattle.units.specs.Told.{Told, gives, refuses, pick}
use Rattle.std.specs.declared.cmp.Ordering.{Ordering}
use Rattle.name_role.specs.Roles.{given_keys, given_order}
use Rattle.name_role.proofs.Roles.{given_equal→}
use Rattle.avl_model.specs.declared.Place.TheVariants.{Root}
use Rattle.avl_model.specs.declared.Spot.{Spot}
use Rattle.avl_model.specs.declared.Spot.TheVariants as spot
use Rattle.avl_model.specs.Names.{is_less}
use Rattle.avl_model.specs.Seek.{spot_in}
use Rattle.avl_model.specs.Tree.{Tree, leaf, ins}
use Rattle.avl_model.proofs.Counted.{all_at}
use Rattle.avl_model.proofs.Search.{same_found}
use Rattle.dirtab_grow.specs.Grow.{if_taken, if_free, grow_from}
use Rattle.agree.specs.Given.{grown}
use Rattle.agree.proofs.FromList.{grown_below}

-- what growing ends in: the tree of all, or the first that is bad, with the number that it is refused with
pub data Grows (name : ℕ → List ℕ) (n c : ℕ) (Bad : ℕ → Type 0) : Told Tree → Type 0 where
  all : ((j : ℕ) → j < n → Bad j → ⊥) → Grows name n c Bad (gives (grown name n))
  stops : (j : ℕ) → j < n → Bad j → ((l : ℕ) → l < j → Bad l → ⊥) → Grows name n c Bad (refuses c (j ∷ []))

module _ (name : ℕ → List ℕ) (check : ℕ → Told (Unit {0})) (n : ℕ) (few : n ≤ 16384)
    (differ : (i j : ℕ) → i < n → j < n → given_keys (name i) ≡ given_keys (name j) → i ≡ j) where
  abbrev between : ℕ → ℕ → Ordering
  between i j = given_order (name i) (name j)

  abbrev growing : ℕ → ℕ → Tree → Told Tree
  growing k i t = grow_from check between k i t

  -- its name is free
  free_at : (i : ℕ) → i < n → (q : Spot) → spot_in (between i) (grown name i) Root ≡ q → (x : Told Tree) → if_free i q x ≡ x
  free_at i k (spot.Free r) e x = refl
  free_at i k (spot.Same j) e x =
      let f = same_found (between i) (grown name i) Root j e in
      let below : j < i = all_at (λ m. m < i) (grown name i) j (grown_below name i) f.1 in
      absurd (omega (arith, differ i j k (omega arith) (given_equal→ (name i) (name j) f.0)))

  abbrev put : ℕ → Tree
  put i = ins (λ j. is_less (between i j)) i (grown name i)

  put_is : (k i : ℕ) → growing k (i + 1) (put i) ≡ growing k (suc i) (grown name (suc i))
  unfolding grown
  put_is k i = ap (λ (m : ℕ). growing k m (put i)) (add-one i)

  opened : (k i : ℕ) → growing (suc k) i (grown name i)
      ≡ if_taken i (check i) (if_free i (spot_in (between i) (grown name i) Root) (pick (ltb i 16384) (growing k (i + 1) (put i)) (refuses 6 (i ∷ []))))
  unfolding grow_from
  opened k i = refl

  one_more : (k i : ℕ) → i < n → growing (suc k) i (grown name i) ≡ if_taken i (check i) (growing k (suc i) (grown name (suc i)))
  one_more k i h =
      opened k i ∙ ap (if_taken i (check i))
      (free_at i h (spot_in (between i) (grown name i) Root) refl _
      ∙ ap (λ (b : Bool). pick b (growing k (i + 1) (put i)) (refuses 6 (i ∷ []))) (lt-ltb i 16384 (omega arith)) ∙ put_is k i)

  none_left : (i : ℕ) → growing zero i (grown name i) ≡ gives (grown name i)
  unfolding grow_from
  none_left i = refl

  module _ (c : ℕ) (Bad : ℕ → Type 0) (judged : (i : ℕ) → i < n → ((check i ≡ gives tt) × (Bad i → ⊥)) ⊎ ((check i ≡ refuses c []) × Bad i)) where
    more : (k i : ℕ) → i + k ≡ n → ((j : ℕ) → j < i → Bad j → ⊥) → Grows name n c Bad (growing k i (grown name i))
    more zero i e fine =
        let same : i ≡ n = omega arith in
        subst (Grows name n c Bad) (sym (none_left i ∙ ap (λ (m : ℕ). gives (grown name m)) same)) (all (λ j h. fine j (omega arith)))
    more (suc k) i e fine =
        subst (Grows name n c Bad) (sym (one_more k i (omega arith)))
        (go (check i) refl (judged i (omega arith)) (λ f. more k (suc i) (omega arith) f))
      where
        go : (u : Told (Unit {0})) → check i ≡ u → ((check i ≡ gives tt) × (Bad i → ⊥)) ⊎ ((check i ≡ refuses c []) × Bad i)
            → (((j : ℕ) → j < suc i → Bad j → ⊥) → Grows name n c Bad (growing k (suc i) (grown name (suc i))))
            → Grows name n c Bad (if_taken i (check i) (growing k (suc i) (grown name (suc i))))
        go u q (inl a) next =
            subst (λ (v : Told (Unit {0})). Grows name n c Bad (if_taken i v (growing k (suc i) (grown name (suc i))))) (sym a.0)
            (next (λ j h. elim (ℕ_discrete i j) [
              | yes d ↦ subst (λ (m : ℕ). Bad m → ⊥) d a.1
              | no d ↦ fine j (omega arith)
            ]))
        go u q (inr b) next =
            subst (λ (v : Told (Unit {0})). Grows name n c Bad (if_taken i v (growing k (suc i) (grown name (suc i))))) (sym b.0)
            (stops i (omega arith) b.1 fine)

    from_leaf : growing n 0 leaf ≡ growing n 0 (grown name 0)
    unfolding grown
    from_leaf = refl

    -- ALL, OR THE FIRST THAT IS BAD
    pub grows : Grows name n c Bad (grow_from check (λ i j. given_order (name i) (name j)) n 0 leaf)
    grows = subst (Grows name n c Bad) (sym from_leaf) (more n 0 (omega arith) (λ j h. absurd (omega arith)))
