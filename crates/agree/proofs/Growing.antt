-- WHAT GROWING GIVES, where names stand in lent bytes: the tree of all entries, put in one after the other, ordered by name; and it gives it where each
-- entry passes its check, no two names are equal and there are not too many. Assumes nothing.
use Prim.Native.Nat.{ℕ, zero, suc, ◌+◌, ◌≤◌, ◌<◌}
use native.Mathlib.Omega.{arith}
use native.Mathlib.Numerals.{add-one}
use mathlib.Core.Path.{◌≡◌, refl, sym, ap, subst, ◌∙◌}
use mathlib.Core.Bool.{Bool, true, false}
use mathlib.Core.List.{[], ◌∷◌}
use lib.Dec.{ltb}
use borrow.Author.Tests.{lt-ltb}
use Rattle.units.specs.Told.{Told, gives, refuses, pick}
use Rattle.std.specs.declared.cmp.Ordering.{Ordering}
use Rattle.std.specs.declared.cmp.Ordering.TheVariants.{Equal}
use Rattle.name_role.specs.Roles.{given_order}
use Rattle.name_role.proofs.Storable.{is_storable}
use Rattle.dirtab_entry.specs.declared.Kind.{Kind}
use Rattle.avl_model.specs.declared.Place.{Place}
use Rattle.avl_model.specs.declared.Place.TheVariants.{Root}
use Rattle.avl_model.specs.declared.Spot.{Spot}
use Rattle.avl_model.specs.declared.Spot.TheVariants.{Same, Free}
use Rattle.avl_model.specs.Tree.{Tree, leaf, ins}
use Rattle.avl_model.specs.Laws.{Ordered}
use Rattle.avl_model.specs.Names.{Names, name_at, to_name, is_less}
use Rattle.avl_model.specs.Seek.{spot_in}
use Rattle.avl_model.proofs.Avl.{all_map}
use Rattle.avl_model.proofs.Counted.{all_at}
use Rattle.avl_model.proofs.Search.{same_found, ins_names}
use Rattle.table_model.specs.Entry.{entry_with}
use Rattle.dirtab_grow.specs.Grow.{if_taken, if_free, grow_from}
use Rattle.dirtab_grow.proofs.Growth.{all_passed}
use Rattle.agree.specs.Written.{Before}
use Rattle.agree.specs.Given.{grown}
use Rattle.agree.proofs.FromList.{Earlier, stored_ordered, grown_below}

-- one entry that is grown: its name is free, and what follows gives
took : (i : ℕ) (c : Told (Unit {0})) (q : Spot) (b : Bool) (x : Told Tree) (u : Tree) → if_taken i c (if_free i q (pick b x (refuses 6 (i ∷ [])))) ≡ gives u
    → ((r : Place) × (q ≡ Free r)) × (x ≡ gives u)
took i (gives v) (Free r) true x u e = ((r, refl), e)
took i (gives v) (Free r) false x u e = let z : ◌≡◌ {A = ℕ} 0 1 = cc in absurd (omega arith)
took i (gives v) (Same j) b x u e = let z : ◌≡◌ {A = ℕ} 0 1 = cc in absurd (omega arith)
took i (refuses k vs) q b x u e = let z : ◌≡◌ {A = ℕ} 0 1 = cc in absurd (omega arith)

-- names, and what is asked of each entry by itself
module _ (N : Names) (check : ℕ → Told (Unit {0})) where
  abbrev T : ℕ → Tree
  T n = grown (name_at N) n

  abbrev between : ℕ → ℕ → Ordering
  between i j = given_order (name_at N i) (name_at N j)

  abbrev spot : ℕ → Spot
  spot i = spot_in (between i) (T i) Root

  abbrev growing : ℕ → ℕ → Tree → Told Tree
  growing k i t = grow_from check between k i t

  -- one more entry in the tree
  abbrev put : ℕ → Tree
  put i = ins (λ j. is_less (between i j)) i (T i)

  put_is : (k i : ℕ) → growing k (i + 1) (put i) ≡ growing k (suc i) (T (suc i))
  unfolding grown
  put_is k i = ap (λ (m : ℕ). growing k m (put i)) (add-one i)

  grow_step : (k i : ℕ) → growing (suc k) i (T i) ≡ if_taken i (check i) (if_free i (spot i) (pick (ltb i 16384) (growing k (i + 1) (put i)) (refuses 6 (i ∷ []))))
  unfolding grow_from
  grow_step k i = refl

  grow_none : (i : ℕ) → growing zero i (T i) ≡ gives (T i)
  unfolding grow_from
  grow_none i = refl

  none_is : T 0 ≡ leaf
  unfolding grown
  none_is = refl

  none_ordered : Ordered (Earlier (name_at N)) (T 0)
  unfolding grown
  none_ordered = tt

  -- the tree with one more entry is ordered, where the search ended at a free place
  ordered_more : (i : ℕ) (r : Place) → Ordered (Earlier (name_at N)) (T i) → spot i ≡ Free r → Ordered (Earlier (name_at N)) (T (suc i))
  unfolding grown to_name
  ordered_more i r o e = ins_names N (name_at N i) i refl (T i) Root r o e

  go : (k i n : ℕ) (u : Tree) → i + k ≡ n → Ordered (Earlier (name_at N)) (T i) → growing k i (T i) ≡ gives u → (u ≡ T n) × Ordered (Earlier (name_at N)) (T n)
  go zero i n u h o e =
      let same : i ≡ n = omega arith in
      let q : gives (T i) ≡ gives u = sym (grow_none i) ∙ e in
      let r : T i ≡ u = cc in
      (sym r ∙ ap (λ (m : ℕ). T m) same, subst (λ (m : ℕ). Ordered (Earlier (name_at N)) (T m)) same o)
  go (suc k) i n u h o e =
      let s = took i (check i) (spot i) (ltb i 16384) (growing k (i + 1) (put i)) u (sym (grow_step k i) ∙ e) in
      go k (suc i) n u (omega arith) (ordered_more i s.0.0 o s.0.1) (sym (put_is k i) ∙ s.1)

  -- WHAT IS GIVEN is the tree of all entries, ordered as a table has them, where names that pass their check can be stored
  pub grew : (kind : ℕ → Kind) (size : ℕ → ℕ) → ((i : ℕ) → check i ≡ gives tt → is_storable (name_at N i) ≡ true) → (n : ℕ) (u : Tree)
      → grow_from check (λ i j. given_order (name_at N i) (name_at N j)) n 0 leaf ≡ gives u
      → (u ≡ grown (name_at N) n) × Ordered (Before (λ i. entry_with (name_at N i) (kind i) (size i))) (grown (name_at N) n)
  grew kind size storable n u e =
      let g = go n 0 n u (omega arith) none_ordered (ap (growing n 0) none_is ∙ e) in (
        g.0,
        stored_ordered (name_at N) kind size (T n)
            (all_map (λ i. i < n) (λ i. is_storable (name_at N i) ≡ true) (T n)
            (λ i h. storable i (all_passed between check n 0 leaf e i (omega arith) (omega arith))) (grown_below (name_at N) n)) g.1,
      )

  -- WHEN IT IS GIVEN
  module _ (n : ℕ) (few : n ≤ 16384) (checked : (i : ℕ) → i < n → check i ≡ gives tt) (differ : (i j : ℕ) → i < n → j < i → between i j ≡ Equal → ⊥) where
    free_at : (i : ℕ) → i < n → (q : Spot) → spot i ≡ q → (x : Told Tree) → if_free i q x ≡ x
    free_at i k (Free r) e x = refl
    free_at i k (Same j) e x =
        let f = same_found (between i) (T i) Root j e in
        absurd (differ i j k (all_at (λ m. m < i) (T i) j (grown_below (name_at N) i) f.1) f.0)

    goes : (k i : ℕ) → i + k ≡ n → growing k i (T i) ≡ gives (T n)
    goes zero i e = grow_none i ∙ ap (λ (m : ℕ). gives (T m)) {x = i} {y = n} (omega arith)
    goes (suc k) i e =
        let low : i < 16384 = omega arith in
        let at : i < n = omega arith in
        grow_step k i ∙ rw (checked i at) (free_at i at (spot i) refl _ ∙ rw (lt-ltb i 16384 low) (put_is k i ∙ goes k (suc i) (omega arith)))

    pub grows : grow_from check (λ i j. given_order (name_at N i) (name_at N j)) n 0 leaf ≡ gives (grown (name_at N) n)
    grows = sym (ap (growing n 0) none_is) ∙ goes n 0 (omega arith)
