-- DEMAND 3 OF A LIST OF ENTRIES: the tree that insertion grows is ordered and balanced and has each number once, so that the agreement holds of it.
-- Assumes nothing.
use Prim.Native.Nat.{ℕ, zero, suc, ◌+◌, ◌≤◌, ◌<◌}
use mathlib.Core.Path.{◌≡◌, refl, sym, ap, ◌∙◌}
use mathlib.Core.Bool.{true, false}
use mathlib.Core.List.{List, [], ◌∷◌, ◌++◌}
use native.Mathlib.Omega.{arith}
use native.Mathlib.Decide.{ℕ_discrete}
use lib.ListN.{length}
use Rattle.units.specs.declared.Sector.{Sector}
use Rattle.units.specs.declared.Region.{Region}
use Rattle.std.specs.declared.cmp.Ordering.{Ordering}
use Rattle.std.specs.declared.cmp.Ordering.TheVariants.{Less, Equal, Greater}
use Rattle.layout_name.specs.inner.Order.{opposite}
use Rattle.name_role.specs.Roles.{given_order, bad_sought}
use Rattle.name_role.proofs.Storable.{is_storable}
use Rattle.name_role.proofs.Roles.{given_opposite, given_trans, given_equal→, given_stored, sought_given, stored-length, storable_good}
use Rattle.dirtab_entry.specs.declared.Kind.{Kind}
use Rattle.dirtab_entry.proofs.Stored.{stored_low}
use Rattle.dirtab_entry.proofs.Storable.{good_storable}
use Rattle.avl_model.specs.Tree.{Tree, leaf, node, δ, cnt, ins}
use Rattle.avl_model.specs.Laws.{Avl, All, Ordered, size}
use Rattle.avl_model.specs.Names.{Names, name_at, to_name, is_less}
use Rattle.avl_model.specs.inner.Names as names
use Rattle.avl_model.specs.Order.{order}
use Rattle.avl_model.proofs.Avl.{ins_avl, ins_ordered, all_ins, all_map, tally, size-tally}
use Rattle.avl_model.proofs.Bal.{ins-cnt}
use Rattle.avl_model.proofs.Counted.{all_below}
use Rattle.avl_model.proofs.Alike.{ordered_alike}
use Rattle.avl_model.proofs.Frame.{δ-same, δ-apart}
use Rattle.table_model.specs.Entry.{Entry, entry_with}
use Rattle.table_model.specs.Place.{items}
use Rattle.table_model.specs.Table.{size_of}
use Rattle.table_model.specs.Said.{Fits}
use Rattle.table_model.proofs.Geometry.{items_entries}
use Rattle.agree.specs.Written.{Before, Written}
use Rattle.agree.specs.Agreement.{Same, Agreement}
use Rattle.agree.specs.Given.{Given, Good, stored, numbered, entry_of, given_name, grown, tree_of, WrittenList, times, EachOnce}
use Rattle.agree.proofs.Sized.{as_reported}
use Rattle.agree.proofs.Agrees.{agreement}

-- what the test of an insertion says, of two names that differ
told : (a b : List ℕ) (o : Ordering) → given_order a b ≡ o → (o ≡ Equal → ⊥) → (is_less o ≡ true → given_order a b ≡ Less) × (is_less o ≡ false → given_order b a ≡ Less)
told a b Less e d = (λ q. e, λ q. let z : ◌≡◌ {A = ℕ} 0 1 = cc in absurd (omega arith))
told a b Equal e d = absurd (d refl)
told a b Greater e d = (λ q. let z : ◌≡◌ {A = ℕ} 0 1 = cc in absurd (omega arith), λ q. given_opposite a b ∙ ap opposite e)

-- given names in order: that of i is before that of j
abbrev pub Earlier : (ℕ → List ℕ) → ℕ → ℕ → Type 0
Earlier name i j = given_order (name i) (name j) ≡ Less

-- are in order as a table has them, if they can be stored
pub stored_ordered : (name : ℕ → List ℕ) (kind : ℕ → Kind) (size : ℕ → ℕ) (t : Tree) → All (λ i. is_storable (name i) ≡ true) t
    → Ordered (Earlier name) t → Ordered (Before (λ i. entry_with (name i) (kind i) (size i))) t
stored_ordered name kind size t a o =
    ordered_alike (Earlier name) (Before (λ i. entry_with (name i) (kind i) (size i))) (λ i. is_storable (name i) ≡ true)
    (λ i j p k b. sym (given_stored (name i) (name j) p k) ∙ b) t a o

module _ (name : ℕ → List ℕ) where
  pub grown_below : (n : ℕ) → All (λ i. i < n) (grown name n)
  unfolding grown
  grown_below zero = tt
  grown_below (suc n) = all_ins (λ i. i < suc n) _ n (grown name n) (omega arith) (all_map (λ i. i < n) (λ i. i < suc n) (grown name n) (λ i h. omega arith) (grown_below n))

  pub grown_avl : (n : ℕ) → Avl (grown name n)
  unfolding grown
  grown_avl zero = tt
  grown_avl (suc n) = ins_avl _ n (grown name n) (grown_avl n)

  pub grown_ordered : (n : ℕ) → ((i j : ℕ) → i < n → j < i → given_order (name i) (name j) ≡ Equal → ⊥) → Ordered (Earlier name) (grown name n)
  unfolding grown
  grown_ordered zero d = tt
  grown_ordered (suc n) d =
      ins_ordered (Earlier name) (λ a b c p q. given_trans (name a) (name b) (name c) p q) _ n (grown name n)
      (all_map (λ i. i < n) _ (grown name n) (λ i h. told (name n) (name i) (given_order (name n) (name i)) refl (d n i (omega arith) h)) (grown_below n))
      (grown_ordered n (λ i j h k. d i j (omega arith) k))

  pub grown_once : (n i : ℕ) → i < n → cnt i (grown name n) ≡ 1
  unfolding grown
  grown_once zero i h = absurd (omega arith)
  grown_once (suc n) i h = ins-cnt _ n i (grown name n) ∙ elim (ℕ_discrete n i) [
    | yes e ↦ omega (arith, all_below n (grown name n) i (grown_below n) (omega arith), ap (λ (k : ℕ). δ k i) e, δ-same i)
    | no d ↦ omega (arith, grown_once n i (omega arith), δ-apart n i d)
  ]

  pub grown-size : (n : ℕ) → size (grown name n) ≡ n
  grown-size n =
      sym (size-tally n (grown name n) (grown_below n)) ∙ tally_ones n (omega arith)
    where
      tally_ones : (m : ℕ) → m ≤ n → tally m (λ j. cnt j (grown name n)) ≡ m
      tally_ones zero h = refl
      tally_ones (suc m) h = omega (arith, grown_once n m (omega arith), tally_ones m (omega arith))

  -- the same tree as that of names in lent bytes, where the names are those
  pub grown-names : (N : Names) → ((i : ℕ) → name i ≡ name_at N i) → (n : ℕ) → grown name n ≡ names.grown N n
  unfolding grown to_name
  grown-names N e zero = refl
  grown-names N e (suc n) = λ k. ins (λ i. is_less (given_order (e n k) (e i k))) n (grown-names N e n k)

-- how often a number stands in a tree, and in its preorder
times_append : (j : ℕ) (xs ys : List ℕ) → times j (xs ++ ys) ≡ times j xs + times j ys
times_append j [] ys = omega arith
times_append j (x ∷ xs) ys = omega (arith, times_append j xs ys)

pub times-order : (j : ℕ) (x : Tree) → times j (order x) ≡ cnt j x
times-order j leaf = refl
times-order j (node l i r) = omega (arith, times_append j (order l) (order r), times-order j l, times-order j r)

-- each entry of the first n is once among the items of their tree
pub grown_each : (name : ℕ → List ℕ) (entry : ℕ → Entry) (n align s : ℕ) → EachOnce entry n (items entry align 0 s (grown name n))
grown_each name entry n align s = record {
  numbers = order (grown name n);
  entries = items_entries entry align (grown name n) 0 s;
  once = λ i h. times-order i (grown name n) ∙ grown_once name n i h;
  others = λ i h. times-order i (grown name n) ∙ all_below n (grown name n) i (grown_below name n) h;
}

module _ (align s : ℕ) (gs : List Given) (w : List ℕ) (first : Sector) (t : Region) (g : WrittenList align s gs w first t) where
  storable : (i : ℕ) → i < length gs → is_storable (given_name gs i) ≡ true
  storable i h = good_storable (given_name gs i) (g.admitted.good i h).ascii

  -- the tree of a list that is admitted is written
  pub list_written : Written (entry_of gs) align s (tree_of gs) w first t
  list_written =
      let a = g.admitted in
      record {
        writable = record {
          aligned = a.aligned;
          fits = all_map (λ i. i < length gs) (λ i. Fits (entry_of gs i)) (tree_of gs)
              (λ i h. let k = a.good i h in record { short = omega (arith, k.short, stored-length (given_name gs i) (storable i h)); small = stored_low (numbered gs i).kind (numbered gs i).size k.small k.roundable })
              (grown_below (given_name gs) (length gs));
          ordered = stored_ordered (given_name gs) (λ i. (numbered gs i).kind) (λ i. (numbered gs i).size) (tree_of gs)
              (all_map (λ i. i < length gs) (λ i. is_storable (given_name gs i) ≡ true) (tree_of gs) storable (grown_below (given_name gs) (length gs)))
              (grown_ordered (given_name gs) (length gs)
              (λ i j h k e. omega (arith, a.differ i j h (omega arith) (given_equal→ (given_name gs i) (given_name gs j) e))));
          balanced = grown_avl (given_name gs) (length gs);
          placing = a.placing;
          placed = a.placed;
        };
        stand = g.stand;
        sized = as_reported (size_of (entry_of gs) (tree_of gs)) t.size g.sized;
      }

  -- DEMAND 3: what is written of a list is listed and found
  pub list_agreement : Agreement w first t g.stand.place (items (entry_of gs) align 0 s (tree_of gs))
  unfolding list_written
  list_agreement = agreement (entry_of gs) align s (tree_of gs) w first t list_written

  -- as many nodes as entries
  pub list_size : size (tree_of gs) ≡ length gs
  list_size = grown-size (given_name gs) (length gs)

  -- and it is each entry of the list once
  pub list_once : EachOnce (entry_of gs) (length gs) (items (entry_of gs) align 0 s (tree_of gs))
  list_once = grown_each (given_name gs) (entry_of gs) (length gs) align s

-- a name that adding takes can be looked up, and is then the one that a table has
pub good_name : (g : Given) → Good g → (bad_sought g.name ≡ false) × Same g.name (stored g).name
good_name g h = let k = good_storable g.name h.ascii in (storable_good g.name k, sought_given g.name k)
