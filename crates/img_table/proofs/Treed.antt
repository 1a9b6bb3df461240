-- The tree of a directory's entries, from the tree of those before the first file that is too large. Assumes nothing.
use Prim.Native.Nat.{ℕ, suc, ◌+◌, ◌-◌, ◌≤◌, ◌<◌}
use native.Mathlib.Omega.{arith}
use mathlib.Core.Path.{◌≡◌, sym, ap, subst, ◌∙◌}
use mathlib.Core.Bool.{Bool}
use mathlib.Core.List.{List, [], ◌∷◌}
use lib.ListN.{get_or}
use borrow.Author.Tests.{lt-ltb, le-ltb}
use Rattle.units.specs.Told.{Told, gives, refuses, pick}
use Rattle.std.specs.declared.cmp.Ordering.{Ordering}
use Rattle.dirtab_entry.specs.Entry.{kind_for, check_of}
use Rattle.avl_model.specs.Tree.{Tree, leaf}
use Rattle.dirtab_grow.specs.Listing.{Listing, listing, given_in}
use Rattle.dirtab_grow.specs.Grow.{grow_from, order_in, grow}
use Rattle.img_model.specs.Shares.{Share}
use Rattle.img_model.specs.Plan.{size_at, given_at, check_in, tree_in}
use Rattle.img_table.specs.inner.Arranging.{fitting}
use Rattle.dirtab_grow.proofs.Growth.{and_then, same_checks, grow_then, grow_refused, grow_none}
use Rattle.img_table.proofs.Fitting.{fit_low, fit_to, fit_large}

-- m is the number of the first entry that is too large, and `size` has the sizes of those before it
module _ (S : Share) (tab : ℕ → ℕ) (size : List ℕ) (m : ℕ) (m-is : m ≡ fitting (size_at S tab) S.count 0)
    (sizes : (i : ℕ) → i < m → get_or size i 0 ≡ size_at S tab i) where
  abbrev L : Listing
  L = listing m S.start S.len size S.kind S.bytes

  abbrev check : ℕ → Told (Unit {0})
  check j = check_of S.bytes (given_in L j)

  abbrev between : ℕ → ℕ → Ordering
  between = order_in S.bytes (given_at S tab)

  -- the tree of those before it
  abbrev pub front : Told Tree
  front = grow S.bytes (given_in L) m

  pub to_count : m ≤ S.count
  to_count = omega (arith, fit_to (size_at S tab) S.count 0)

  check_is : (j : ℕ) → j < m → check_in S tab j ≡ check j
  check_is j h =
      ap (λ (b : Bool). pick b (refuses 10 []) (check_of S.bytes (given_at S tab j))) (le-ltb 4294967295 (size_at S tab j) (fit_low (size_at S tab) S.count 0 j (omega arith) (omega arith)))
      ∙ ap (λ (z : ℕ). check_of S.bytes (record { start = get_or S.start j 0; len = get_or S.len j 0; kind = kind_for (get_or S.kind j 0); size = z })) (sym (sizes j h))

  check_large : m < S.count → check_in S tab m ≡ refuses 10 []
  check_large h =
      let g : 4294967295 < size_at S tab m = subst (λ (v : ℕ). 4294967295 < size_at S tab v) (sym m-is) (fit_large (size_at S tab) S.count 0 (omega arith)) in
      ap (λ (b : Bool). pick b (refuses 10 []) (check_of S.bytes (given_at S tab m))) (lt-ltb 4294967295 (size_at S tab m) g)

  tree_is : tree_in S tab ≡ and_then front (λ u. grow_from (check_in S tab) between (S.count - m) m u)
  unfolding tree_in
  tree_is =
      grow_then between (check_in S tab) m (S.count - m) 0 S.count m leaf (omega (arith, to_count)) (omega arith)
      ∙ ap (λ (x : Told Tree). and_then x (λ u. grow_from (check_in S tab) between (S.count - m) m u)) (same_checks between (check_in S tab) check m 0 leaf (λ j p q. check_is j (omega arith)))

  -- one of those is refused
  pub tree_refused : {k : ℕ} {vs : List ℕ} → front ≡ refuses k vs → tree_in S tab ≡ refuses k vs
  tree_refused e = tree_is ∙ ap (λ (x : Told Tree). and_then x (λ u. grow_from (check_in S tab) between (S.count - m) m u)) e

  module _ {t : Tree} (e : front ≡ gives t) where
    rest_is : tree_in S tab ≡ grow_from (check_in S tab) between (S.count - m) m t
    rest_is = tree_is ∙ ap (λ (x : Told Tree). and_then x (λ u. grow_from (check_in S tab) between (S.count - m) m u)) e

    -- none of them is, and there is one that is too large
    pub tree_large : m < S.count → tree_in S tab ≡ refuses 10 (m ∷ [])
    tree_large h =
        rest_is ∙ ap (λ (k : ℕ). grow_from (check_in S tab) between k m t) {x = S.count - m} {y = suc (S.count - (m + 1))} (omega arith)
        ∙ grow_refused between (check_in S tab) (S.count - (m + 1)) m 10 [] t (check_large h)

    -- they are all
    pub tree_whole : S.count ≤ m → tree_in S tab ≡ gives t
    tree_whole h =
        rest_is ∙ ap (λ (k : ℕ). grow_from (check_in S tab) between k m t) {x = S.count - m} {y = 0} (omega arith) ∙ grow_none between (check_in S tab) m t
