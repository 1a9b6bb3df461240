-- What growing a directory's tree gives: the tree of all its entries, ordered by name and balanced, with each entry once. Assumes nothing.
use Prim.Native.Nat.{ℕ, ◌+◌, ◌*◌, ◌≤◌, ◌<◌}
use native.Mathlib.Omega.{arith}
use mathlib.Core.Path.{◌≡◌, sym, ap, subst, ◌∙◌}
use Rattle.units.specs.Told.{gives}
use Rattle.dirtab_entry.proofs.Storable.{passed_storable}
use Rattle.avl_model.specs.Tree.{Tree, leaf, node, cnt}
use Rattle.avl_model.specs.Laws.{Avl, All, Ordered, size}
use Rattle.avl_model.specs.Names.{Names, names_in, name_at}
use Rattle.avl_model.specs.Order.{order}
use Rattle.avl_model.proofs.Counted.{all_below}
use Rattle.table_model.specs.Entry.{Entry}
use Rattle.table_model.specs.Place.{stop_of, end_of}
use Rattle.table_model.specs.Table.{size_of}
use Rattle.table_model.proofs.Places.{FitsAt, start_at}
use Rattle.img_model.specs.Shares.{Share}
use Rattle.img_model.specs.Plan.{given_at, entry_in, check_in, tree_in}
use Rattle.img_model.proofs.Passed.{one_passed, count_few, numbers, all_fit}
use Rattle.agree.specs.Written.{Before}
use Rattle.agree.specs.Given.{grown, times}
use Rattle.agree.proofs.Growing.{grew}
use Rattle.agree.proofs.FromList.{grown_avl, grown_once, grown-size, times-order}

-- an entry takes less than a sector and its own bytes
end_most : (entry : ℕ → Entry) (t : Tree) (e : ℕ) → All (FitsAt entry) t → end_of entry e t ≤ e + 2320 * size t
unfolding end_of
end_most entry leaf e a = omega arith
end_most entry (node l i r) e a =
    omega (arith, (start_at entry e i a.0).near, a.0.short, end_most entry l (stop_of entry e i) a.1, end_most entry r (end_of entry (stop_of entry e i) l) a.2)

size_most : (entry : ℕ → Entry) (t : Tree) (n : ℕ) → All (FitsAt entry) t → size t ≤ n → 1 ≤ n → size_of entry t ≤ 2320 * n
size_most entry leaf n a h k = omega arith
size_most entry (node l i r) n a h k = omega (arith, end_most entry (node l i r) 0 a)

module _ (S : Share) (tab : ℕ → ℕ) where
  abbrev E : ℕ → Entry
  E = entry_in S tab

  abbrev N : Names
  N = names_in S.bytes S.start S.len

  abbrev T : ℕ → Tree
  T n = grown (name_at N) n

  module _ (t : Tree) (told : tree_in S tab ≡ gives t) where
    all_grew : (t ≡ T S.count) × Ordered (Before E) (T S.count)
    unfolding tree_in
    all_grew =
        grew N (check_in S tab) (λ i. (given_at S tab i).kind) (λ i. (given_at S tab i).size)
        (λ i h. passed_storable S.bytes (given_at S tab i) (one_passed S tab i h).1) S.count t told

    tree_is : T S.count ≡ t
    tree_is = sym all_grew.0

    pub tree_ordered : Ordered (Before (entry_in S tab)) t
    tree_ordered = subst (Ordered (Before E)) tree_is all_grew.1

    pub tree_balanced : Avl t
    tree_balanced = subst Avl tree_is (grown_avl (name_at N) S.count)

    -- each entry once, and no other number
    pub tree_once : (i : ℕ) → i < S.count → times i (order t) ≡ 1
    tree_once i h = times-order i t ∙ ap (cnt i) all_grew.0 ∙ grown_once (name_at N) S.count i h

    pub tree_others : (i : ℕ) → S.count ≤ i → times i (order t) ≡ 0
    tree_others i h = times-order i t ∙ all_below S.count t i (numbers S tab told) h

    pub tree_size : size t ≡ S.count
    tree_size = ap size all_grew.0 ∙ grown-size (name_at N) S.count

    -- so a table's size is at most 16,384 times 2,320
    pub table_small : size_of (entry_in S tab) t ≤ 16384 * 2320
    table_small = omega (arith, size_most E t 16384 (all_fit S tab told) (omega (arith, tree_size, count_few S tab told)) (omega arith))
