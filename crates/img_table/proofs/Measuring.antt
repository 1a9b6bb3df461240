-- What measuring takes of a tree's preorder, and what it then is. Assumes nothing.
use Prim.Native.Nat.{ℕ, ◌≤◌, ◌<◌}
use native.Mathlib.Omega.{arith}
use mathlib.Core.Path.{◌≡◌, sym, ap, subst, ◌∙◌}
use mathlib.Core.List.{List}
use lib.ListN.{length, get_or}
use Rattle.units.specs.Told.{gives}
use Rattle.layout_node.specs.Header.{entry_length}
use Rattle.avl_model.specs.Tree.{Tree}
use Rattle.avl_model.specs.Order.{order}
use Rattle.avl_model.proofs.Avl.{all_map}
use Rattle.dirtab_place.specs.inner.Places.{size_along, Measurable}
use Rattle.dirtab_place.proofs.Along.{SameLength}
use Rattle.dirtab_place.proofs.Named.{name_long}
use Rattle.dirtab_place.proofs.Lengths.{size_along_lem}
use Rattle.dirtab_write.proofs.Bridge.{in_order}
use Rattle.img_model.specs.Shares.{Share}
use Rattle.img_model.specs.Plan.{given_at, entry_in, tree_in}
use Rattle.img_model.proofs.Passed.{fine, count_few, numbers}
use Rattle.img_table.specs.inner.Arranging.{Ordered, Measured}

-- what holds of each of the entries holds of each that is listed
pub listed_at : (S : Share) (tab : ℕ → ℕ) {t : Tree} → tree_in S tab ≡ gives t → (listed : List ℕ) (P : ℕ → Type 0) → listed ≡ order t →
    ((j : ℕ) → j < S.count → P j) → (k : ℕ) → k < length listed → P (get_or listed k 0)
listed_at S tab {t} told listed P e f k h =
    subst (λ (xs : List ℕ). P (get_or xs k 0)) (sym e) (in_order P t (all_map (λ j. j < S.count) P t f (numbers S tab told)) k (subst (λ (xs : List ℕ). k < length xs) e h))

module _ (S : Share) (tab : ℕ → ℕ) (listed : List ℕ) (w : Ordered (tree_in S tab) listed) where
  pub measurable : length S.len ≡ S.count → length listed ≡ S.count → Measurable listed S.len
  measurable named long = record {
    few = omega (arith, count_few S tab w.told);
    in_len = listed_at S tab w.told listed (λ j. j < length S.len) w.listed_is (λ j h. omega arith);
    short = listed_at S tab w.told listed (λ j. get_or S.len j 0 ≤ 255) w.listed_is (λ j h. (fine S tab w.told j h).short);
  }

  -- a name has the length of its column
  long_name : (j : ℕ) → j < S.count → SameLength (entry_in S tab) S.len j
  long_name j h = ap entry_length (name_long S.bytes (given_at S tab j) (fine S tab w.told j h).inside)

  pub measured : (z : ℕ) → z ≡ size_along S.len listed → Measured S tab listed z
  measured z e = record {
    t = w.t;
    told = w.told;
    listed_is = w.listed_is;
    size_is = e ∙ ap (size_along S.len) w.listed_is ∙ size_along_lem (entry_in S tab) S.len w.t (all_map (λ j. j < S.count) (SameLength (entry_in S tab) S.len) w.t long_name (numbers S tab w.told));
  }
