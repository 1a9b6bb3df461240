-- The starred cases at the operations: cited, and `abb` with `ABB` computed. Assumes nothing.
use Prim.Native.Nat.{ℕ, ◌/◌}
use native.Mathlib.Omega.{arith}
use mathlib.Core.Path.{◌≡◌, refl, ap, ◌∙◌}
use mathlib.Core.List.{List, [], ◌∷◌}
use lib.ListN.{length}
use Rattle.units.specs.Told.{refuses}
use Rattle.layout_name.specs.Order.{raised, number_order, list_order}
use Rattle.name_role.specs.Roles.{given_keys, stored_of, given_order}
use Rattle.dirtab_entry.specs.Entry.{any_bad, check_of}
use Rattle.avl_model.specs.Tree.{node}
use Rattle.avl_model.specs.Laws.{least}
use Rattle.table_model.specs.Place.{items, item_of}
use Rattle.table_model.proofs.Geometry.{of_item}
use Rattle.dirtab_add.proofs.Cases.{abb_ABB}
use Rattle.dirtab_grow.specs.Grow.{grow_from}
use Rattle.dirtab_list.specs.Whole.{whole_of, out_after}
use Rattle.agree.proofs.Cases as computed
use Rattle.agree_causes.proofs.Thin.{thin_height, thin_balanced, thin-size, none_fewer}
use Rattle.agree_causes.proofs.Links.{never_linked, left_bytes, right_bytes}
use Rattle.claims.specs.Starred.{abb_in_both_cases, Starred}

-- the second is refused, and nothing is written
twice : (s n : ℕ) → whole_of abb_in_both_cases 2 s n ≡ refuses 4 (1 ∷ [])
unfolding whole_of grow_from check_of any_bad raised number_order list_order given_order given_keys stored_of
twice s n = refl

unwritten : (s : ℕ) (out : List ℕ) → out_after abb_in_both_cases 2 s out ≡ out
unfolding out_after whole_of grow_from check_of any_bad raised number_order list_order given_order given_keys stored_of
unwritten s out = refl

least_19 : least 19 ≡ 10945
unfolding least
least_19 = refl

least_20 : least 20 ≡ 17710
unfolding least
least_20 = refl

pub starred : Starred
starred = record {
  table = computed.cases;
  added = λ A e f g h. abb_ABB A e f g h;
  whole = λ s out. (twice s (length out), unwritten s out);
  left_65532 = λ entry align e s i j a b r h.
      let k = ap (λ (o : ℕ). o / 4) h in
      (k, left_bytes (item_of entry align e s (node a j b) i r) k);
  right_65532 = λ entry align e s i j l a b h.
      let k = ap (λ (o : ℕ). o / 4) h in
      (k, right_bytes (item_of entry align e s l i (node a j b)) k);
  never_0xffff = λ entry align s x f y m.
      of_item (λ z. (z.left ≡ 65535 → ⊥) × (z.right ≡ 65535 → ⊥)) (items entry align 0 s x) y (never_linked entry align x 0 s f refl) m;
  thin_19 = (thin_balanced 19, (thin_height 19, thin-size 19 ∙ least_19));
  thin_20 = (thin_balanced 20, (thin_height 20, thin-size 20 ∙ least_20));
  fewest_19 = λ t a e. omega (arith, none_fewer t 19 a e, least_19);
  fewest_20 = λ t a e. omega (arith, none_fewer t 20 a e, least_20);
}
