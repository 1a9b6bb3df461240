-- THE PLANNED SECTORS ARE THOSE OF THE TABLES, where no entry is in two shares. Assumes nothing.
use Prim.Native.Nat.{ℕ, zero, suc, ◌+◌, ◌≤◌, ◌<◌}
use native.Mathlib.Omega.{arith}
use native.Mathlib.Decide.{dec_le, ℕ_discrete}
use mathlib.Core.Path.{◌≡◌, refl, sym, ap, ◌∙◌}
use mathlib.Core.Bool.{true}
use mathlib.Core.List.{List}
use lib.ListN.{length, get_or, length-set}
use lib.Seq.{get_or-set_same}
use Rattle.avl_model.specs.Order.{order}
use Rattle.table_model.proofs.Geometry.{items_entries}
use Rattle.img_model.specs.Shares.{Request, share_of, directories_of, entries_of, first_of, count_of, is_directory, value_of}
use Rattle.img_model.specs.Plan.{table_in, Taking, entries_at, taking_all, Plan}
use Rattle.img_model.proofs.Rule.{some_directory, share_inside, names_later_lem, names_one}
use Rattle.agree.specs.Given.{times}
use Rattle.agree_plan.specs.Planned.{tree_at, root_sector, start_sector, Planned, Disjoint, sector_at, table_sector, Sectored}
use Rattle.agree_plan.proofs.Grew.{tree_once, tree_others}
use Rattle.agree_plan.proofs.Up.{taken_before, before_next, before_none}
use Rattle.agree_plan.proofs.Tables.{rule_kept, from, taken_is, start_is, table_planned}
use Rattle.agree_plan.proofs.Lists.{map_same, along, items-along, sectors_kept, sectors_long, sectors_taken, tables_kept, tables_long, tables_taken}
use Rattle.agree_plan.proofs.Named.{one_namer, one_naming}

module _ (R : Request) (places : ℕ) (tables sectors : List ℕ) (p : Plan) (g : Planned R places tables sectors p) where
  abbrev S : List ℕ
  S = p.sizes

  abbrev n : ℕ
  n = directories_of R

  -- what was taken before directory d, and its numbers in preorder
  abbrev before : ℕ → Taking
  before = taken_before R S (from R places tables sectors p g)

  abbrev row : ℕ → List ℕ
  row d = order (tree_at R S d)

  row_once : (d : ℕ) → d < n → (i : ℕ) → i < count_of R d → times i (row d) ≡ 1
  row_once d h = tree_once (share_of R d) (table_in S) (tree_at R S d) (table_planned R places tables sectors p g d h).grown

  row_others : (d : ℕ) → d < n → (i : ℕ) → count_of R d ≤ i → times i (row d) ≡ 0
  row_others d h = tree_others (share_of R d) (table_in S) (tree_at R S d) (table_planned R places tables sectors p g d h).grown

  row_most : (d : ℕ) → d < n → (i : ℕ) → times i (row d) ≤ 1
  row_most d h i = elim (dec_le (suc i) (count_of R d)) [
    | yes l ↦ omega (arith, row_once d h i l)
    | no l ↦ omega (arith, row_others d h i (omega (arith, l)))
  ]

  row_inside : (d : ℕ) → d < n → (i : ℕ) → 1 ≤ times i (row d) → i < count_of R d
  row_inside d h i k = elim (dec_le (suc i) (count_of R d)) [
    | yes l ↦ omega (arith, l)
    | no l ↦ absurd (omega (arith, row_others d h i (omega (arith, l))))
  ]

  -- what is not in a row does not stand there
  row_out : (d : ℕ) → d < n → (i : ℕ) → (i < count_of R d → ⊥) → times i (row d) ≡ 0
  row_out d h i f = elim (dec_le (suc i) (count_of R d)) [
    | yes l ↦ absurd (f (omega (arith, l)))
    | no l ↦ row_others d h i (omega (arith, l))
  ]

  -- ---- the columns keep their lengths
  entries_long : (d : ℕ) → length (before d).sectors ≡ entries_of R
  entries_long zero = ap (λ (q : Taking). length q.sectors) (before_none R S (from R places tables sectors p g)) ∙ g.entry_places
  entries_long (suc d) =
      ap (λ (q : Taking). length q.sectors) (before_next R S (from R places tables sectors p g) d) ∙ sectors_long R S d (before d) (row d) ∙ entries_long d

  directories_long : (d : ℕ) → length (before d).tables ≡ n
  directories_long zero = ap (λ (q : Taking). length q.tables) (before_none R S (from R places tables sectors p g)) ∙ length-set tables 0 root_sector ∙ g.table_places
  directories_long (suc d) =
      ap (λ (q : Taking). length q.tables) (before_next R S (from R places tables sectors p g) d) ∙ tables_long R S d (before d) (row d) ∙ directories_long d

  -- ---- a table's sector, once taken, stays
  module _ (d i : ℕ) (hd : d < n) (hi : i < count_of R d) (b : is_directory (share_of R d) i ≡ true) where
    abbrev x : ℕ
    x = value_of (share_of R d) i

    pub table_stays : (m : ℕ) → d < m → m ≤ n → get_or (before m).tables x 0 ≡ get_or (before (suc d)).tables x 0
    table_stays zero k h = absurd (omega arith)
    table_stays (suc m) k h = elim (ℕ_discrete d m) [
      | yes q ↦ ap (λ (e : ℕ). get_or (before (suc e)).tables x 0) (sym q)
      | no q ↦
          ap (λ (y : Taking). get_or y.tables x 0) (before_next R S (from R places tables sectors p g) m)
          ∙ tables_kept R S m (before m) (row m) x
          (λ j bj e. row_out m (omega arith) j (λ hj. q (one_namer R (rule_kept R places tables sectors p g) x d m i j hd hi b refl (omega arith) hj bj e)))
          ∙ table_stays m (omega (arith, q)) (omega arith)
    ]

  root_stays : (m : ℕ) → m ≤ n → get_or (before m).tables 0 0 ≡ root_sector
  root_stays zero h =
      ap (λ (q : Taking). get_or q.tables 0 0) (before_none R S (from R places tables sectors p g))
      ∙ get_or-set_same tables 0 root_sector 0 (omega (arith, some_directory R (rule_kept R places tables sectors p g), g.table_places))
  root_stays (suc m) h =
      ap (λ (y : Taking). get_or y.tables 0 0) (before_next R S (from R places tables sectors p g) m)
      ∙ tables_kept R S m (before m) (row m) 0
      (λ j bj e. row_out m (omega arith) j (λ hj. omega (arith, names_later_lem R (rule_kept R places tables sectors p g) m (omega arith) j hj bj)))
      ∙ root_stays m (omega arith)

  -- THE ROOT TABLE has sector 33
  pub root_planned : table_sector p 0 ≡ root_sector
  root_planned = ap (λ (y : Taking). get_or y.tables 0 0) (taken_is R places tables sectors p g) ∙ root_stays n (omega arith)

  module _ (apart : Disjoint R) where
    -- an entry's sector, once taken, stays
    sector_stays : (d i : ℕ) → d < n → i < count_of R d → (m : ℕ) → d < m → m ≤ n → get_or (before m).sectors (first_of R d + i) 0 ≡ get_or (before (suc d)).sectors (first_of R d + i) 0
    sector_stays d i hd hi zero k h = absurd (omega arith)
    sector_stays d i hd hi (suc m) k h = elim (ℕ_discrete d m) [
      | yes q ↦ ap (λ (e : ℕ). get_or (before (suc e)).sectors (first_of R d + i) 0) (sym q)
      | no q ↦
          ap (λ (y : Taking). get_or y.sectors (first_of R d + i) 0) (before_next R S (from R places tables sectors p g) m)
          ∙ sectors_kept R S m (before m) (row m) (first_of R d + i)
          (λ j e. row_out m (omega arith) j (λ hj. q (apart.once d m i j hd (omega arith) hi hj (sym e))))
          ∙ sector_stays d i hd hi m (omega (arith, q)) (omega arith)
    ]

    sector_is : (d i : ℕ) → d < n → i < count_of R d → sector_at R p d i ≡ get_or (taking_all R S d (before d) (row d)).sectors (first_of R d + i) 0
    sector_is d i hd hi =
        ap (λ (y : Taking). get_or y.sectors (first_of R d + i) 0) (taken_is R places tables sectors p g)
        ∙ sector_stays d i hd hi n hd (omega arith)
        ∙ ap (λ (y : Taking). get_or y.sectors (first_of R d + i) 0) (before_next R S (from R places tables sectors p g) d)

    table_is : (d i : ℕ) → d < n → i < count_of R d → is_directory (share_of R d) i ≡ true
        → table_sector p (value_of (share_of R d) i) ≡ get_or (taking_all R S d (before d) (row d)).tables (value_of (share_of R d) i) 0
    table_is d i hd hi b =
        ap (λ (y : Taking). get_or y.tables (value_of (share_of R d) i) 0) (taken_is R places tables sectors p g)
        ∙ table_stays d i hd hi b n hd (omega arith)
        ∙ ap (λ (y : Taking). get_or y.tables (value_of (share_of R d) i) 0) (before_next R S (from R places tables sectors p g) d)

    inside : (d i : ℕ) → d < n → i < count_of R d → first_of R d + i < length (before d).sectors
    inside d i hd hi = omega (arith, share_inside R (rule_kept R places tables sectors p g) d hd, entries_long d)

    -- THE SECTORS
    pub sectors_planned : (d : ℕ) → d < directories_of R → Sectored R p d
    sectors_planned d h = record {
      numbers = row d;
      once = row_once d h;
      others = row_others d h;
      entries = items_entries (entries_at R S d) 1 (tree_at R S d) 0 (start_sector R S d);
      sectors =
          items-along (entries_at R S d) (tree_at R S d) 0 (start_sector R S d)
          ∙ ap (λ (m : ℕ). along (entries_at R S d) m (row d)) (start_is R places tables sectors p g d (omega arith))
          ∙ sym (sectors_taken R S d (before d) (row d) (row_most d h) (λ i k. inside d i h (row_inside d h i k)))
          ∙ sym (map_same (sector_at R p d) (λ i. get_or (taking_all R S d (before d) (row d)).sectors (first_of R d + i) 0) (row d) (λ i k. sector_is d i h (row_inside d h i k)));
      tables = λ i hi b.
          table_is d i h hi b
          ∙ tables_taken R S d (before d) (row d) i (omega (arith, row_once d h i hi)) (row_most d h) b
          (omega (arith, names_one R (rule_kept R places tables sectors p g) d h i hi b, directories_long d)) (inside d i h hi)
          (λ j k bj e. one_naming R (rule_kept R places tables sectors p g) (value_of (share_of R d) i) d j i h (row_inside d h j k) bj e hi b refl)
          ∙ sym (sector_is d i h hi);
    }
