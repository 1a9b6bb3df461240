-- What sizing the tables from the last directory back keeps, and what one directory more makes of it. Assumes nothing.
use Prim.Native.Nat.{ℕ, suc, ◌+◌, ◌-◌, ◌≤◌, ◌<◌}
use native.Mathlib.Omega.{arith}
use native.Mathlib.Decide.{ℕ_discrete}
use mathlib.Core.Path.{◌≡◌, refl, sym, ap, subst, ◌∙◌}
use mathlib.Core.List.{List, [], ◌∷◌}
use lib.ListN.{length, set, take, drop}
use lib.Seq.{get_or-set_same}
use Rattle.units.specs.Told.{gives, refuses}
use Rattle.avl_model.specs.Tree.{Tree}
use Rattle.table_model.specs.Table.{size_of}
use Rattle.img_model.specs.Shares.{Request, share_of, directories_of, first_of, count_of, part, value_of}
use Rattle.img_model.specs.Plan.{table_in, entry_in, tree_in, sizes_down, total}
use Rattle.img_model.proofs.Trees.{refused_inside, tree_same, size_same}
use Rattle.img_model.proofs.Sizes.{later_kept, down_given, down_refused}
use Rattle.dirtab_entry.specs.Entry.{cause_number}
use Rattle.img_table.specs.declared.EntryError.{EntryError}
use Rattle.img_table.specs.declared.EntryError.TheVariants as error
use Rattle.img_table.specs.inner.Arranging.{Measured, refused}
use Rattle.img_size.specs.inner.Sizing.{number_in, listed_at}
use Rattle.img_model.specs.inner.Tables.{order_from, TableIn, TablesIn, Sizeable}
use Rattle.img_model.proofs.Orders.{total_step, total_none, total_down, total_all, part_kept}

-- ---- the loop

-- the tables of the directories from d on stand in `sizes` and in the first `at` places of `orders`, and sizing the others makes the whole
pub record Going (R : Request) (from sizes orders : List ℕ) (at d : ℕ) : Type 0 where
  pub low : d ≤ directories_of R
  pub at_is : at ≡ total (drop d R.share)
  pub down : sizes_down R d sizes ≡ sizes_down R (directories_of R) from
  pub standing : (x : ℕ) → d ≤ x → x < directories_of R → TableIn R sizes orders x

module _ (R : Request) (s : Sizeable R) where
  -- none is sized
  pub none_sized : (sizes orders : List ℕ) → Going R sizes sizes orders 0 (directories_of R)
  none_sized sizes orders = record {
    low = omega arith;
    at_is = sym (total_none R.share (directories_of R) s.shared);
    down = refl;
    standing = λ x p q. absurd (omega arith);
  }

  -- all are
  pub all_sized : (from sizes orders : List ℕ) (at d : ℕ) → Going R from sizes orders at d → d ≤ 0 → gives sizes ≡ sizes_down R (directories_of R) from
  unfolding sizes_down
  all_sized from sizes orders at d g h =
      let z : d ≡ 0 = omega arith in
      subst (λ (k : ℕ). sizes_down R k sizes ≡ sizes_down R (directories_of R) from) z g.down

  pub all_standing : (from sizes orders : List ℕ) (at d : ℕ) → Going R from sizes orders at d → d ≤ 0 → TablesIn R sizes orders
  all_standing from sizes orders at d g h = λ x q. g.standing x (omega arith) q

  module _ (from sizes orders : List ℕ) (at d : ℕ) (g : Going R from sizes orders at d) (h : 0 < d) where
    pub below : d - 1 < directories_of R
    below = omega (arith, g.low)

    one_back : d ≡ suc (d - 1)
    one_back = omega arith

    at_after : at ≡ order_from R (d - 1)
    at_after = g.at_is ∙ ap (λ (k : ℕ). total (drop k R.share)) one_back

    -- the places of directory d - 1 are the next ones
    pub at_more : at + count_of R (d - 1) ≡ total (drop (d - 1) R.share)
    at_more =
        let e : total (drop (d - 1) R.share) ≡ count_of R (d - 1) + order_from R (d - 1) = total_step R.share (d - 1) (omega (arith, s.shared, below)) in
        omega (arith, e, at_after)

    -- and they are there
    pub has_room : (places : ℕ) → total R.share ≤ places → at + count_of R (d - 1) ≤ places
    has_room places q = omega (arith, at_more, total_all R.share (d - 1))

    -- a refusal is told with the entry's place in the list, which four bytes hold
    refused_back : (k i j : ℕ) → tree_in (share_of R (d - 1)) (table_in sizes) ≡ refuses k (i ∷ []) → j ≡ first_of R (d - 1) + i → refuses k (j ∷ []) ≡ sizes_down R (directories_of R) from
    refused_back k i j e q =
        ap (λ (v : ℕ). refuses k (v ∷ [])) q ∙
        sym (down_refused R (d - 1) sizes k i e) ∙ ap (λ (n : ℕ). sizes_down R n sizes) (sym one_back) ∙ g.down

    refused_low : (k i : ℕ) → tree_in (share_of R (d - 1)) (table_in sizes) ≡ refuses k (i ∷ []) → first_of R (d - 1) + i ≤ 4294967295
    refused_low k i e = omega (arith, refused_inside (share_of R (d - 1)) (table_in sizes) k i e, s.inside (d - 1) below, s.low)

    pub error_back : (e listed : EntryError) → tree_in (share_of R (d - 1)) (table_in sizes) ≡ refused e → listed ≡ listed_at (first_of R (d - 1)) e →
        refused listed ≡ sizes_down R (directories_of R) from
    error_back (error.Refused c i) listed e q = ap refused q ∙ refused_back (cause_number c) i _ e refl
    error_back (error.FileTooLarge i) listed e q = ap refused q ∙ refused_back 10 i _ e refl

    pub error_low : (e : EntryError) → tree_in (share_of R (d - 1)) (table_in sizes) ≡ refused e → first_of R (d - 1) + number_in e ≤ 4294967295
    error_low (error.Refused c i) e = refused_low (cause_number c) i e
    error_low (error.FileTooLarge i) e = refused_low 10 i e

    -- the size of directory d - 1 is stored: the trees of no directory from there on change by it
    module _ (z : ℕ) where
      tree_kept : (x : ℕ) → d - 1 ≤ x → x < directories_of R → tree_in (share_of R x) (table_in (set sizes (d - 1) z)) ≡ tree_in (share_of R x) (table_in sizes)
      tree_kept x p q =
          tree_same (share_of R x) (table_in (set sizes (d - 1) z)) (table_in sizes)
          (λ i k e. later_kept sizes (d - 1) z (value_of (share_of R x) i) (omega (arith, s.later x i q k e)))

      size_kept : (x : ℕ) (t : Tree) → size_of (entry_in (share_of R x) (table_in sizes)) t ≡ size_of (entry_in (share_of R x) (table_in (set sizes (d - 1) z))) t
      size_kept x t = size_same (share_of R x) (table_in sizes) (table_in (set sizes (d - 1) z)) t

      module _ (after : List ℕ) (kept : take at after ≡ take at orders) where
        later_stands : (x : ℕ) → d ≤ x → x < directories_of R → TableIn R sizes orders x → TableIn R (set sizes (d - 1) z) after x
        later_stands x p q w = record {
          t = w.t;
          told = tree_kept x (omega arith) q ∙ w.told;
          listed_is =
              part_kept (order_from R x) (count_of R x) at orders after
              (let e : total (drop x R.share) ≡ count_of R x + order_from R x = total_step R.share x (omega (arith, s.shared)) in
              omega (arith, e, total_down R.share d x p, g.at_is))
              kept ∙
              w.listed_is;
          size_is = later_kept sizes (d - 1) z x (omega arith) ∙ w.size_is ∙ size_kept x w.t;
        }

        next_stands : length sizes ≡ directories_of R → Measured (share_of R (d - 1)) (table_in sizes) (part at (count_of R (d - 1)) after) z → TableIn R (set sizes (d - 1) z) after (d - 1)
        next_stands l m = record {
          t = m.t;
          told = tree_kept (d - 1) (omega arith) below ∙ m.told;
          listed_is = ap (λ (a : ℕ). part a (count_of R (d - 1)) after) (sym at_after) ∙ m.listed_is;
          size_is = get_or-set_same sizes (d - 1) z 0 (omega (arith, l, below)) ∙ m.size_is ∙ size_kept (d - 1) m.t;
        }

        pub one_sized : length sizes ≡ directories_of R → Measured (share_of R (d - 1)) (table_in sizes) (part at (count_of R (d - 1)) after) z →
            Going R from (set sizes (d - 1) z) after (at + count_of R (d - 1)) (d - 1)
        one_sized l m = record {
          low = omega (arith, below);
          at_is = at_more;
          down =
              ap (λ (v : ℕ). sizes_down R (d - 1) (set sizes (d - 1) v)) m.size_is ∙
              sym (down_given R (d - 1) sizes m.t m.told) ∙ ap (λ (n : ℕ). sizes_down R n sizes) (sym one_back) ∙ g.down;
          standing = λ x p q. elim (ℕ_discrete x (d - 1)) [
            | yes e ↦ subst (TableIn R (set sizes (d - 1) z) after) (sym e) (next_stands l m)
            | no ne ↦ let p₁ : d ≤ x = omega arith in later_stands x p₁ q (g.standing x p₁ q)
          ];
        }
