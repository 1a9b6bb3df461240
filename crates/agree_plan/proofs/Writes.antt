-- THE TABLES OF A PLAN, WRITTEN IN TURN: writing the list of a directory's entries from the sector where the one before ended answers the planned size and
-- the next start, and leaves the table's bytes. Assumes nothing.
use Prim.Native.Nat.{ℕ, suc, ◌≤◌, ◌<◌}
use native.Mathlib.Omega.{arith}
use native.Mathlib.Decide.{dec_le}
use mathlib.Core.Path.{◌≡◌, sym, ap, ◌∙◌}
use mathlib.Core.Bool.{Bool, true}
use mathlib.Core.List.{List, [], ◌++◌}
use lib.Dec.{eqb}
use lib.ListN.{length, get_or, drop, length-take, get_or-eq_default}
use borrow.Author.Tests.{le-leb}
use Rattle.units.specs.Told.{Told, gives, refuses, pick}
use Rattle.dirtab_entry.specs.Entry.{rounded, kind_for, check_of}
use Rattle.avl_model.specs.Tree.{Tree, leaf}
use Rattle.table_model.specs.Entry.{Entry, entry_for}
use Rattle.table_model.specs.Table.{Placing, place_of, table_bytes}
use Rattle.dirtab_grow.specs.Listing.{Listing, given_in}
use Rattle.dirtab_grow.specs.Grow.{order_in, grow}
use Rattle.dirtab_grow.proofs.Growth.{same_checks}
use Rattle.dirtab_list.specs.Whole.{entry_in, has_places, if_fits, if_grown, whole_of, table_for, if_written, out_after}
use Rattle.img_model.specs.Shares.{Request, Share, share_of, directories_of, first_of, count_of, part}
use Rattle.img_model.specs.Plan.{table_in, size_at, given_at, check_in, tree_in, entries_at, Plan}
use Rattle.img_model.proofs.Passed.{all_checked, passed}
use Rattle.agree_plan.specs.Planned.{tree_at, start_sector, Planned}
use Rattle.agree_plan.specs.InTurn.{SizesFor, listing_of}
use Rattle.agree_plan.proofs.Tables.{table_planned}

-- past a part of a column there is nothing
past : (f n i : ℕ) (xs : List ℕ) → n ≤ i → get_or (part f n xs) i 0 ≡ 0
past f n i xs h = get_or-eq_default (part f n xs) 0 (omega (arith, length-take n (drop f xs)))

module _ (R : Request) (places : ℕ) (tables sectors : List ℕ) (p : Plan) (g : Planned R places tables sectors p) (d : ℕ) (h : d < directories_of R) (size : List ℕ) (z : SizesFor R p d size) where
  abbrev S : Share
  S = share_of R d

  abbrev tab : ℕ → ℕ
  tab = table_in p.sizes

  abbrev L : Listing
  L = listing_of R d size

  none_past : (i : ℕ) → count_of R d ≤ i → size_at S tab i ≡ 0
  none_past i k =
      ap (λ (c : ℕ). pick (eqb c 1) (tab (get_or S.value i 0)) (get_or S.value i 0)) (past (first_of R d) (count_of R d) i R.kind k)
      ∙ past (first_of R d) (count_of R d) i R.value k

  -- the sizes are those of the plan
  size_is : (i : ℕ) → get_or size i 0 ≡ size_at S tab i
  size_is i = elim (dec_le (suc i) (count_of R d)) [
    | yes k ↦ z.each i (omega (arith, k))
    | no k ↦ get_or-eq_default size 0 (omega (arith, k, z.long)) ∙ sym (none_past i (omega (arith, k)))
  ]

  given_is : (i : ℕ) → given_in L i ≡ given_at S tab i
  given_is i = λ k. record { start = get_or S.start i 0; len = get_or S.len i 0; kind = kind_for (get_or S.kind i 0); size = size_is i k }

  entries_are : entry_in L ≡ entries_at R p.sizes d
  entries_are = λ k i. entry_for R.bytes (given_is i k)

  check_is : (i : ℕ) → i < count_of R d → check_of R.bytes (given_in L i) ≡ check_in S tab i
  check_is i k =
      ap (check_of R.bytes) (given_is i) ∙ (passed S tab (table_planned R places tables sectors p g d h).grown i k).1
      ∙ sym (all_checked S tab (table_planned R places tables sectors p g d h).grown i k)

  tree_is : grow L.bytes (given_in L) L.count ≡ gives (tree_at R p.sizes d)
  unfolding tree_in
  tree_is =
      same_checks (order_in R.bytes (given_at S tab)) (λ i. check_of R.bytes (given_in L i)) (check_in S tab) (count_of R d) 0 leaf (λ j a b. check_is j (omega arith))
      ∙ (table_planned R places tables sectors p g d h).grown

  abbrev answer : Placing
  answer = record { size = table_in p.sizes d; free = start_sector R p.sizes (suc d) }

  placed_is : (bytes : ℕ) → rounded (table_in p.sizes d) ≤ bytes → if_fits bytes (place_of (entry_in L) 1 (start_sector R p.sizes d) (tree_at R p.sizes d)) ≡ gives answer
  placed_is bytes k =
      ap (λ (f : ℕ → Entry). if_fits bytes (place_of f 1 (start_sector R p.sizes d) (tree_at R p.sizes d))) entries_are
      ∙ ap (if_fits bytes) (table_planned R places tables sectors p g d h).placed
      ∙ ap (λ (b : Bool). pick b (gives answer) (refuses 9 [])) (le-leb (rounded (table_in p.sizes d)) bytes k)

  module _ (n : ℕ) (room : has_places (listing_of R d size) n ≡ true) where
    -- THE ANSWER: the planned size, and the sector where the next directory starts
    pub table_writes : (bytes : ℕ) → rounded (table_in p.sizes d) ≤ bytes
        → whole_of (listing_of R d size) n (start_sector R p.sizes d) bytes ≡ gives (record { size = table_in p.sizes d; free = start_sector R p.sizes (suc d) })
    unfolding whole_of
    table_writes bytes k =
        ap (λ (b : Bool). pick b (if_grown (grow L.bytes (given_in L) L.count) (λ t. if_fits bytes (place_of (entry_in L) 1 (start_sector R p.sizes d) t))) (refuses 6 [])) room
        ∙ ap (λ (x : Told Tree). if_grown x (λ t. if_fits bytes (place_of (entry_in L) 1 (start_sector R p.sizes d) t))) tree_is
        ∙ placed_is bytes k

    -- THE OUTPUT: the table's bytes, and the rest as it was
    pub table_left : (out : List ℕ) → rounded (table_in p.sizes d) ≤ length out
        → out_after (listing_of R d size) n (start_sector R p.sizes d) out
        ≡ table_bytes (entries_at R p.sizes d) 1 (start_sector R p.sizes d) (tree_at R p.sizes d) ++ drop (rounded (table_in p.sizes d)) out
    unfolding out_after
    table_left out k =
        ap (λ (x : Told Placing). if_written x (table_for (grow L.bytes (given_in L) L.count) (λ t. table_bytes (entry_in L) 1 (start_sector R p.sizes d) t)) out) (table_writes (length out) k)
        ∙ ap (λ (x : Told Tree). if_written (gives answer) (table_for x (λ t. table_bytes (entry_in L) 1 (start_sector R p.sizes d) t)) out) tree_is
        ∙ ap (λ (f : ℕ → Entry). table_bytes f 1 (start_sector R p.sizes d) (tree_at R p.sizes d) ++ drop (rounded (table_in p.sizes d)) out) entries_are
