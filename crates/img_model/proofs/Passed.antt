-- What is known of a directory's entries once their tree is told: each passed what is asked of it, and the tree has their numbers. Assumes nothing.
use Prim.Native.Nat.{ℕ, ◌+◌, ◌≤◌, ◌<◌}
use native.Mathlib.Omega.{arith}
use mathlib.Core.Path.{◌≡◌, refl}
use mathlib.Core.Bool.{Bool, true, false}
use mathlib.Core.List.{[]}
use lib.Dec.{ltb}
use lib.ListN.{get_or}
use borrow.Author.Tests.{ltb-false}
use Rattle.units.specs.Told.{Told, gives, refuses, pick}
use Rattle.dirtab_entry.specs.Entry as entries
use Rattle.dirtab_entry.proofs.Stored.{stored_low}
use Rattle.dirtab_arena.proofs.Fine.{Fine, fine_of, name_short}
use Rattle.avl_model.specs.Tree.{Tree, leaf}
use Rattle.avl_model.specs.Laws.{All}
use Rattle.avl_model.proofs.Avl.{all_map}
use Rattle.table_model.specs.Said.{Fits}
use Rattle.table_model.proofs.Places.{FitsAt}
use Rattle.dirtab_grow.specs.Grow.{order_in}
use Rattle.dirtab_grow.proofs.Growth.{all_passed, few_grown, below_grown}
use Rattle.img_model.specs.Shares.{Share}
use Rattle.img_model.specs.Plan.{size_at, given_at, entry_in, check_in, tree_in}

-- an entry that passes is of four bytes' size, and has passed what adding asks
passes : (n : ℕ) (b : Bool) (x : Told (Unit {0})) → ltb 4294967295 n ≡ b → pick b (refuses 10 []) x ≡ gives tt → (n ≤ 4294967295) × (x ≡ gives tt)
passes n true x q e = let z : ◌≡◌ {A = ℕ} 0 1 = cc in absurd (omega arith)
passes n false x q e = (ltb-false _ _ q, e)

pub one_passed : (S : Share) (tab : ℕ → ℕ) (j : ℕ) → check_in S tab j ≡ gives tt → (size_at S tab j ≤ 4294967295) × (entries.check_of S.bytes (given_at S tab j) ≡ gives tt)
one_passed S tab j e = passes (size_at S tab j) (ltb 4294967295 (size_at S tab j)) _ refl e

module _ (S : Share) (tab : ℕ → ℕ) {t : Tree} (told : tree_in S tab ≡ gives t) where
  pub all_checked : (j : ℕ) → j < S.count → check_in S tab j ≡ gives tt
  unfolding tree_in
  all_checked j h = all_passed (order_in S.bytes (given_at S tab)) (check_in S tab) S.count 0 leaf told j (omega arith) (omega arith)

  pub passed : (j : ℕ) → j < S.count → (size_at S tab j ≤ 4294967295) × (entries.check_of S.bytes (given_at S tab j) ≡ gives tt)
  passed j h = one_passed S tab j (all_checked j h)

  pub fine : (j : ℕ) → j < S.count → Fine S.bytes (given_at S tab j)
  fine j h = fine_of S.bytes (given_at S tab j) (passed j h).1

  -- there are not more than 16,384 of them
  pub count_few : S.count ≤ 16384
  unfolding tree_in
  count_few = omega (arith, few_grown (order_in S.bytes (given_at S tab)) (check_in S tab) S.count 0 leaf (omega arith) told)

  pub numbers : All (λ j. j < S.count) t
  unfolding tree_in
  numbers = all_map (λ j. j < 0 + S.count) (λ j. j < S.count) t (λ j h. omega arith) (below_grown (order_in S.bytes (given_at S tab)) (check_in S tab) S.count 0 leaf tt told)

  fits : (j : ℕ) → j < S.count → Fits (entry_in S tab j)
  fits j h =
      let f = fine j h in
      record {
        short = name_short S.bytes (given_at S tab j) (passed j h).1;
        small = stored_low (entries.kind_for (get_or S.kind j 0)) (size_at S tab j) (passed j h).0 f.small;
      }

  pub all_fit : All (FitsAt (entry_in S tab)) t
  all_fit = all_map (λ j. j < S.count) (FitsAt (entry_in S tab)) t fits numbers
