-- What is known of a directory's entries and of their sizes in a column, once their tree is told. Assumes nothing.
use Prim.Native.Nat.{ℕ, zero, suc, ◌+◌, ◌≤◌, ◌<◌}
use native.Mathlib.Omega.{arith}
use mathlib.Core.Path.{◌≡◌, sym, ap, subst, ◌∙◌}
use mathlib.Core.Bool.{Bool}
use mathlib.Core.List.{List}
use lib.ListN.{length, get_or}
use borrow.Author.Tests.{le-ltb}
use Rattle.units.specs.Told.{gives, pick}
use Rattle.dirtab_entry.specs.Entry as entries
use Rattle.avl_model.specs.Tree.{Tree}
use Rattle.avl_model.specs.Laws.{All}
use Rattle.avl_model.proofs.Avl.{all_map}
use Rattle.dirtab_place.specs.inner.Places.{Sized}
use Rattle.dirtab_place.proofs.Along.{SameSize}
use Rattle.img_model.specs.Shares.{Share}
use Rattle.img_model.specs.Plan.{size_at, entry_in, tree_in}
use Rattle.img_model.proofs.Passed.{passed, fine, numbers}
use Rattle.img_table.specs.inner.Arranging.{fitting}

-- where every size fits, there is none that does not
fit_all : (f : ℕ → ℕ) (k i : ℕ) → ((j : ℕ) → i ≤ j → j < i + k → f j ≤ 4294967295) → fitting f k i ≡ i + k
unfolding fitting
fit_all f zero i h = omega arith
fit_all f (suc k) i h =
    ap (λ (b : Bool). pick b i (fitting f k (i + 1))) (le-ltb 4294967295 (f i) (h i (omega arith) (omega arith)))
    ∙ fit_all f k (i + 1) (λ j p q. h j (omega arith) (omega arith)) ∙ omega arith

module _ (S : Share) (tab : ℕ → ℕ) {t : Tree} (told : tree_in S tab ≡ gives t) where
  -- every size is filled in
  pub all_filled : fitting (size_at S tab) S.count 0 ≡ S.count
  all_filled = fit_all (size_at S tab) S.count 0 (λ j p q. (passed S tab told j (omega arith)).0) ∙ omega arith

  -- a column with every size
  module _ (size : List ℕ) (sizes : (i : ℕ) → i < S.count → get_or size i 0 ≡ size_at S tab i) where
    pub sized_at : S.count ≤ length size → length S.kind ≡ S.count → (j : ℕ) → j < S.count → Sized size S.kind j
    sized_at p q j h = record { in_size = omega arith; in_kind = omega arith; low = λ d. subst (λ (n : ℕ). n ≤ 4294965248) (sym (sizes j h)) ((fine S tab told j h).small d) }

    pub same_at : (j : ℕ) → j < S.count → SameSize (entry_in S tab) size S.kind j
    same_at j h = ap (entries.stored_size (entries.kind_for (get_or S.kind j 0))) (sym (sizes j h))

    pub same_all : All (SameSize (entry_in S tab) size S.kind) t
    same_all = all_map (λ j. j < S.count) (SameSize (entry_in S tab) size S.kind) t same_at (numbers S tab told)
