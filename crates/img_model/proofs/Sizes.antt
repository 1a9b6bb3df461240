-- One directory more is sized, or refused. Assumes nothing.
use Prim.Native.Nat.{ℕ, suc, ◌+◌, ◌<◌}
use native.Mathlib.Omega.{arith}
use mathlib.Core.Path.{◌≡◌, ap}
use mathlib.Core.List.{List, [], ◌∷◌}
use lib.ListN.{set}
use lib.Seq.{get_or-set_other}
use Rattle.units.specs.Told.{Told, gives, refuses}
use Rattle.avl_model.specs.Tree.{Tree}
use Rattle.table_model.specs.Table.{size_of}
use Rattle.img_model.specs.Shares.{Request, share_of, first_of}
use Rattle.img_model.specs.Plan.{table_in, entry_in, tree_in, if_grown, sizes_down}

-- a size that is stored leaves those of the later directories
pub later_kept : (sizes : List ℕ) (n z x : ℕ) → n < x → table_in (set sizes n z) x ≡ table_in sizes x
later_kept sizes n z x h = get_or-set_other sizes n x z 0 (λ e. omega arith)

module _ (R : Request) (n : ℕ) (sizes : List ℕ) where
  -- what follows the tree of directory n
  unfoldable after_grown : Tree → Told (List ℕ)
  after_grown t = sizes_down R n (set sizes n (size_of (entry_in (share_of R n) (table_in sizes)) t))

  pub down_given : (t : Tree) → tree_in (share_of R n) (table_in sizes) ≡ gives t →
      sizes_down R (suc n) sizes ≡ sizes_down R n (set sizes n (size_of (entry_in (share_of R n) (table_in sizes)) t))
  unfolding sizes_down after_grown
  down_given t e = ap (λ (g : Told Tree). if_grown R n g after_grown) e

  pub down_refused : (k i : ℕ) → tree_in (share_of R n) (table_in sizes) ≡ refuses k (i ∷ []) → sizes_down R (suc n) sizes ≡ refuses k ((first_of R n + i) ∷ [])
  unfolding sizes_down after_grown
  down_refused k i e = ap (λ (g : Told Tree). if_grown R n g after_grown) e
