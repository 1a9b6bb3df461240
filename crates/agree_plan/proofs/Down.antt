-- Sizing from the last directory back: each size is that of the directory's table over the sizes of all. Assumes nothing.
use Prim.Native.Nat.{ℕ, zero, suc, ◌≤◌, ◌<◌}
use native.Mathlib.Omega.{arith}
use native.Mathlib.Decide.{ℕ_discrete}
use mathlib.Core.Path.{◌≡◌, refl, sym, ap, subst, ◌∙◌}
use mathlib.Core.Bool.{true}
use mathlib.Core.List.{List}
use lib.ListN.{length, set, length-set}
use lib.Seq.{get_or-set_same}
use Rattle.units.specs.Told.{Told, gives, refuses}
use Rattle.avl_model.specs.Tree.{Tree}
use Rattle.table_model.specs.Table.{size_of}
use Rattle.img_model.specs.Shares.{Request, share_of, directories_of, value_of, is_tree}
use Rattle.img_model.specs.Plan.{table_in, entry_in, tree_in, if_grown, sizes_down}
use Rattle.img_model.proofs.Rule.{names_later_lem}
use Rattle.img_model.proofs.Trees.{tree_same, size_same}
use Rattle.img_model.proofs.Sizes.{later_kept}

-- a directory's tree was there, and what follows gives
pub tree_there : {A : Type 0} (R : Request) (d : ℕ) (g : Told Tree) (next : Tree → Told A) (y : A) → if_grown R d g next ≡ gives y → (t : Tree) × ((g ≡ gives t) × (next t ≡ gives y))
tree_there R d (gives t) next y e = (t, (refl, e))
tree_there R d (refuses k vs) next y e = let z : ◌≡◌ {A = ℕ} 0 1 = cc in absurd (omega arith)

-- the size of directory d's table
pub record SizedAt (R : Request) (s : List ℕ) (d : ℕ) : Type 0 where
  pub t : Tree
  pub told : tree_in (share_of R d) (table_in s) ≡ gives t
  pub size_is : table_in s d ≡ size_of (entry_in (share_of R d) (table_in s)) t

module _ (R : Request) (tree : is_tree R ≡ true) where
  abbrev sized : ℕ → List ℕ → Tree → List ℕ
  sized n sizes t = set sizes n (size_of (entry_in (share_of R n) (table_in sizes)) t)

  step : (n : ℕ) (sizes s : List ℕ) → sizes_down R (suc n) sizes ≡ gives s
      → (t : Tree) × ((tree_in (share_of R n) (table_in sizes) ≡ gives t) × (sizes_down R n (sized n sizes t) ≡ gives s))
  unfolding sizes_down
  step n sizes s e = tree_there R n (tree_in (share_of R n) (table_in sizes)) (λ t. sizes_down R n (sized n sizes t)) s e

  ends : (sizes s : List ℕ) → sizes_down R zero sizes ≡ gives s → sizes ≡ s
  unfolding sizes_down
  ends sizes s e = cc

  -- the sizes of the directories from n on stay
  pub down_kept : (n : ℕ) (sizes s : List ℕ) → sizes_down R n sizes ≡ gives s → (x : ℕ) → n ≤ x → table_in s x ≡ table_in sizes x
  down_kept zero sizes s e x h = ap (λ (z : List ℕ). table_in z x) (sym (ends sizes s e))
  down_kept (suc n) sizes s e x h =
      let u = step n sizes s e in
      down_kept n (sized n sizes u.0) s u.1.1 x (omega arith) ∙ later_kept sizes n _ x (omega arith)

  -- those before n are their tables'
  pub down_sized : (n : ℕ) (sizes s : List ℕ) → n ≤ length sizes → n ≤ directories_of R → sizes_down R n sizes ≡ gives s → (d : ℕ) → d < n → SizedAt R s d
  down_sized zero sizes s l g e d h = absurd (omega arith)
  down_sized (suc n) sizes s l g e d h =
      let u = step n sizes s e in
      let t : Tree = u.0 in
      let z : ℕ = size_of (entry_in (share_of R n) (table_in sizes)) t in
      elim (ℕ_discrete n d) [
        | no q ↦ down_sized n (sized n sizes t) s (subst (λ (m : ℕ). n ≤ m) (sym (length-set sizes n z)) (omega arith)) (omega arith) u.1.1 d (omega (arith, q))
        | yes q ↦ subst (SizedAt R s) q (record {
          t = t;
          told = tree_same (share_of R n) (table_in s) (table_in sizes)
              (λ i k b. let later : n < value_of (share_of R n) i = names_later_lem R tree n (omega arith) i k b in
              down_kept n (sized n sizes t) s u.1.1 (value_of (share_of R n) i) (omega arith) ∙ later_kept sizes n z (value_of (share_of R n) i) later) ∙ u.1.0;
          size_is = down_kept n (sized n sizes t) s u.1.1 n (omega arith) ∙ get_or-set_same sizes n z 0 (omega arith) ∙ size_same (share_of R n) (table_in sizes) (table_in s) t;
        })
      ]
