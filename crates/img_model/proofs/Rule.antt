-- What the rule of a tree of directories says of each directory. Assumes nothing.
use Prim.Native.Nat.{ℕ, zero, suc, ◌+◌, ◌≤◌, ◌<◌}
use native.Mathlib.Omega.{arith}
use native.Mathlib.Decide.{ℕ_discrete}
use mathlib.Core.Path.{◌≡◌, refl, sym, ap, subst, ◌∙◌}
use mathlib.Core.Bool.{Bool, true, false, ◌&&◌}
use lib.Dec.{ltb, leb, eqb}
use borrow.Author.Tests.{ltb-true, leb-true, eqb-true, ne_eqb}
use Rattle.units.specs.Told.{pick}
use Rattle.avl_arena.specs.Test.{every}
use Rattle.avl_arena.proofs.Tested.{and_l, and_r, every_at}
use Rattle.img_model.specs.Shares.{Request, directories_of, entries_of, first_of, count_of, share_of, is_directory, value_of, names, namings, names_later, is_share, named_once, is_tree}
use Rattle.img_model.proofs.Every.{tally_none}

-- more directories name a directory no less often
pub namings_grow : (R : Request) (x d n : ℕ) → d ≤ n → namings R x d ≤ namings R x n
namings_grow R x d zero h = let z : d ≡ 0 = omega arith in subst (λ (v : ℕ). namings R x v ≤ namings R x 0) (sym z) (omega arith)
namings_grow R x d (suc n) h = elim (ℕ_discrete d (suc n)) [
  | yes q ↦ subst (λ (v : ℕ). namings R x v ≤ namings R x (suc n)) (sym q) (omega arith)
  | no ne ↦ omega (arith, namings_grow R x d n (omega arith))
]

-- an entry that names a later directory, or none, does not name the root
not_root : (b : Bool) (v d : ℕ) → (b ≡ true → d < v) → (b && eqb v 0) ≡ false
not_root true v d h = ne_eqb v 0 (λ e. omega (arith, h refl))
not_root false v d h = refl

module _ (R : Request) (p : is_tree R ≡ true) where
  -- there is a root
  pub some_directory : 0 < directories_of R
  unfolding is_tree
  some_directory = ltb-true 0 (directories_of R) (and_l _ _ p)

  after_some : (every (is_share R) (directories_of R) && every (named_once R) (directories_of R)) ≡ true
  unfolding is_tree
  after_some = and_r (ltb 0 (directories_of R)) _ p

  share_passed : (d : ℕ) → d < directories_of R → is_share R d ≡ true
  share_passed d h = every_at (is_share R) (directories_of R) (and_l _ _ after_some) d h

  -- a share lies in the list of entries
  pub share_inside : (d : ℕ) → d < directories_of R → first_of R d + count_of R d ≤ entries_of R
  share_inside d h = leb-true (first_of R d + count_of R d) (entries_of R) (and_l _ _ (share_passed d h))

  -- the directories of a share are later ones
  pub all_later : (d : ℕ) → d < directories_of R → every (names_later (share_of R d) (directories_of R) d) (count_of R d) ≡ true
  all_later d h = and_r (leb (first_of R d + count_of R d) (entries_of R)) _ (share_passed d h)

  later_passed : (d : ℕ) → d < directories_of R → (i : ℕ) → i < count_of R d → is_directory (share_of R d) i ≡ true →
      (ltb d (value_of (share_of R d) i) && ltb (value_of (share_of R d) i) (directories_of R)) ≡ true
  later_passed d h i k e =
      sym (ap (λ (b : Bool). pick b (ltb d (value_of (share_of R d) i) && ltb (value_of (share_of R d) i) (directories_of R)) true) e) ∙
      every_at (names_later (share_of R d) (directories_of R) d) (count_of R d) (all_later d h) i k

  -- an entry that is a directory names a later one
  pub names_later_lem : (d : ℕ) → d < directories_of R → (i : ℕ) → i < count_of R d → is_directory (share_of R d) i ≡ true → d < value_of (share_of R d) i
  names_later_lem d h i k e = ltb-true d (value_of (share_of R d) i) (and_l _ _ (later_passed d h i k e))

  -- and one that there is
  pub names_one : (d : ℕ) → d < directories_of R → (i : ℕ) → i < count_of R d → is_directory (share_of R d) i ≡ true → value_of (share_of R d) i < directories_of R
  names_one d h i k e = ltb-true (value_of (share_of R d) i) (directories_of R) (and_r (ltb d (value_of (share_of R d) i)) _ (later_passed d h i k e))

  -- each directory but the root is named exactly once
  pub named_once_lem : (x : ℕ) → 0 < x → x < directories_of R → namings R x (directories_of R) ≡ 1
  named_once_lem x g h =
      eqb-true (namings R x (directories_of R)) 1
      (sym (ap (λ (b : Bool). pick b true (eqb (namings R x (directories_of R)) 1)) (ne_eqb x 0 (λ q. omega arith))) ∙
      every_at (named_once R) (directories_of R) (and_r (every (is_share R) (directories_of R)) _ after_some) x h)

  -- and the root never
  pub root_unnamed : (n : ℕ) → n ≤ directories_of R → namings R 0 n ≡ 0
  root_unnamed zero h = refl
  root_unnamed (suc n) h =
      omega (
        arith,
        root_unnamed n (omega arith),
        tally_none (names (share_of R n) 0) (count_of R n) (λ i k. not_root (is_directory (share_of R n) i) (value_of (share_of R n) i) n (λ e. names_later_lem n (omega arith) i k e)),
      )

  -- so no directory is named twice
  pub named_at_most_once : (x n : ℕ) → x < directories_of R → n ≤ directories_of R → namings R x n ≤ 1
  named_at_most_once x n g h = elim (ℕ_discrete x 0) [
    | yes q ↦ subst (λ (y : ℕ). namings R y n ≤ 1) (sym q) (omega (arith, root_unnamed n h))
    | no ne ↦ omega (arith, namings_grow R x n (directories_of R) h, named_once_lem x (omega arith) g)
  ]
