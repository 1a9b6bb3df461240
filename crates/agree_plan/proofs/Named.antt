-- No two entries of a tree of directories name the same one. Assumes nothing.
use Prim.Native.Nat.{ℕ, suc, ◌+◌, ◌≤◌, ◌<◌}
use native.Mathlib.Omega.{arith}
use native.Mathlib.Decide.{dec_le, ℕ_discrete}
use mathlib.Core.Path.{◌≡◌, subst}
use mathlib.Core.Bool.{Bool, true}
use borrow.Author.Tests.{eq-eqb}
use Rattle.avl_arena.proofs.Tested.{and_both}
use Rattle.img_model.specs.Shares.{Request, directories_of, count_of, share_of, is_directory, value_of, tally, names, is_tree}
use Rattle.img_model.proofs.Every.{tally_hit, tally_grows}
use Rattle.img_model.proofs.Rule.{namings_grow, names_one, named_at_most_once}

tally_one : (f : ℕ → Bool) (i m : ℕ) → f i ≡ true → i < m → 1 ≤ tally f m
tally_one f i m e h = omega (arith, tally_hit f i e, tally_grows f (i + 1) m (omega arith))

tally_two : (f : ℕ → Bool) (i j m : ℕ) → f i ≡ true → f j ≡ true → i < j → j < m → 2 ≤ tally f m
tally_two f i j m e g h k =
    omega (arith, tally_hit f i e, tally_grows f (i + 1) j (omega arith), tally_hit f j g, tally_grows f (j + 1) m (omega arith))

module _ (R : Request) (tree : is_tree R ≡ true) where
  -- the i-th entry of directory d names directory x
  record Names (x d i : ℕ) : Type 0 where
    dir : d < directories_of R
    num : i < count_of R d
    kind : is_directory (share_of R d) i ≡ true
    value : value_of (share_of R d) i ≡ x

  does : (x d i : ℕ) → Names x d i → names (share_of R d) x i ≡ true
  does x d i n = and_both n.kind (eq-eqb (value_of (share_of R d) i) x n.value)

  known : (x d i : ℕ) → Names x d i → x < directories_of R
  known x d i n = subst (λ (m : ℕ). m < directories_of R) n.value (names_one R tree d n.dir i n.num n.kind)

  one_dir : (x d i : ℕ) → Names x d i → 1 ≤ tally (names (share_of R d) x) (count_of R d)
  one_dir x d i n = tally_one (names (share_of R d) x) i (count_of R d) (does x d i n) n.num

  not_earlier : (x d e i j : ℕ) → Names x d i → Names x e j → d < e → ⊥
  not_earlier x d e i j n m h =
      omega (arith, one_dir x d i n, one_dir x e j m, namings_grow R x (suc d) e (omega arith), named_at_most_once R tree x (suc e) (known x d i n) m.dir)

  same_dir : (x d i j : ℕ) → Names x d i → Names x d j → i < j → ⊥
  same_dir x d i j n m h =
      omega (arith, tally_two (names (share_of R d) x) i j (count_of R d) (does x d i n) (does x d j m) h m.num, named_at_most_once R tree x (suc d) (known x d i n) n.dir)

  -- so they are of one directory, and the same
  pub one_namer : (x d e i j : ℕ) → d < directories_of R → i < count_of R d → is_directory (share_of R d) i ≡ true → value_of (share_of R d) i ≡ x
      → e < directories_of R → j < count_of R e → is_directory (share_of R e) j ≡ true → value_of (share_of R e) j ≡ x → d ≡ e
  one_namer x d e i j hd hi bi vi he hj bj vj =
      let n : Names x d i = record { dir = hd; num = hi; kind = bi; value = vi } in
      let m : Names x e j = record { dir = he; num = hj; kind = bj; value = vj } in
      elim (dec_le d e) [
        | yes l ↦ elim (ℕ_discrete d e) [ yes q ↦ q | no q ↦ absurd (not_earlier x d e i j n m (omega (arith, q))) ]
        | no l ↦ absurd (not_earlier x e d j i m n (omega (arith, l)))
      ]

  pub one_naming : (x d i j : ℕ) → d < directories_of R → i < count_of R d → is_directory (share_of R d) i ≡ true → value_of (share_of R d) i ≡ x
      → j < count_of R d → is_directory (share_of R d) j ≡ true → value_of (share_of R d) j ≡ x → i ≡ j
  one_naming x d i j hd hi bi vi hj bj vj =
      let n : Names x d i = record { dir = hd; num = hi; kind = bi; value = vi } in
      let m : Names x d j = record { dir = hd; num = hj; kind = bj; value = vj } in
      elim (dec_le i j) [
        | yes l ↦ elim (ℕ_discrete i j) [ yes q ↦ q | no q ↦ absurd (same_dir x d i j n m (omega (arith, q))) ]
        | no l ↦ absurd (same_dir x d j i m n (omega (arith, l)))
      ]
