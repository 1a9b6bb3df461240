-- The functional rotations are what the array rotations make, on both sides.
use Rattle.std.proofs.Common.{ℕ, ◌≤◌, ◌<◌, arith, ◌≡◌, refl, sym, ap, subst, ◌∙◌, Bool, true, false, get_or, length-set, ltb, lt-ltb, le-ltb}
use Rattle.avl_model.specs.Lists.{Lists}
use Rattle.avl_model.specs.inner.Lists.{l_rotated, rl_rotated}
use Rattle.avl_model.specs.Tree.{Tree, leaf, node, none, top, ht, turn_left, turn_left_by, turn_right, turn_right_by}
use Rattle.avl_model.specs.Rep.{Arr}
use Rattle.avl_model.specs.inner.Rep.{Ctx, over, At}
use Rattle.avl_model.specs.Rep.{arr_of}
use Rattle.avl_model.specs.inner.Held.{Long, Held, Up}
use Rattle.avl_model.proofs.Stores.{Turned, l_turns, rl_turns, put_left_length, put_right_length}
use Rattle.avl_model.proofs.Mirror.{flip, mir, mir_k, mir-mir, mir_k-mir_k, ht-mir, top-mir, over_mir, cnt-mir, cnt_k_mir, rep_mir, link_mir, rep_k_mir}

pub held : (A : Arr) (n i : ℕ) (l r : Tree) (k : Ctx) (hh : ℕ) → Turned A n i l r k hh → Held A n (node l i r) k hh
held A n i l r k hh T = record {
  link = T.0.link;
  rep = (record { fits = T.0.fits; left = T.0.left; right = T.0.right; up = T.0.up; high = T.1 }, T.0.lrep, T.0.rrep);
  krep = T.0.krep;
  once = T.0.once;
}

pub long_l : (n : ℕ) (S : Lists) (a b c : ℕ) → Long n S → Long n (l_rotated S a b c)
unfolding l_rotated
long_l n S a b c W = record {
  l = simp (length-set, put_left_length) W.l;
  r = simp (length-set, put_right_length) W.r;
  p = simp length-set W.p;
  h = simp length-set W.h;
}

pub long_rl : (n : ℕ) (S : Lists) (a b c : ℕ) → Long n S → Long n (rl_rotated S a b c)
unfolding rl_rotated
long_rl n S a b c W = record {
  l = simp (length-set, put_left_length) W.l;
  r = simp (length-set, put_right_length) W.r;
  p = simp length-set W.p;
  h = simp length-set W.h;
}

module _ (S : Lists) (n a b : ℕ) (x z : Tree) (k : Ctx) (hh : ℕ) (W : Long n S) (small : n ≤ none) where
  -- b's left child is the higher: c, its root, comes up
  pub by_double : (y : Tree) → At (arr_of S) n a a x (node y b z) k hh → ht z < ht y
      → Up (rl_rotated S a b (get_or S.L b 0)) n (get_or S.L b 0) (turn_left x a (node y b z)) k hh
  by_double leaf T h = absurd (omega arith)
  by_double (node u c v) T h =
      subst (λ (e : ℕ). Up (rl_rotated S a b e) n e (turn_left x a (node (node u c v) b z)) k hh) (sym T.rrep.0.left)
      (rw (lt-ltb (ht z) (ht (node u c v)) h) (record {
        long = long_rl n S a b c W;
        held = held (arr_of (rl_rotated S a b c)) n c (node x a u) (node v b z) k hh (rl_turns S n a b c x u v z k hh W small T);
        root = refl;
      }))

  -- else b comes up
  pub by_single : (y : Tree) → At (arr_of S) n a a x (node y b z) k hh → ht y ≤ ht z
      → Up (l_rotated S a b (get_or S.R b 0)) n b (turn_left x a (node y b z)) k hh
  by_single y T h =
      subst (λ (e : ℕ). Up (l_rotated S a b e) n b (turn_left x a (node y b z)) k hh) (sym T.rrep.0.right)
      (rw (le-ltb (ht z) (ht y) h) (record {
        long = long_l n S a b (top z) W;
        held = held (arr_of (l_rotated S a b (top z))) n b (node x a y) z k hh (l_turns S n a b x y z k hh W small T);
        root = refl;
      }))

-- the other side
pub held_mir : (A : Arr) (n : ℕ) (s : Tree) (k : Ctx) (hh : ℕ) → Held A n s k hh → Held (flip A) n (mir s) (mir_k k) hh
held_mir A n s k hh H = record {
  link = rw top-mir (link_mir A n k (top s) H.link);
  rep = rw over_mir (rep_mir A n s (over k) H.rep);
  krep = rep_k_mir A n k hh H.krep;
  once = λ j. omega (arith, H.once j, cnt-mir j s, cnt_k_mir j k);
}

pub held_unmir : (A : Arr) (n : ℕ) (s : Tree) (k : Ctx) (hh : ℕ) → Held (flip A) n (mir s) (mir_k k) hh → Held A n s k hh
held_unmir A n s k hh H = rw (← mir-mir s, ← mir_k-mir_k k) (held_mir (flip A) n (mir s) (mir_k k) hh H)

turn_mir_by : (t : Bool) (x : Tree) (b : ℕ) (y : Tree) (a : ℕ) (z : Tree) → turn_left_by t (mir z) a (mir y) b (mir x) ≡ mir (turn_right_by t x b y a z)
turn_mir_by false x b y a z = refl
turn_mir_by true x b leaf a z = refl
turn_mir_by true x b (node u c v) a z = refl

pub turn_mir : (l : Tree) (a : ℕ) (r : Tree) → turn_left (mir r) a (mir l) ≡ mir (turn_right l a r)
turn_mir leaf a r = refl
turn_mir (node x b y) a z = ap (λ (t : Bool). turn_left_by t (mir z) a (mir y) b (mir x)) (λ i. ltb (ht-mir x i) (ht-mir y i)) ∙ turn_mir_by (ltb (ht x) (ht y)) x b y a z
