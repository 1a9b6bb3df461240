-- Left and right exchanged: the other two rotations come from the first two.
use Rattle.std.proofs.Common.{ℕ, suc, max, arith, ◌≡◌, refl, sym, ◌∙◌}
use Rattle.avl_model.specs.Tree.{Tree, leaf, node, top, ht, cnt}
use Rattle.avl_model.specs.Rep.{Arr, Rep}
use Rattle.avl_model.specs.inner.Rep.{Ctx, hole, in_l, in_r, over, cnt_k, Link, Step, RepK, At}
use Rattle.avl_model.proofs.Rotate.{Single, single, Double, double}

abbrev pub flip : Arr → Arr
flip A = record { root = A.root; L = A.R; R = A.L; P = A.P; H = A.H }

abbrev pub mir : Tree → Tree
mir leaf = leaf
mir (node l i r) = node (mir r) i (mir l)

abbrev pub mir_k : Ctx → Ctx
mir_k hole = hole
mir_k (in_l i r k) = in_r (mir r) i (mir_k k)
mir_k (in_r l i k) = in_l i (mir l) (mir_k k)

pub mir-mir : (t : Tree) → mir (mir t) ≡ t
mir-mir leaf = refl
mir-mir (node l i r) = λ d. node (mir-mir l d) i (mir-mir r d)

pub mir_k-mir_k : (k : Ctx) → mir_k (mir_k k) ≡ k
mir_k-mir_k hole = refl
mir_k-mir_k (in_l i r k) = λ d. in_l i (mir-mir r d) (mir_k-mir_k k d)
mir_k-mir_k (in_r l i k) = λ d. in_r (mir-mir l d) i (mir_k-mir_k k d)

pub ht-mir : (t : Tree) → ht (mir t) ≡ ht t
ht-mir leaf = refl
ht-mir (node l i r) = omega (arith, ht-mir l, ht-mir r)

pub top-mir : (t : Tree) → top (mir t) ≡ top t
top-mir leaf = refl
top-mir (node l i r) = refl

pub over_mir : (k : Ctx) → over (mir_k k) ≡ over k
over_mir hole = refl
over_mir (in_l i r k) = refl
over_mir (in_r l i k) = refl

pub cnt-mir : (j : ℕ) (t : Tree) → cnt j (mir t) ≡ cnt j t
cnt-mir j leaf = refl
cnt-mir j (node l i r) = omega (arith, cnt-mir j l, cnt-mir j r)

pub cnt_k_mir : (j : ℕ) (k : Ctx) → cnt_k j (mir_k k) ≡ cnt_k j k
cnt_k_mir j hole = refl
cnt_k_mir j (in_l i r k) = omega (arith, cnt-mir j r, cnt_k_mir j k)
cnt_k_mir j (in_r l i k) = omega (arith, cnt-mir j l, cnt_k_mir j k)

module _ (A : Arr) (n : ℕ) where
  pub rep_mir : (t : Tree) (p : ℕ) → Rep A n p t → Rep (flip A) n p (mir t)
  rep_mir leaf p c = tt
  rep_mir (node l i r) p c = (
    record {
      fits = c.0.fits;
      left = c.0.right ∙ sym (top-mir r);
      right = c.0.left ∙ sym (top-mir l);
      up = c.0.up;
      high = c.0.high ∙ sym (ht-mir (node l i r));
    },
    rep_mir r i c.2,
    rep_mir l i c.1,
  )

  pub link_mir : (k : Ctx) (h : ℕ) → Link A k h → Link (flip A) (mir_k k) h
  link_mir hole h c = c
  link_mir (in_l i r k) h c = c
  link_mir (in_r l i k) h c = c

  step_mir : (hh i : ℕ) (o : Tree) (k : Ctx) → Step A n hh i o k → Step (flip A) n hh i (mir o) (mir_k k)
  step_mir hh i o k c = record {
    fits = c.fits;
    up = c.up ∙ sym (over_mir k);
    high = rw ht-mir c.high;
    sib = rep_mir o i c.sib;
    link = link_mir k i c.link;
  }

  pub rep_k_mir : (k : Ctx) (hh : ℕ) → RepK A n hh k → RepK (flip A) n hh (mir_k k)
  rep_k_mir hole hh c = tt
  rep_k_mir (in_l i r k) hh c = (c.0 ∙ sym (top-mir r), step_mir hh i r k c.1, rw ht-mir (rep_k_mir k (suc (max hh (ht r))) c.2))
  rep_k_mir (in_r l i k) hh c = (c.0 ∙ sym (top-mir l), step_mir hh i l k c.1, rw ht-mir (rep_k_mir k (suc (max hh (ht l))) c.2))

  pub at_mir : (h i : ℕ) (l r : Tree) (k : Ctx) (hh : ℕ) → At A n h i l r k hh → At (flip A) n h i (mir r) (mir l) (mir_k k) hh
  at_mir h i l r k hh S = record {
    fits = S.fits;
    left = S.right ∙ sym (top-mir r);
    right = S.left ∙ sym (top-mir l);
    up = S.up ∙ sym (over_mir k);
    lrep = rep_mir r i S.rrep;
    rrep = rep_mir l i S.lrep;
    link = link_mir k h S.link;
    krep = rep_k_mir k hh S.krep;
    once = λ j. omega (arith, S.once j, cnt-mir j l, cnt-mir j r, cnt_k_mir j k);
  }

-- r_rotate: a's left child b comes above a
pub single_mir : (A B : Arr) (n a b : ℕ) (x y z : Tree) (k : Ctx) (hh : ℕ) → At A n b a (node x b y) z k hh
    → Single (flip A) (flip B) a b (mir z) (mir y) → At B n b b x (node y a z) k hh
single_mir A B n a b x y z k hh S W =
    let T : At (flip B) n b b (node (mir z) a (mir y)) (mir x) (mir_k k) hh = single (flip A) (flip B) n a b (mir z) (mir y) (mir x) (mir_k k) hh (at_mir A n b a (node x b y) z k hh S) W in
    rw (← mir-mir x, ← mir-mir y, ← mir-mir z, ← mir_k-mir_k k) (at_mir (flip B) n b b (node (mir z) a (mir y)) (mir x) (mir_k k) hh T)

-- lr_rotate: c, the right child of a's left child b, comes above both
pub double_mir : (A B : Arr) (n a b c : ℕ) (x y w z : Tree) (k : Ctx) (hh : ℕ) → At A n c a (node x b (node y c w)) z k hh
    → Double (flip A) (flip B) a b c (mir z) (mir w) (mir y) (mir x) → At B n c c (node x b y) (node w a z) k hh
double_mir A B n a b c x y w z k hh S W =
    let T : At (flip B) n c c (node (mir z) a (mir w)) (node (mir y) b (mir x)) (mir_k k) hh =
    double (flip A) (flip B) n a b c (mir z) (mir w) (mir y) (mir x) (mir_k k) hh (at_mir A n c a (node x b (node y c w)) z k hh S) W in
    rw (← mir-mir x, ← mir-mir y, ← mir-mir w, ← mir-mir z, ← mir_k-mir_k k) (at_mir (flip B) n c c (node (mir z) a (mir w)) (node (mir y) b (mir x)) (mir_k k) hh T)
