-- From the lists that a rotation leaves to the rotated tree: what stands at each index after the stores, as `Single` and `Double` ask it.
use Rattle.std.proofs.Common.{ℕ, suc, ◌+◌, ◌≤◌, ◌<◌, max, arith, ◌≡◌, refl, sym, ap, subst, ◌∙◌, List, length, get_or, set, length-set, get_or-set_same, get_or-set_other}
use Rattle.std.proofs.Math.ListN.{get_or-eq_default}
use Rattle.std.proofs.Math.Seq.{set_out, set-get_or}
use Rattle.avl_model.specs.Lists.{Lists}
use Rattle.avl_model.specs.inner.Lists.{risen, risen3, place_of, put_root, put_left, put_right, l_rotated, rl_rotated}
use Rattle.avl_model.specs.declared.Place.{Place}
use Rattle.avl_model.specs.declared.Place.TheVariants.{Root, Left, Right}
use Rattle.avl_model.specs.Tree.{Tree, leaf, node, none, top, ht, δ, cnt}
use Rattle.avl_model.specs.Rep.{Arr, arr, Rep}
use Rattle.avl_model.specs.inner.Rep.{Ctx, cnt_k, At}
use Rattle.avl_model.specs.Rep.{arr_of}
use Rattle.avl_model.specs.inner.Held.{Long}
use Rattle.avl_model.proofs.Frame.{δ-same, apart}
use Rattle.avl_model.proofs.Rotate.{Single, single, Double, double}
use Rattle.avl_model.proofs.Hung.{top_apart, hung}

-- the height that is held for a subtree's root, and 0 for none
pub height_read : (A : Arr) (h : List ℕ) (n p : ℕ) (t : Tree) → ((j : ℕ) → A.H j ≡ get_or h j 0) → length h ≡ n → n ≤ none → Rep A n p t → get_or h (top t) 0 ≡ ht t
height_read A h n p leaf e hn small c = get_or-eq_default h 0 (omega arith)
height_read A h n p (node l i r) e hn small c = sym (e i) ∙ c.0.high

pub top_fits : (A : Arr) (n p : ℕ) (t : Tree) → Rep A n p t → 1 ≤ cnt (top t) t → top t < n
top_fits A n p leaf c m = absurd (omega arith)
top_fits A n p (node l i r) c m = c.0.fits

-- a store at a subtree's root changes nothing elsewhere, and nothing at all where there is no subtree
else_top : (p : List ℕ) (t : Tree) (v j : ℕ) → length p ≤ none → (1 ≤ cnt j t → j ≡ top t → ⊥) → get_or (set p (top t) v) j 0 ≡ get_or p j 0
else_top p leaf v j small ne = ap (λ (q : List ℕ). get_or q j 0) (set_out p none v small)
else_top p (node l i r) v j small ne = get_or-set_other p i j v 0 (λ e.
    let d : δ i j ≡ 1 = subst (λ (u : ℕ). δ u j ≡ 1) e (δ-same j) in
    ne (omega arith) e)

-- the height of a node made anew from children that hold theirs
pub risen_same : (l r h : List ℕ) (i : ℕ) (x y : ℕ) → i < length h → get_or h (get_or l i 0) 0 ≡ x → get_or h (get_or r i 0) 0 ≡ y → get_or (risen l r h i) i 0 ≡ suc (max x y)
risen_same l r h i x y f u v = get_or-set_same h i (max (get_or h (get_or l i 0) 0) (get_or h (get_or r i 0) 0) + 1) 0 f ∙ omega arith

-- a height that is right stays
risen_kept : (l r h : List ℕ) (i : ℕ) → max (get_or h (get_or l i 0) 0) (get_or h (get_or r i 0) 0) + 1 ≡ get_or h i 0 → risen l r h i ≡ h
risen_kept l r h i e = ap (λ (v : ℕ). set h i v) e ∙ set-get_or h i 0

-- i over l and r in the hole of k, with its own height
abbrev pub Turned : Arr → ℕ → ℕ → Tree → Tree → Ctx → ℕ → Type 0
Turned A n i l r k hh = At A n i i l r k hh × (A.H i ≡ suc (max (ht l) (ht r)))

module _ (t : ℕ) (l r p h : List ℕ) (n a b : ℕ) (x y z : Tree) (k : Ctx) (hh : ℕ)
    (ln : length l ≡ n) (rn : length r ≡ n) (pn : length p ≡ n) (hn : length h ≡ n) (small : n ≤ none)
    (S : At (arr t l r p h) n b a x (node y b z) k hh) where
  abbrev A : Arr
  A = arr t l r p h

  abbrev l' : List ℕ
  l' = set l b a

  abbrev r' : List ℕ
  r' = set r a (top y)

  abbrev p' : List ℕ
  p' = set (set (set p b (get_or p a 0)) (top y) a) a b

  abbrev B : ℕ → Arr
  B c = arr t l' r' p' (risen3 l' r' h a c b)

  fa : a < n
  fa = S.fits

  fb : b < n
  fb = S.rrep.0.fits

  oa : cnt_k a k + (cnt a x + (1 + (cnt a y + (δ b a + cnt a z)))) ≤ 1
  oa = omega (arith, S.once a, δ-same a)

  ob : cnt_k b k + (cnt b x + (δ a b + (cnt b y + (1 + cnt b z)))) ≤ 1
  ob = omega (arith, S.once b, δ-same b)

  a≢b : a ≡ b → ⊥
  a≢b = apart (λ v. δ a v) (omega (arith, δ-same a)) (omega (arith, ob))

  b≢a : b ≡ a → ⊥
  b≢a e = a≢b (sym e)

  left_a : get_or l' a 0 ≡ top x
  left_a = get_or-set_other l b a a 0 a≢b ∙ S.left

  right_a : get_or r' a 0 ≡ top y
  right_a = get_or-set_same r a (top y) 0 (omega (arith, fa))

  -- c is the root of z, whose height is right before and after
  c_kept : (q : Tree) → Rep A n b q → cnt a q ≡ 0 → cnt b q ≡ 0 → ((j : ℕ) → cnt j q ≤ 1) → risen l' r' (risen l' r' h a) (top q) ≡ risen l' r' h a
  c_kept leaf c za zb o = set_out (risen l' r' h a) none _ (simp length-set (omega arith))
  c_kept (node u i w) c za zb o =
      let v : ℕ = max (get_or h (get_or l' a 0) 0) (get_or h (get_or r' a 0) 0) + 1 in
      let ia : i ≡ a → ⊥ = λ e. let d : δ i a ≡ 1 = subst (λ (g : ℕ). δ g a ≡ 1) (sym e) (δ-same a) in omega arith in
      let ib : i ≡ b → ⊥ = λ e. let d : δ i b ≡ 1 = subst (λ (g : ℕ). δ g b ≡ 1) (sym e) (δ-same b) in omega arith in
      let hu : get_or (set h a v) (get_or l' i 0) 0 ≡ ht u =
      ap (λ (g : ℕ). get_or (set h a v) g 0) (get_or-set_other l b i a 0 ib ∙ c.0.left)
      ∙ get_or-set_other h a (top u) v 0 (top_apart u a (omega (arith, fa)) (omega arith)) ∙ height_read A h n i u (λ j. refl) hn small c.1 in
      let hw : get_or (set h a v) (get_or r' i 0) 0 ≡ ht w =
      ap (λ (g : ℕ). get_or (set h a v) g 0) (get_or-set_other r a i (top y) 0 ia ∙ c.0.right)
      ∙ get_or-set_other h a (top w) v 0 (top_apart w a (omega (arith, fa)) (omega arith)) ∙ height_read A h n i w (λ j. refl) hn small c.2 in
      let hi : get_or (set h a v) i 0 ≡ suc (max (ht u) (ht w)) = get_or-set_other h a i v 0 ia ∙ c.0.high in
      risen_kept l' r' (set h a v) i (omega arith)

  stores : Single A (B (top z)) a b x y
  stores =
      let p1 : List ℕ = set p b (get_or p a 0) in
      let p2 : List ℕ = set p1 (top y) a in
      let n1 : length p1 ≡ n = simp length-set pn in
      let n2 : length p2 ≡ n = simp length-set pn in
      let h1 : List ℕ = risen l' r' h a in
      let m1 : length h1 ≡ n = simp length-set hn in
      let kept : risen l' r' (risen l' r' h a) (top z) ≡ risen l' r' h a = c_kept z S.rrep.2 (omega (arith, oa)) (omega (arith, ob)) (λ j. omega (arith, S.once j)) in
      let at_h : (j : ℕ) → get_or (risen3 l' r' h a (top z) b) j 0 ≡ get_or (risen l' r' h1 b) j 0 = λ j. ap (λ (q : List ℕ). get_or (risen l' r' q b) j 0) kept in
      let vb : ℕ = max (get_or h1 (get_or l' b 0) 0) (get_or h1 (get_or r' b 0) 0) + 1 in
      let va : ℕ = max (get_or h (get_or l' a 0) 0) (get_or h (get_or r' a 0) 0) + 1 in
      record {
        root = refl;
        Lb = get_or-set_same l b a 0 (omega (arith, fb));
        L-else = λ j nb. get_or-set_other l b j a 0 nb;
        Ra = right_a;
        R-else = λ j na. get_or-set_other r a j (top y) 0 na;
        Pa = get_or-set_same p2 a b 0 (omega (arith, fa));
        Pb = get_or-set_other p2 a b b 0 b≢a ∙ get_or-set_other p1 (top y) b a 0 (λ e. top_apart y b (omega (arith, fb)) (omega (arith, ob)) (sym e)) ∙ get_or-set_same p b (get_or p a 0) 0 (omega (arith, fb));
        Py = λ m. get_or-set_other p2 a (top y) b 0 (top_apart y a (omega (arith, fa)) (omega (arith, oa))) ∙ get_or-set_same p1 (top y) a 0 (omega (arith, top_fits A n b y S.rrep.1 m));
        P-else = λ j na nb ny. get_or-set_other p2 a j b 0 na ∙ else_top p1 y a j (omega arith) ny ∙ get_or-set_other p b j (get_or p a 0) 0 nb;
        Ha = at_h a ∙ get_or-set_other h1 b a vb 0 a≢b ∙ risen_same l' r' h a (ht x) (ht y) (omega (arith, fa))
            (ap (λ (g : ℕ). get_or h g 0) left_a ∙ height_read A h n a x (λ j. refl) hn small S.lrep)
            (ap (λ (g : ℕ). get_or h g 0) right_a ∙ height_read A h n b y (λ j. refl) hn small S.rrep.1);
        H-else = λ j na nb. at_h j ∙ get_or-set_other h1 b j vb 0 nb ∙ get_or-set_other h a j va 0 na;
      }

  -- b's own height, made last
  b_high : get_or (risen3 l' r' h a (top z) b) b 0 ≡ suc (max (suc (max (ht x) (ht y))) (ht z))
  b_high =
      let h1 : List ℕ = risen l' r' h a in
      let va : ℕ = max (get_or h (get_or l' a 0) 0) (get_or h (get_or r' a 0) 0) + 1 in
      let m1 : length h1 ≡ n = simp length-set hn in
      let kept : risen l' r' (risen l' r' h a) (top z) ≡ risen l' r' h a = c_kept z S.rrep.2 (omega (arith, oa)) (omega (arith, ob)) (λ j. omega (arith, S.once j)) in
      let ha : get_or h1 a 0 ≡ suc (max (ht x) (ht y)) = risen_same l' r' h a (ht x) (ht y) (omega (arith, fa))
      (ap (λ (g : ℕ). get_or h g 0) left_a ∙ height_read A h n a x (λ j. refl) hn small S.lrep)
      (ap (λ (g : ℕ). get_or h g 0) right_a ∙ height_read A h n b y (λ j. refl) hn small S.rrep.1) in
      let hz : get_or h1 (top z) 0 ≡ ht z = get_or-set_other h a (top z) va 0 (top_apart z a (omega (arith, fa)) (omega (arith, oa))) ∙ height_read A h n b z (λ j. refl) hn small S.rrep.2 in
      ap (λ (q : List ℕ). get_or (risen l' r' q b) b 0) kept
      ∙ risen_same l' r' h1 b (suc (max (ht x) (ht y))) (ht z) (omega (arith, fb))
      (ap (λ (g : ℕ). get_or h1 g 0) (get_or-set_same l b a 0 (omega (arith, fb))) ∙ ha)
      (ap (λ (g : ℕ). get_or h1 g 0) (get_or-set_other r a b (top y) 0 b≢a ∙ S.rrep.0.right) ∙ hz)

  pub turned : Turned (B (top z)) n b (node x a y) z k hh
  turned = (single A (B (top z)) n a b x y z k hh S stores, b_high)

pub put_left_length : (q : Place) (v : ℕ) (l : List ℕ) → length (put_left q v l) ≡ length l
put_left_length Root v l = refl
put_left_length (Left i) v l = length-set l i v
put_left_length (Right i) v l = refl

pub put_right_length : (q : Place) (v : ℕ) (l : List ℕ) → length (put_right q v l) ≡ length l
put_right_length Root v l = refl
put_right_length (Left i) v l = refl
put_right_length (Right i) v l = length-set l i v

-- l_rotate turns the tree to the left
pub l_turns : (S : Lists) (n a b : ℕ) (x y z : Tree) (k : Ctx) (hh : ℕ) → Long n S → n ≤ none
    → At (arr_of S) n a a x (node y b z) k hh → Turned (arr_of (l_rotated S a b (top z))) n b (node x a y) z k hh
unfolding l_rotated
l_turns S n a b x y z k hh W small T =
    let q : Place = place_of S.L S.P a in
    let l : List ℕ = put_left q b S.L in
    let r : List ℕ = put_right q b S.R in
    let U : At (arr (put_root q b S.root) l r S.P S.H) n b a x (node y b z) k hh =
    hung S.root S.L S.R S.P S.H n a b x (node y b z) hh W.l W.r small k T in
    subst (λ (v : ℕ). Turned (arr (put_root q b S.root) (set l b a) (set r a v) (set (set (set S.P b (get_or S.P a 0)) v a) a b)
    (risen3 (set l b a) (set r a v) S.H a (top z) b)) n b (node x a y) z k hh) (sym U.rrep.0.left)
    (turned (put_root q b S.root) l r S.P S.H n a b x y z k hh
    (put_left_length q b S.L ∙ W.l) (put_right_length q b S.R ∙ W.r) W.p W.h small U)

module _ (t : ℕ) (l r p h : List ℕ) (n a b c : ℕ) (x y w z : Tree) (k : Ctx) (hh : ℕ)
    (ln : length l ≡ n) (rn : length r ≡ n) (pn : length p ≡ n) (hn : length h ≡ n) (small : n ≤ none)
    (S : At (arr t l r p h) n c a x (node (node y c w) b z) k hh) where
  abbrev A2 : Arr
  A2 = arr t l r p h

  abbrev l2 : List ℕ
  l2 = set (set l b (top w)) c a

  abbrev r2 : List ℕ
  r2 = set (set r a (top y)) c b

  abbrev p2 : List ℕ
  p2 = set (set (set (set (set p c (get_or p a 0)) (top y) a) (top w) b) b c) a c

  abbrev h1 : List ℕ
  h1 = risen l2 r2 h a

  abbrev h2 : List ℕ
  h2 = risen l2 r2 h1 b

  abbrev B2 : Arr
  B2 = arr t l2 r2 p2 (risen3 l2 r2 h a b c)

  da : a < n
  da = S.fits

  db : b < n
  db = S.rrep.0.fits

  dc : c < n
  dc = S.rrep.1.0.fits

  qa : cnt_k a k + (cnt a x + (1 + (cnt a y + (δ c a + cnt a w) + (δ b a + cnt a z)))) ≤ 1
  qa = omega (arith, S.once a, δ-same a)

  qb : cnt_k b k + (cnt b x + (δ a b + (cnt b y + (δ c b + cnt b w) + (1 + cnt b z)))) ≤ 1
  qb = omega (arith, S.once b, δ-same b)

  qc : cnt_k c k + (cnt c x + (δ a c + (cnt c y + (1 + cnt c w) + (δ b c + cnt c z)))) ≤ 1
  qc = omega (arith, S.once c, δ-same c)

  ab : a ≡ b → ⊥
  ab = apart (λ v. δ a v) (omega (arith, δ-same a)) (omega (arith, qb))

  ac : a ≡ c → ⊥
  ac = apart (λ v. δ a v) (omega (arith, δ-same a)) (omega (arith, qc))

  bc : b ≡ c → ⊥
  bc = apart (λ v. δ b v) (omega (arith, δ-same b)) (omega (arith, qc))

  ba : b ≡ a → ⊥
  ba e = ab (sym e)

  ca : c ≡ a → ⊥
  ca e = ac (sym e)

  cb : c ≡ b → ⊥
  cb e = bc (sym e)

  la : get_or l2 a 0 ≡ top x
  la = get_or-set_other (set l b (top w)) c a a 0 ac ∙ get_or-set_other l b a (top w) 0 ab ∙ S.left

  lb : get_or l2 b 0 ≡ top w
  lb = get_or-set_other (set l b (top w)) c b a 0 bc ∙ get_or-set_same l b (top w) 0 (omega (arith, db))

  lc : get_or l2 c 0 ≡ a
  lc = get_or-set_same (set l b (top w)) c a 0 (simp length-set (omega (arith, dc)))

  ra : get_or r2 a 0 ≡ top y
  ra = get_or-set_other (set r a (top y)) c a b 0 ac ∙ get_or-set_same r a (top y) 0 (omega (arith, da))

  rb : get_or r2 b 0 ≡ top z
  rb = get_or-set_other (set r a (top y)) c b b 0 bc ∙ get_or-set_other r a b (top y) 0 ba ∙ S.rrep.0.right

  rc : get_or r2 c 0 ≡ b
  rc = get_or-set_same (set r a (top y)) c b 0 (simp length-set (omega (arith, dc)))

  -- the heights: a's, then b's, then c's
  va : ℕ
  va = max (get_or h (get_or l2 a 0) 0) (get_or h (get_or r2 a 0) 0) + 1

  ha : get_or h1 a 0 ≡ suc (max (ht x) (ht y))
  ha = risen_same l2 r2 h a (ht x) (ht y) (omega (arith, da))
      (ap (λ (g : ℕ). get_or h g 0) la ∙ height_read A2 h n a x (λ j. refl) hn small S.lrep)
      (ap (λ (g : ℕ). get_or h g 0) ra ∙ height_read A2 h n c y (λ j. refl) hn small S.rrep.1.1)

  m1 : length h1 ≡ n
  m1 = simp length-set hn

  m2 : length h2 ≡ n
  m2 = simp length-set hn

  -- a subtree in which a does not stand
  past_a : (q : Tree) (p : ℕ) → cnt a q ≡ 0 → Rep A2 n p q → get_or h1 (top q) 0 ≡ ht q
  past_a q p z c = get_or-set_other h a (top q) _ 0 (top_apart q a (omega (arith, da)) z) ∙ height_read A2 h n p q (λ j. refl) hn small c

  hb : get_or h2 b 0 ≡ suc (max (ht w) (ht z))
  hb = risen_same l2 r2 h1 b (ht w) (ht z) (omega (arith, db, m1))
      (ap (λ (g : ℕ). get_or h1 g 0) lb ∙ past_a w c (omega (arith, qa)) S.rrep.1.2)
      (ap (λ (g : ℕ). get_or h1 g 0) rb ∙ past_a z b (omega (arith, qa)) S.rrep.2)

  ha2 : get_or h2 a 0 ≡ suc (max (ht x) (ht y))
  ha2 = get_or-set_other h1 b a _ 0 ab ∙ ha

  hc : get_or (risen3 l2 r2 h a b c) c 0 ≡ suc (max (suc (max (ht x) (ht y))) (suc (max (ht w) (ht z))))
  hc = risen_same l2 r2 h2 c (suc (max (ht x) (ht y))) (suc (max (ht w) (ht z))) (omega (arith, dc, m2))
      (ap (λ (g : ℕ). get_or h2 g 0) lc ∙ ha2) (ap (λ (g : ℕ). get_or h2 g 0) rc ∙ hb)

  stores2 : Double A2 B2 a b c x y w z
  stores2 =
      let u1 : List ℕ = set p c (get_or p a 0) in
      let u2 : List ℕ = set u1 (top y) a in
      let u3 : List ℕ = set u2 (top w) b in
      let u4 : List ℕ = set u3 b c in
      let k1 : length u1 ≡ n = simp length-set pn in
      let k2 : length u2 ≡ n = simp length-set pn in
      let k3 : length u3 ≡ n = simp length-set pn in
      let k4 : length u4 ≡ n = simp length-set pn in
      record {
        root = refl;
        Lb = lb;
        Lc = lc;
        L-else = λ j nb nc. get_or-set_other (set l b (top w)) c j a 0 nc ∙ get_or-set_other l b j (top w) 0 nb;
        Ra = ra;
        Rc = rc;
        R-else = λ j na nc. get_or-set_other (set r a (top y)) c j b 0 nc ∙ get_or-set_other r a j (top y) 0 na;
        Pa = get_or-set_same u4 a c 0 (omega (arith, da));
        Pb = get_or-set_other u4 a b c 0 ba ∙ get_or-set_same u3 b c 0 (omega (arith, db));
        Pc = get_or-set_other u4 a c c 0 ca ∙ get_or-set_other u3 b c c 0 cb
            ∙ get_or-set_other u2 (top w) c b 0 (λ e. top_apart w c (omega (arith, dc)) (omega (arith, qc)) (sym e))
            ∙ get_or-set_other u1 (top y) c a 0 (λ e. top_apart y c (omega (arith, dc)) (omega (arith, qc)) (sym e))
            ∙ get_or-set_same p c (get_or p a 0) 0 (omega (arith, dc));
        Py = λ m.
            let f : top y < n = top_fits A2 n c y S.rrep.1.1 m in
            get_or-set_other u4 a (top y) c 0 (top_apart y a (omega (arith, da)) (omega (arith, qa)))
            ∙ get_or-set_other u3 b (top y) c 0 (top_apart y b (omega (arith, db)) (omega (arith, qb)))
            ∙ get_or-set_other u2 (top w) (top y) b 0 (λ e. top_apart w (top y) (omega (arith, small)) (omega (arith, S.once (top y))) (sym e))
            ∙ get_or-set_same u1 (top y) a 0 (omega arith);
        Pw = λ m.
            let f : top w < n = top_fits A2 n c w S.rrep.1.2 m in
            get_or-set_other u4 a (top w) c 0 (top_apart w a (omega (arith, da)) (omega (arith, qa)))
            ∙ get_or-set_other u3 b (top w) c 0 (top_apart w b (omega (arith, db)) (omega (arith, qb)))
            ∙ get_or-set_same u2 (top w) b 0 (omega arith);
        P-else = λ j na nb nc ny nw. get_or-set_other u4 a j c 0 na ∙ get_or-set_other u3 b j c 0 nb ∙ else_top u2 w b j (omega arith) nw ∙ else_top u1 y a j (omega arith) ny ∙ get_or-set_other p c j (get_or p a 0) 0 nc;
        Ha = get_or-set_other h2 c a _ 0 ac ∙ ha2;
        Hb = get_or-set_other h2 c b _ 0 bc ∙ hb;
        H-else = λ j na nb nc. get_or-set_other h2 c j _ 0 nc ∙ get_or-set_other h1 b j _ 0 nb ∙ get_or-set_other h a j _ 0 na;
      }

  pub turned2 : Turned B2 n c (node x a y) (node w b z) k hh
  turned2 = (double A2 B2 n a b c x y w z k hh S stores2, hc)

-- rl_rotate brings c up
pub rl_turns : (S : Lists) (n a b c : ℕ) (x y w z : Tree) (k : Ctx) (hh : ℕ) → Long n S → n ≤ none
    → At (arr_of S) n a a x (node (node y c w) b z) k hh → Turned (arr_of (rl_rotated S a b c)) n c (node x a y) (node w b z) k hh
unfolding rl_rotated
rl_turns S n a b c x y w z k hh W small T =
    let q : Place = place_of S.L S.P a in
    let l : List ℕ = put_left q c S.L in
    let r : List ℕ = put_right q c S.R in
    let U : At (arr (put_root q c S.root) l r S.P S.H) n c a x (node (node y c w) b z) k hh =
    hung S.root S.L S.R S.P S.H n a c x (node (node y c w) b z) hh W.l W.r small k T in
    let ln : length l ≡ n = put_left_length q c S.L ∙ W.l in
    let rn : length r ≡ n = put_right_length q c S.R ∙ W.r in
    let c≢a : c ≡ a → ⊥ = ca (put_root q c S.root) l r S.P S.H n a b c x y w z k hh ln rn W.p W.h small U in
    let ey : get_or l c 0 ≡ top y = U.rrep.1.0.left in
    let ew : get_or (set r a (get_or l c 0)) c 0 ≡ top w = get_or-set_other r a c (get_or l c 0) 0 c≢a ∙ U.rrep.1.0.right in
    let P : ℕ → ℕ → Type 0 = λ v u. Turned (arr (put_root q c S.root) (set (set l b u) c a) (set (set r a v) c b)
    (set (set (set (set (set S.P c (get_or S.P a 0)) v a) u b) b c) a c)
    (risen3 (set (set l b u) c a) (set (set r a v) c b) S.H a b c)) n c (node x a y) (node w b z) k hh in
    subst (λ (u : ℕ). P (get_or l c 0) u) (sym ew) (subst (λ (v : ℕ). P v (top w)) (sym ey)
    (turned2 (put_root q c S.root) l r S.P S.H n a b c x y w z k hh ln rn W.p W.h small U))
