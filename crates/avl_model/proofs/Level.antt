-- One step of the climb: the node's own height, and the turn to either side.
use Rattle.std.proofs.Common.{ℕ, suc, ◌+◌, ◌≤◌, ◌<◌, max, arith, ◌≡◌, refl, sym, ap, subst, ◌∙◌, List, Bool, true, false, length, get_or, set, length-set, get_or-set_other, ltb, lt-ltb, le-ltb, ltb-true, ltb-false}
use Rattle.avl_model.specs.declared.Direction.TheVariants.{Left as ToLeft, Leaf, Right as ToRight}
use Rattle.avl_model.specs.Lists.{Lists, lists}
use Rattle.avl_model.specs.inner.Lists.{risen, mirrored, tilt_of, tilt_by}
use Rattle.avl_model.specs.Tree.{Tree, leaf, node, none, top, ht, δ, cnt, turn_left, turn_right, bal}
use Rattle.avl_model.specs.Rep.{Arr, arr, Rep}
use Rattle.avl_model.specs.inner.Rep.{Ctx, cnt_k, At}
use Rattle.avl_model.specs.Rep.{arr_of}
use Rattle.avl_model.specs.inner.Held.{Long, Heavy, Ready, Up}
use Rattle.avl_model.proofs.Frame.{δ-same, Agree, apart, frame, frame_link, frame_k}
use Rattle.avl_model.proofs.Hung.{top_apart}
use Rattle.avl_model.proofs.Low.{low_risen}
use Rattle.avl_model.proofs.Peak.{low_from}
use Rattle.avl_model.proofs.Stores.{height_read, risen_same}
use Rattle.avl_model.proofs.Mirror.{mir, mir_k, ht-mir, top-mir, at_mir}
use Rattle.avl_model.proofs.Sides.{held, held_unmir, turn_mir}

-- what the tilt tells
tilt_by_left : (s t : Bool) → tilt_by s t ≡ ToLeft → s ≡ true
tilt_by_left true t e = refl
tilt_by_left false true e = cc
tilt_by_left false false e = cc

tilt_by_right : (s t : Bool) → tilt_by s t ≡ ToRight → (s ≡ false) × (t ≡ true)
tilt_by_right true t e = (cc, cc)
tilt_by_right false true e = (refl, refl)
tilt_by_right false false e = (refl, cc)

tilt_by_leaf : (s t : Bool) → tilt_by s t ≡ Leaf → (s ≡ false) × (t ≡ false)
tilt_by_leaf true t e = (cc, cc)
tilt_by_leaf false true e = (refl, cc)
tilt_by_leaf false false e = (refl, refl)

-- the height of i alone is stored
pub at_risen : (t : ℕ) (l r p h : List ℕ) (n i : ℕ) (x y : Tree) (k : Ctx) (hh v : ℕ) → At (arr t l r p h) n i i x y k hh → At (arr t l r p (set h i v)) n i i x y k hh
at_risen t l r p h n i x y k hh v S =
    let A : Arr = arr t l r p h in
    let B : Arr = arr t l r p (set h i v) in
    let o : cnt_k i k + (cnt i x + (δ i i + cnt i y)) ≤ 1 = S.once i in
    let d : δ i i ≡ 1 = δ-same i in
    let same : (g : ℕ → ℕ) → g i ≡ 0 → (j : ℕ) → 1 ≤ g j → Agree A B j = λ g z j m.
    record { l = refl; r = refl; p = refl; h = get_or-set_other h i j v 0 (apart g m z) } in
    let in-k : (j : ℕ) → 1 ≤ cnt_k j k → Agree A B j = same (λ u. cnt_k u k) (omega arith) in
    record {
      fits = S.fits;
      left = S.left;
      right = S.right;
      up = S.up;
      lrep = frame A B n x i (same (λ u. cnt u x) (omega arith)) S.lrep;
      rrep = frame A B n y i (same (λ u. cnt u y) (omega arith)) S.rrep;
      link = frame_link A B n k i refl in-k S.link;
      krep = frame_k A B n k hh refl in-k S.krep;
      once = S.once;
    }

-- what `turn` asks where r is more than one higher than l, and what it then leaves, said of l and r
abbrev Turnable : Lists → ℕ → ℕ → ℕ → Tree → Ctx → ℕ → Type 0
Turnable S n i b s k hh =
    (v : Heavy S i b) × ((T : Lists) (t : ℕ) → Up T (length S.L) t (turn_left v.x i (node v.y b v.z)) v.k v.hh → Up T n t s k hh)

turnable : (S : Lists) (n i b : ℕ) (l r : Tree) (k : Ctx) (hh : ℕ) → length S.L ≡ n → Long n S → n ≤ none → ((j : ℕ) → get_or S.H j 0 < 120)
    → b ≡ top r → At (arr_of S) n i i l r k hh → suc (ht l) < ht r → Turnable S n i b (turn_left l i r) k hh
turnable S n i b l leaf k hh en W small low e T h = absurd (omega arith)
turnable S n i b l (node y c z) k hh en W small low e T h =
    subst (λ (m : ℕ). Turnable S m i b (turn_left l i (node y c z)) k hh) en
    (subst (λ (g : ℕ). Turnable S (length S.L) i g (turn_left l i (node y c z)) k hh) (sym e) (
      record {
        x = l;
        y = y;
        z = z;
        k = k;
        hh = hh;
        long = subst (λ (m : ℕ). Long m S) (sym en) W;
        small = omega arith;
        at = subst (λ (m : ℕ). At (arr_of S) m i i l (node y c z) k hh) (sym en) T;
        tall = h;
        low = low;
      },
      λ T t U. U,
    ))

up_unmir : (T : Lists) (n t i : ℕ) (l r : Tree) (k : Ctx) (hh : ℕ) → Up (mirrored T) n t (turn_left (mir r) i (mir l)) (mir_k k) hh → Up T n t (turn_right l i r) k hh
up_unmir T n t i l r k hh U =
    let W : Up (mirrored T) n t (mir (turn_right l i r)) (mir_k k) hh = subst (λ (s : Tree). Up (mirrored T) n t s (mir_k k) hh) (turn_mir l i r) U in
    record {
      long = record { l = W.long.r; r = W.long.l; p = W.long.p; h = W.long.h };
      held = held_unmir (arr_of T) n (turn_right l i r) k hh W.held;
      root = W.root ∙ top-mir (turn_right l i r);
    }

module _ (S : Lists) (i : ℕ) (w : Ready S i) where
  abbrev n : ℕ
  n = length S.L

  abbrev h1 : List ℕ
  h1 = risen S.L S.R S.H i

  abbrev S1 : Lists
  S1 = lists S.root S.L S.R S.P h1

  -- what is left when all is done
  abbrev Left : Lists → ℕ → Type 0
  Left T t = Up T n t (bal w.l i w.r) w.k w.hh

  T1 : At (arr_of S1) n i i w.l w.r w.k w.hh
  T1 = at_risen S.root S.L S.R S.P S.H n i w.l w.r w.k w.hh _ w.at

  long1 : Long n S1
  long1 = record { l = refl; r = w.long.r; p = w.long.p; h = simp length-set w.long.h }

  pub low1 : (j : ℕ) → get_or h1 j 0 < 120
  low1 j = omega (arith, low_risen 110 S.L S.R S.H i (low_from S i w) j)

  one_high : (q : Tree) (b : ℕ) → b ≡ top q → cnt i q ≡ 0 → Rep (arr_of S) n i q → get_or h1 b 0 ≡ ht q
  one_high q b e z c = ap (λ (g : ℕ). get_or h1 g 0) e ∙ get_or-set_other S.H i (top q) _ 0 (top_apart q i (omega (arith, w.at.fits, w.small)) z)
      ∙ height_read (arr_of S) S.H n i q (λ j. refl) w.long.h w.small c

  hl : get_or h1 (get_or S.L i 0) 0 ≡ ht w.l
  hl = one_high w.l (get_or S.L i 0) w.at.left (omega (arith, w.at.once i, δ-same i)) w.at.lrep

  hr : get_or h1 (get_or S.R i 0) 0 ≡ ht w.r
  hr = one_high w.r (get_or S.R i 0) w.at.right (omega (arith, w.at.once i, δ-same i)) w.at.rrep

  -- the height of i, made of its children's
  hi : get_or h1 i 0 ≡ suc (max (ht w.l) (ht w.r))
  hi = risen_same S.L S.R S.H i (ht w.l) (ht w.r) (omega (arith, w.at.fits, w.long.h))
      (ap (λ (g : ℕ). get_or S.H g 0) w.at.left ∙ height_read (arr_of S) S.H n i w.l (λ j. refl) w.long.h w.small w.at.lrep)
      (ap (λ (g : ℕ). get_or S.H g 0) w.at.right ∙ height_read (arr_of S) S.H n i w.r (λ j. refl) w.long.h w.small w.at.rrep)

  module _ (a b : ℕ) (ea : a ≡ get_or h1 (get_or S.L i 0) 0) (eb : b ≡ get_or h1 (get_or S.R i 0) 0) where
    is_l : a ≡ ht w.l
    is_l = ea ∙ hl

    is_r : b ≡ ht w.r
    is_r = eb ∙ hr

    right_tall : tilt_of a b ≡ ToRight → suc (ht w.l) < ht w.r
    right_tall e = let k : suc a < b = ltb-true (suc a) b (tilt_by_right (ltb (suc b) a) (ltb (suc a) b) e).1 in omega (arith, is_l, is_r)

    left_tall : tilt_of a b ≡ ToLeft → suc (ht w.r) < ht w.l
    left_tall e = let k : suc b < a = ltb-true (suc b) a (tilt_by_left (ltb (suc b) a) (ltb (suc a) b) e) in omega (arith, is_l, is_r)

    -- to the right
    pub right_turnable : tilt_of a b ≡ ToRight → Turnable S1 n i (get_or S.R i 0) (turn_left w.l i w.r) w.k w.hh
    right_turnable e = turnable S1 n i (get_or S.R i 0) w.l w.r w.k w.hh refl long1 w.small low1 w.at.right T1 (right_tall e)

    pub right_done : (e : tilt_of a b ≡ ToRight) (T : Lists) (t : ℕ)
        → Up T n t (turn_left (right_turnable e).0.x i (node (right_turnable e).0.y (get_or S.R i 0) (right_turnable e).0.z)) (right_turnable e).0.k (right_turnable e).0.hh → Left T t
    unfolding bal
    right_done e T t U =
        let h : suc (ht w.l) < ht w.r = right_tall e in
        rw (le-ltb (suc (ht w.r)) (ht w.l) (omega arith), lt-ltb (suc (ht w.l)) (ht w.r) h) ((right_turnable e).1 T t U)

    -- to the left: the same with left and right exchanged
    pub left_turnable : tilt_of a b ≡ ToLeft → Turnable (mirrored S1) n i (get_or S.L i 0) (turn_left (mir w.r) i (mir w.l)) (mir_k w.k) w.hh
    left_turnable e = turnable (mirrored S1) n i (get_or S.L i 0) (mir w.r) (mir w.l) (mir_k w.k) w.hh w.long.r
        (record { l = long1.r; r = long1.l; p = long1.p; h = long1.h }) w.small low1 (w.at.left ∙ sym (top-mir w.l))
        (at_mir (arr_of S1) n i i w.l w.r w.k w.hh T1) (omega (arith, left_tall e, ht-mir w.l, ht-mir w.r))

    pub left_done : (e : tilt_of a b ≡ ToLeft) (T : Lists) (t : ℕ)
        → Up (mirrored T) (length S.R) t (turn_left (left_turnable e).0.x i (node (left_turnable e).0.y (get_or S.L i 0) (left_turnable e).0.z)) (left_turnable e).0.k (left_turnable e).0.hh → Left T t
    unfolding bal
    left_done e T t U =
        let h : suc (ht w.r) < ht w.l = left_tall e in
        rw (lt-ltb (suc (ht w.r)) (ht w.l) h) (up_unmir T n t i w.l w.r w.k w.hh ((left_turnable e).1 (mirrored T) t U))

    -- not at all
    pub leaf_done : tilt_of a b ≡ Leaf → Left S1 i
    unfolding bal
    leaf_done e =
        let f : (ltb (suc b) a ≡ false) × (ltb (suc a) b ≡ false) = tilt_by_leaf (ltb (suc b) a) (ltb (suc a) b) e in
        let p : a ≤ suc b = ltb-false (suc b) a f.0 in
        let q : b ≤ suc a = ltb-false (suc a) b f.1 in
        rw (le-ltb (suc (ht w.r)) (ht w.l) (omega (arith, is_l, is_r)), le-ltb (suc (ht w.l)) (ht w.r) (omega (arith, is_l, is_r)))
        (record { long = long1; held = held (arr_of S1) n i w.l w.r w.k w.hh (T1, hi); root = refl })

  -- the same of the lists T that a call leaves
  module _ (T : Lists) (e : T ≡ S1) (a b : ℕ) (ea : a ≡ get_or T.H (get_or T.L i 0) 0) (eb : b ≡ get_or T.H (get_or T.R i 0) 0) where
    a1 : a ≡ get_or h1 (get_or S.L i 0) 0
    a1 = ea ∙ λ d. get_or (e d).H (get_or (e d).L i 0) 0

    b1 : b ≡ get_or h1 (get_or S.R i 0) 0
    b1 = eb ∙ λ d. get_or (e d).H (get_or (e d).R i 0) 0

    pub right_asks : tilt_of a b ≡ ToRight → Heavy T i (get_or T.R i 0)
    right_asks q = subst (λ (U : Lists). Heavy U i (get_or U.R i 0)) (sym e) (right_turnable a b a1 b1 q).0

    pub right_leaves : tilt_of a b ≡ ToRight → {V : Lists} {t : ℕ}
        → ((v : Heavy T i (get_or T.R i 0)) → Up V (length T.L) t (turn_left v.x i (node v.y (get_or T.R i 0) v.z)) v.k v.hh) → Left V t
    right_leaves q {V} {t} = subst (λ (U : Lists). ((v : Heavy U i (get_or U.R i 0)) → Up V (length U.L) t (turn_left v.x i (node v.y (get_or U.R i 0) v.z)) v.k v.hh) → Left V t)
        (sym e) (λ f. right_done a b a1 b1 q V t (f (right_turnable a b a1 b1 q).0))

    pub left_asks : tilt_of a b ≡ ToLeft → Heavy (mirrored T) i (get_or T.L i 0)
    left_asks q = subst (λ (U : Lists). Heavy (mirrored U) i (get_or U.L i 0)) (sym e) (left_turnable a b a1 b1 q).0

    pub left_leaves : tilt_of a b ≡ ToLeft → {V : Lists} {t : ℕ}
        → ((v : Heavy (mirrored T) i (get_or T.L i 0)) → Up (mirrored V) (length T.R) t (turn_left v.x i (node v.y (get_or T.L i 0) v.z)) v.k v.hh) → Left V t
    left_leaves q {V} {t} = subst (λ (U : Lists). ((v : Heavy (mirrored U) i (get_or U.L i 0))
        → Up (mirrored V) (length U.R) t (turn_left v.x i (node v.y (get_or U.L i 0) v.z)) v.k v.hh) → Left V t)
        (sym e) (λ f. left_done a b a1 b1 q V t (f (left_turnable a b a1 b1 q).0))

    pub leaf_leaves : tilt_of a b ≡ Leaf → Left T i
    leaf_leaves q = subst (λ (U : Lists). Left U i) (sym e) (leaf_done a b a1 b1 q)
