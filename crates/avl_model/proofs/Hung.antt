-- What hangs where a hung, once `hang` has stored b there: the same parts, with b at the place.
use Rattle.std.proofs.Common.{ℕ, suc, ◌+◌, ◌≤◌, ◌<◌, max, arith, ◌≡◌, refl, sym, subst, ◌∙◌, List, length, get_or, set, get_or-set_same, get_or-set_other, lt-ltb, le-ltb, eq-eqb, ne_eqb}
use Rattle.avl_model.specs.declared.Place.{Place}
use Rattle.avl_model.specs.declared.Place.TheVariants.{Root, Left, Right}
use Rattle.avl_model.specs.inner.Lists.{place_of, put_root, put_left, put_right}
use Rattle.avl_model.specs.Tree.{Tree, leaf, node, none, top, ht, δ, cnt}
use Rattle.avl_model.specs.Rep.{Arr, arr}
use Rattle.avl_model.specs.inner.Rep.{Ctx, hole, in_l, in_r, cnt_k, At}
use Rattle.avl_model.proofs.Frame.{δ-same, Agree, apart, frame, frame_link, frame_k}

-- a tree's root is no node that does not stand in it
pub top_apart : (t : Tree) (a : ℕ) → a < none → cnt a t ≡ 0 → top t ≡ a → ⊥
top_apart leaf a h z e = omega arith
top_apart (node l i r) a h z e =
    let s : δ a a ≡ 1 = δ-same a in
    let d : δ i a ≡ 1 = subst (λ (v : ℕ). δ v a ≡ 1) (sym e) s in
    omega arith

module _ (t : ℕ) (l r p h : List ℕ) (n a b : ℕ) (x y : Tree) (hh : ℕ) (ln : length l ≡ n) (rn : length r ≡ n) (small : n ≤ none) where
  abbrev A : Arr
  A = arr t l r p h

  -- which place it is
  at_root : At A n a a x y hole hh → place_of l p a ≡ Root
  at_root S = let u : get_or p a 0 ≡ none = S.up in rw (le-ltb (get_or p a 0) (length l) (omega arith))

  at_left : (i : ℕ) (o : Tree) (k : Ctx) → At A n a a x y (in_l i o k) hh → place_of l p a ≡ Left i
  at_left i o k S =
      let u : get_or p a 0 ≡ i = S.up in
      let f : i < n = S.krep.1.fits in
      let e : get_or l i 0 ≡ a = S.link in
      rw (u, lt-ltb i (length l) (omega arith), eq-eqb (get_or l i 0) a e)

  at_right : (o : Tree) (i : ℕ) (k : Ctx) → At A n a a x y (in_r o i k) hh → place_of l p a ≡ Right i
  at_right o i k S =
      let u : get_or p a 0 ≡ i = S.up in
      let f : i < n = S.krep.1.fits in
      let g : a < n = S.fits in
      let e : get_or l i 0 ≡ top o = S.krep.0 in
      let d : δ a a ≡ 1 = δ-same a in
      let no : cnt a o ≡ 0 = omega (arith, S.once a) in
      rw (u, lt-ltb i (length l) (omega arith), ne_eqb (get_or l i 0) a (λ q. top_apart o a (omega arith) no (sym e ∙ q)))

  stored_root : At A n a a x y hole hh → At (arr b l r p h) n b a x y hole hh
  stored_root S = record {
    fits = S.fits;
    left = S.left;
    right = S.right;
    up = S.up;
    lrep = frame A (arr b l r p h) n x a (λ j m. record { l = refl; r = refl; p = refl; h = refl }) S.lrep;
    rrep = frame A (arr b l r p h) n y a (λ j m. record { l = refl; r = refl; p = refl; h = refl }) S.rrep;
    link = refl;
    krep = tt;
    once = S.once;
  }

  stored_left : (i : ℕ) (o : Tree) (k : Ctx) → At A n a a x y (in_l i o k) hh → At (arr t (set l i b) r p h) n b a x y (in_l i o k) hh
  stored_left i o k S =
      let B : Arr = arr t (set l i b) r p h in
      let f : i < n = S.krep.1.fits in
      let di : δ i i ≡ 1 = δ-same i in
      let oi : δ i i + (cnt i o + cnt_k i k) + (cnt i x + (δ a i + cnt i y)) ≤ 1 = S.once i in
      let same : (g : ℕ → ℕ) → g i ≡ 0 → (j : ℕ) → 1 ≤ g j → Agree A B j = λ g z j m.
      record { l = get_or-set_other l i j b 0 (apart g m z); r = refl; p = refl; h = refl } in
      let in-k : (j : ℕ) → 1 ≤ cnt_k j k → Agree A B j = same (λ v. cnt_k v k) (omega arith) in
      record {
        fits = S.fits;
        left = get_or-set_other l i a b 0 (apart (λ v. δ a v) (omega (arith, δ-same a)) (omega arith)) ∙ S.left;
        right = S.right;
        up = S.up;
        lrep = frame A B n x a (same (λ v. cnt v x) (omega arith)) S.lrep;
        rrep = frame A B n y a (same (λ v. cnt v y) (omega arith)) S.rrep;
        link = get_or-set_same l i b 0 (omega arith);
        krep = (
          S.krep.0,
          record {
            fits = f;
            up = S.krep.1.up;
            high = S.krep.1.high;
            sib = frame A B n o i (same (λ v. cnt v o) (omega arith)) S.krep.1.sib;
            link = frame_link A B n k i refl in-k S.krep.1.link;
          },
          frame_k A B n k (suc (max hh (ht o))) refl in-k S.krep.2,
        );
        once = S.once;
      }

  stored_right : (o : Tree) (i : ℕ) (k : Ctx) → At A n a a x y (in_r o i k) hh → At (arr t l (set r i b) p h) n b a x y (in_r o i k) hh
  stored_right o i k S =
      let B : Arr = arr t l (set r i b) p h in
      let f : i < n = S.krep.1.fits in
      let di : δ i i ≡ 1 = δ-same i in
      let oi : δ i i + (cnt i o + cnt_k i k) + (cnt i x + (δ a i + cnt i y)) ≤ 1 = S.once i in
      let same : (g : ℕ → ℕ) → g i ≡ 0 → (j : ℕ) → 1 ≤ g j → Agree A B j = λ g z j m.
      record { l = refl; r = get_or-set_other r i j b 0 (apart g m z); p = refl; h = refl } in
      let in-k : (j : ℕ) → 1 ≤ cnt_k j k → Agree A B j = same (λ v. cnt_k v k) (omega arith) in
      record {
        fits = S.fits;
        left = S.left;
        right = get_or-set_other r i a b 0 (apart (λ v. δ a v) (omega (arith, δ-same a)) (omega arith)) ∙ S.right;
        up = S.up;
        lrep = frame A B n x a (same (λ v. cnt v x) (omega arith)) S.lrep;
        rrep = frame A B n y a (same (λ v. cnt v y) (omega arith)) S.rrep;
        link = get_or-set_same r i b 0 (omega arith);
        krep = (
          S.krep.0,
          record {
            fits = f;
            up = S.krep.1.up;
            high = S.krep.1.high;
            sib = frame A B n o i (same (λ v. cnt v o) (omega arith)) S.krep.1.sib;
            link = frame_link A B n k i refl in-k S.krep.1.link;
          },
          frame_k A B n k (suc (max hh (ht o))) refl in-k S.krep.2,
        );
        once = S.once;
      }

  abbrev Hung : Ctx → Place → Type 0
  Hung k q = At (arr (put_root q b t) (put_left q b l) (put_right q b r) p h) n b a x y k hh

  pub hung : (k : Ctx) → At A n a a x y k hh → Hung k (place_of l p a)
  hung hole S = subst (Hung hole) (sym (at_root S)) (stored_root S)
  hung (in_l i o k) S = subst (Hung (in_l i o k)) (sym (at_left i o k S)) (stored_left i o k S)
  hung (in_r o i k) S = subst (Hung (in_r o i k)) (sym (at_right o i k S)) (stored_right o i k S)
