-- From the whole tree down to the place of a new node, the node put there, and the climb from it.
use Rattle.std.proofs.Common.{ℕ, suc, ◌+◌, ◌≤◌, ◌<◌, max, arith, ◌≡◌, refl, sym, ap, subst, ◌∙◌, Bool, true, false, List, length, get_or, set, take, length-set, get_or-set_same, get_or-set_other, get_or-take}
use Rattle.std.proofs.Math.Decide.{ℕ_discrete}
use Rattle.std.specs.declared.cmp.Ordering.{Ordering}
use Rattle.std.specs.declared.cmp.Ordering.TheVariants.{Less, Equal, Greater}
use Rattle.avl_model.specs.inner.Insert.{Done, Duplicate}
use Rattle.avl_model.specs.Names.{Names, is_less}
use Rattle.avl_model.specs.Laws.{Avl, All}
use Rattle.avl_model.specs.declared.Place.{Place}
use Rattle.avl_model.specs.declared.Place.TheVariants.{Root, Left, Right}
use Rattle.avl_model.specs.declared.Spot.{Spot}
use Rattle.avl_model.specs.declared.Spot.TheVariants.{Same, Free}
use Rattle.avl_model.specs.Lists.{Lists}
use Rattle.avl_model.specs.inner.Lists.{put_left, put_right, above_of, attached}
use Rattle.avl_model.specs.Tree.{Tree, leaf, node, none, ht, δ, cnt, bal, ins, ins_by}
use Rattle.avl_model.specs.Rep.{Arr, Rep}
use Rattle.avl_model.specs.inner.Rep.{Ctx, hole, in_l, in_r, over, cnt_k, climb, Link, RepK, At}
use Rattle.avl_model.specs.Rep.{arr_of}
use Rattle.avl_model.specs.inner.Held.{Long, Held, Ready, Whole, peak, Even, Arena}
use Rattle.avl_model.specs.inner.Insert.{Filled, Out, OutBy}
use Rattle.avl_model.specs.Seek.{spot_in, spot_by}
use Rattle.avl_model.specs.inner.Seek.{path, path_by, place_in, Links, Linked, Sought}
use Rattle.avl_model.proofs.Frame.{δ-same, δ-apart, Agree, apart, frame, frame_link, frame_k}
use Rattle.avl_model.proofs.Stores.{put_left_length, put_right_length}
use Rattle.avl_model.proofs.Avl.{at_most_22}

-- the links of a tree that is held
pub links_of : (S : Lists) (n p : ℕ) (t : Tree) → Rep (arr_of S) n p t → Links S.L S.R n t
links_of S n p leaf c = tt
links_of S n p (node l i r) c = (record { fits = c.0.fits; left = c.0.left; right = c.0.right }, links_of S n i l c.1, links_of S n i r c.2)

-- the same in the first n places of columns
pub links_part : (L R : List ℕ) (n m : ℕ) (t : Tree) → m ≡ n → Links L R n t → Links (take n L) (take n R) m t
links_part L R n m leaf e g = tt
links_part L R n m (node l i r) e g = (
  record {
    fits = omega (arith, g.0.fits);
    left = get_or-take n L i 0 g.0.fits ∙ g.0.left;
    right = get_or-take n R i 0 g.0.fits ∙ g.0.right;
  },
  links_part L R n m l e g.1,
  links_part L R n m r e g.2,
)

-- a tree that is held has only indices
pub below : (A : Arr) (n p : ℕ) (t : Tree) → Rep A n p t → All (λ j. j < n) t
below A n p leaf c = tt
below A n p (node l i r) c = (c.0.fits, below A n i l c.1, below A n i r c.2)

-- one step down
down_left : (A : Arr) (n : ℕ) (l : Tree) (i : ℕ) (r : Tree) (k : Ctx) → Held A n (node l i r) k (ht (node l i r)) → Held A n l (in_l i r k) (ht l)
down_left A n l i r k H = record {
  link = H.rep.0.left;
  rep = H.rep.1;
  krep = (H.rep.0.right, record { fits = H.rep.0.fits; up = H.rep.0.up; high = H.rep.0.high; sib = H.rep.2; link = H.link }, H.krep);
  once = λ j. omega (arith, H.once j);
}

down_right : (A : Arr) (n : ℕ) (l : Tree) (i : ℕ) (r : Tree) (k : Ctx) → Held A n (node l i r) k (ht (node l i r)) → Held A n r (in_r l i k) (ht r)
down_right A n l i r k H = record {
  link = H.rep.0.right;
  rep = H.rep.2;
  krep = (
    H.rep.0.left,
    record { fits = H.rep.0.fits; up = H.rep.0.up; high = H.rep.0.high ∙ omega arith; sib = H.rep.1; link = H.link },
    subst (λ (g : ℕ). RepK A n g k) (omega arith) H.krep,
  );
  once = λ j. omega (arith, H.once j);
}

-- all the way down
module _ (less : ℕ → Bool) where
  pub down : (A : Arr) (n : ℕ) (t : Tree) (k : Ctx) → Held A n t k (ht t) → Held A n leaf (path less t k) 0
  down A n leaf k H = H
  down A n (node l i r) k H = elim (less i) as (λ b. Held A n leaf (path_by b (path less l (in_l i r k)) (path less r (in_r l i k))) 0) [
    | true ↦ down A n l (in_l i r k) (down_left A n l i r k H)
    | false ↦ down A n r (in_r l i k) (down_right A n l i r k H)
  ]

  pub path-cnt : (j : ℕ) (t : Tree) (k : Ctx) → cnt_k j (path less t k) ≡ cnt j t + cnt_k j k
  path-cnt j leaf k = omega arith
  path-cnt j (node l i r) k = elim (less i) as (λ b. cnt_k j (path_by b (path less l (in_l i r k)) (path less r (in_r l i k))) ≡ cnt j l + (δ i j + cnt j r) + cnt_k j k) [
    | true ↦ path-cnt j l (in_l i r k) ∙ omega arith
    | false ↦ path-cnt j r (in_r l i k) ∙ omega arith
  ]

  pub path-peak : (t : Tree) (k : Ctx) → peak 0 (path less t k) ≡ peak (ht t) k
  path-peak leaf k = refl
  path-peak (node l i r) k = elim (less i) as (λ b. peak 0 (path_by b (path less l (in_l i r k)) (path less r (in_r l i k))) ≡ peak (suc (max (ht l) (ht r))) k) [
    | true ↦ path-peak l (in_l i r k)
    | false ↦ path-peak r (in_r l i k) ∙ ap (λ (g : ℕ). peak g k) (omega arith)
  ]

  -- what is around the place of a new node is balanced
  pub path_even : (t : Tree) (k : Ctx) → Avl t → Even (ht t) k → Even 0 (path less t k)
  path_even leaf k a e = e
  path_even (node l i r) k a e = elim (less i) as (λ b. Even 0 (path_by b (path less l (in_l i r k)) (path less r (in_r l i k)))) [
    | true ↦ path_even l (in_l i r k) a.2 (a.0, a.1, e)
    | false ↦ path_even r (in_r l i k) a.3 (a.1, a.0, subst (λ (g : ℕ). Even g k) (omega arith) e)
  ]

  -- the climb from the new node makes the insertion
  pub path-climb : (new : ℕ) (t : Tree) (k : Ctx) → climb (path less t k) (node leaf new leaf) ≡ climb k (ins less new t)
  path-climb new leaf k = refl
  path-climb new (node l i r) k = elim (less i) as (λ b. climb (path_by b (path less l (in_l i r k)) (path less r (in_r l i k))) (node leaf new leaf) ≡ climb k (ins_by b l (ins less new l) i r (ins less new r))) [
    | true ↦ path-climb new l (in_l i r k)
    | false ↦ path-climb new r (in_r l i k)
  ]

-- where a name goes is the end of the path to it
module _ (by : ℕ → Ordering) where
  abbrev less_by : ℕ → Bool
  less_by i = is_less (by i)

  spot_turn : (o : Ordering) (l : Tree) (i : ℕ) (r : Tree) (k : Ctx) (q : Place) (x y : Spot)
      → (x ≡ Free q → q ≡ place_in (path less_by l (in_l i r k))) → (y ≡ Free q → q ≡ place_in (path less_by r (in_r l i k)))
      → spot_by o (Same i) x y ≡ Free q → q ≡ place_in (path_by (is_less o) (path less_by l (in_l i r k)) (path less_by r (in_r l i k)))
  spot_turn Less l i r k q x y f g e = f e
  spot_turn Equal l i r k q x y f g e = let z : ◌≡◌ {A = ℕ} 0 1 = cc in absurd (omega arith)
  spot_turn Greater l i r k q x y f g e = g e

  pub spot_path : (t : Tree) (k : Ctx) (q : Place) → spot_in by t (place_in k) ≡ Free q → q ≡ place_in (path less_by t k)
  spot_path leaf k q e = cc
  spot_path (node l i r) k q e = spot_turn (by i) l i r k q (spot_in by l (Left i)) (spot_in by r (Right i)) (spot_path l (in_l i r k) q) (spot_path r (in_r l i k) q) e

above_is : (k : Ctx) → above_of (place_in k) ≡ over k
above_is hole = refl
above_is (in_l i r k) = refl
above_is (in_r l i k) = refl

-- the new node in the hole
module _ (S : Lists) (n new : ℕ) (W : Long n S) (f : new < n) where
  abbrev A : Arr
  A = arr_of S

  module _ (q : Place) where
    abbrev T : Lists
    T = attached S q new

    left_len : length (put_left q new S.L) ≡ n
    left_len = put_left_length q new S.L ∙ W.l

    right_len : length (put_right q new S.R) ≡ n
    right_len = put_right_length q new S.R ∙ W.r

    -- all but what the place itself says
    put_in : (k : Ctx) → cnt_k new k ≡ 0 → above_of q ≡ over k → Link (arr_of T) k new → RepK (arr_of T) n 0 k → ((j : ℕ) → cnt_k j k ≤ 1) → At (arr_of T) n new new leaf leaf k 0
    put_in k z e lk rk o = record {
      fits = f;
      left = get_or-set_same (put_left q new S.L) new none 0 (omega (arith, left_len));
      right = get_or-set_same (put_right q new S.R) new none 0 (omega (arith, right_len));
      up = get_or-set_same S.P new (above_of q) 0 (omega (arith, W.p)) ∙ e;
      lrep = tt;
      rrep = tt;
      link = lk;
      krep = rk;
      once = λ j. elim (ℕ_discrete new j) [
        | yes g ↦ let u : cnt_k j k ≡ 0 = subst (λ (v : ℕ). cnt_k v k ≡ 0) g z in
            let d : δ new j ≡ 1 = subst (λ (v : ℕ). δ new v ≡ 1) g (δ-same new) in omega arith
        | no g ↦ omega (arith, o j, δ-apart new j g)
      ];
    }

  -- a store to the new node's slots, and one to the place
  slots : (q : Place) (g : ℕ → ℕ) → g new ≡ 0 → (j : ℕ) → 1 ≤ g j → get_or (put_left q new S.L) j 0 ≡ get_or S.L j 0 → get_or (put_right q new S.R) j 0 ≡ get_or S.R j 0 → Agree A (arr_of (T q)) j
  slots q g z j m el er = let ne : j ≡ new → ⊥ = apart g m z in record {
    l = get_or-set_other (put_left q new S.L) new j none 0 ne ∙ el;
    r = get_or-set_other (put_right q new S.R) new j none 0 ne ∙ er;
    p = get_or-set_other S.P new j (above_of q) 0 ne;
    h = get_or-set_other S.H new j 0 0 ne;
  }

  pub put_at : (k : Ctx) → cnt_k new k ≡ 0 → Held A n leaf k 0 → At (arr_of (T (place_in k))) n new new leaf leaf k 0
  put_at hole z H = put_in Root hole z refl refl tt (λ j. omega arith)
  put_at (in_l i o k) z H =
      let q : Place = Left i in
      let B : Arr = arr_of (T q) in
      let fi : i < n = H.krep.1.fits in
      let di : δ i i ≡ 1 = δ-same i in
      let oi : δ i i + (cnt i o + cnt_k i k) + 0 ≤ 1 = H.once i in
      let i≢ : i ≡ new → ⊥ = apart (λ v. cnt_k v (in_l i o k)) (omega arith) z in
      let same : (g : ℕ → ℕ) → g i ≡ 0 → g new ≡ 0 → (j : ℕ) → 1 ≤ g j → Agree A B j = λ g zi zn j m.
      slots q g zn j m (get_or-set_other S.L i j new 0 (apart g m zi)) refl in
      let in-k : (j : ℕ) → 1 ≤ cnt_k j k → Agree A B j = same (λ v. cnt_k v k) (omega arith) (omega arith) in
      put_in q (in_l i o k) z refl
      (get_or-set_other (set S.L i new) new i none 0 i≢ ∙ get_or-set_same S.L i new 0 (omega (arith, W.l))) (
        get_or-set_other S.R new i none 0 i≢ ∙ H.krep.0,
        record {
          fits = fi;
          up = get_or-set_other S.P new i i 0 i≢ ∙ H.krep.1.up;
          high = get_or-set_other S.H new i 0 0 i≢ ∙ H.krep.1.high;
          sib = frame A B n o i (same (λ v. cnt v o) (omega arith) (omega arith)) H.krep.1.sib;
          link = frame_link A B n k i refl in-k H.krep.1.link;
        },
        frame_k A B n k (suc (max 0 (ht o))) refl in-k H.krep.2,
      )
      (λ j. omega (arith, H.once j))
  put_at (in_r o i k) z H =
      let q : Place = Right i in
      let B : Arr = arr_of (T q) in
      let fi : i < n = H.krep.1.fits in
      let di : δ i i ≡ 1 = δ-same i in
      let oi : δ i i + (cnt i o + cnt_k i k) + 0 ≤ 1 = H.once i in
      let i≢ : i ≡ new → ⊥ = apart (λ v. cnt_k v (in_r o i k)) (omega arith) z in
      let same : (g : ℕ → ℕ) → g i ≡ 0 → g new ≡ 0 → (j : ℕ) → 1 ≤ g j → Agree A B j = λ g zi zn j m.
      slots q g zn j m refl (get_or-set_other S.R i j new 0 (apart g m zi)) in
      let in-k : (j : ℕ) → 1 ≤ cnt_k j k → Agree A B j = same (λ v. cnt_k v k) (omega arith) (omega arith) in
      put_in q (in_r o i k) z refl
      (get_or-set_other (set S.R i new) new i none 0 i≢ ∙ get_or-set_same S.R i new 0 (omega (arith, W.r))) (
        get_or-set_other S.L new i none 0 i≢ ∙ H.krep.0,
        record {
          fits = fi;
          up = get_or-set_other S.P new i i 0 i≢ ∙ H.krep.1.up;
          high = get_or-set_other S.H new i 0 0 i≢ ∙ H.krep.1.high;
          sib = frame A B n o i (same (λ v. cnt v o) (omega arith) (omega arith)) H.krep.1.sib;
          link = frame_link A B n k i refl in-k H.krep.1.link;
        },
        frame_k A B n k (suc (max 0 (ht o))) refl in-k H.krep.2,
      )
      (λ j. omega (arith, H.once j))

-- what `insert` needs, of the arena that it is lent
module _ (S : Lists) (new : ℕ) (w : Arena S new) where
  low : ht w.t ≤ 22
  low = at_most_22 (length S.L) w.t w.small (below (arr_of S) (length S.L) none w.t w.held.rep) (λ j. omega (arith, w.held.once j)) w.even

  pub linked : Linked S.L S.R S.root
  linked = record {
    t = w.t;
    n_is = w.long.r;
    small = w.small;
    links = links_of S (length S.L) none w.t w.held.rep;
    root_is = w.held.link;
    bound = omega (arith, low);
  }

  module _ (by : ℕ → Ordering) (q : Place) (e : spot_in by w.t Root ≡ Free q) where
    abbrev less : ℕ → Bool
    less = λ i. is_less (by i)

    abbrev k : Ctx
    k = path less w.t hole

    place_is : q ≡ place_in k
    place_is = spot_path by w.t hole q e

    at_new : At (arr_of (attached S q new)) (length S.L) new new leaf leaf k 0
    at_new = subst (λ (v : Place). At (arr_of (attached S v new)) (length S.L) new new leaf leaf k 0) (sym place_is)
        (put_at S (length S.L) new w.long w.new< k (path-cnt less new w.t hole ∙ omega (arith, w.fresh))
        (down less (arr_of S) (length S.L) w.t hole (record { link = w.held.link; rep = w.held.rep; krep = tt; once = w.held.once })))

    pub new_ready : Ready (attached S q new) new
    new_ready =
        let en : length (attached S q new).L ≡ length S.L = simp (length-set, put_left_length) in
        record {
          l = leaf;
          r = leaf;
          k = k;
          hh = 0;
          long = record {
            l = refl;
            r = simp (length-set, put_right_length, put_left_length) w.long.r;
            p = simp (length-set, put_left_length) w.long.p;
            h = simp (length-set, put_left_length) w.long.h;
          };
          small = omega (arith, w.small);
          at = subst (λ (m : ℕ). At (arr_of (attached S q new)) m new new leaf leaf k 0) (sym en) at_new;
          old = get_or-set_same S.H new 0 0 (omega (arith, w.new<, w.long.h));
          grown = omega arith;
          bound = omega (arith, path-peak less w.t hole, low);
          even = path_even less w.t hole w.even tt;
          full = λ j h. elim (ℕ_discrete j new) [
            | yes g ↦ let d : δ new j ≡ 1 = subst (λ (v : ℕ). δ new v ≡ 1) (sym g) (δ-same new) in omega arith
            | no g ↦ omega (arith, w.full j (omega arith) g, path-cnt less j w.t hole)
          ];
        }

    pub inserted : {T U : Lists} → T ≡ attached S q new
        → ((v : Ready T new) → Whole U (length T.L) (climb v.k (bal v.l new v.r))) → Whole U (length S.L) (ins less new w.t)
    unfolding new_ready bal
    inserted {T} {U} et f =
        let en : length (attached S q new).L ≡ length S.L = simp (length-set, put_left_length) in
        let g : (v : Ready (attached S q new) new) → Whole U (length (attached S q new).L) (climb v.k (bal v.l new v.r)) =
        subst (λ (T : Lists). (v : Ready T new) → Whole U (length T.L) (climb v.k (bal v.l new v.r))) et f in
        subst (λ (m : ℕ). Whole U m (ins less new w.t)) en
        (subst (λ (s : Tree). Whole U (length (attached S q new).L) s) (path-climb less new w.t hole) (g new_ready))

-- the two ways out of `insert`; the search was told of the names, in N, and is `by`
module _ (S : Lists) (N : Names) (new : ℕ) (w : Filled S N new) where
  pub sought : Sought S.L S.R S.root N
  unfolding linked
  sought = record { linked = linked S new w.arena; named = w.named }

  module _ (by : ℕ → Ordering) {s : Spot} (f : (v : Sought S.L S.R S.root N) → s ≡ spot_in by v.linked.t Root) where
    spot_is : s ≡ spot_in by w.arena.t Root
    unfolding sought linked
    spot_is = f sought

    pub out_same : {i : ℕ} → s ≡ Same i → Out S S by new w.arena.t (Duplicate i)
    out_same {i} e = subst (λ (z : Spot). OutBy z S S (λ j. is_less (by j)) new w.arena.t (Duplicate i)) (sym e ∙ spot_is) (refl, refl)

    pub free_is : {q : Place} → s ≡ Free q → spot_in by w.arena.t Root ≡ Free q
    free_is e = sym spot_is ∙ e

    pub out_free : {q : Place} → s ≡ Free q → {U : Lists} → Whole U (length S.L) (ins (λ i. is_less (by i)) new w.arena.t) → Out S U by new w.arena.t Done
    out_free {q} e {U} h = subst (λ (z : Spot). OutBy z S U (λ i. is_less (by i)) new w.arena.t Done) (sym e ∙ spot_is) (refl, h)
