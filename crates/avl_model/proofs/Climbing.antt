-- From one node on the way up to the next. The measure: the height that is held for the node, which rises.
use Rattle.std.proofs.Common.{ℕ, suc, ◌+◌, ◌-◌, ◌≤◌, ◌<◌, max, arith, ◌≡◌, refl, sym, ap, subst, ◌∙◌, Bool, true, false, ◌⊎◌, inl, inr, length, get_or, ltb, lt-ltb, le-ltb}
use Rattle.avl_model.specs.Lists.{Lists}
use Rattle.avl_model.specs.Tree.{Tree, leaf, node, none, top, ht, δ, cnt, bal}
use Rattle.avl_model.specs.Rep.{Arr, Rep}
use Rattle.avl_model.specs.inner.Rep.{Ctx, hole, in_l, in_r, over, plug, cnt_k, climb, RepK, At}
use Rattle.avl_model.specs.Rep.{arr_of}
use Rattle.avl_model.specs.inner.Held.{Long, Held, Ready, Up, Whole, peak, Even}
use Rattle.avl_model.proofs.Bal.{bal-cnt, bal-ht}
use Rattle.avl_model.proofs.Peak.{peak_ge}
use Rattle.avl_model.proofs.Weigh.{top_in}

-- at the loop's head: a node on the way up, or the end; either way the goal is the same tree
pub record Going (S : Lists) (n at : ℕ) (goal : Tree) : Type 0 where
  pub n_is : length S.L ≡ n
  pub ready : Ready S at
  pub goal_is : goal ≡ climb ready.k (bal ready.l at ready.r)

pub record Ended (S : Lists) (n at : ℕ) (goal : Tree) : Type 0 where
  pub out : none ≤ at
  pub whole : Whole S n goal

abbrev pub State : Lists → ℕ → ℕ → Tree → Type 0
State S n at goal = Going S n at goal ⊎ Ended S n at goal

abbrev pub mu_by : Bool → ℕ → ℕ
mu_by true x = suc x
mu_by false x = 0

-- falls from node to node
unfoldable pub mu : Lists → ℕ → ℕ
mu S at = mu_by (ltb at (length S.L)) (140 - get_or S.H at 0)

rep_up : (A : Arr) (n p : ℕ) (s : Tree) → Rep A n p s → 1 ≤ ht s → A.P (top s) ≡ p
rep_up A n p leaf c h = absurd (omega arith)
rep_up A n p (node l i r) c h = c.0.up

module _ (T : Lists) (n t : ℕ) (s : Tree) where
  -- the parent of what came up
  parent_is : (k : Ctx) (hh : ℕ) → Up T n t s k hh → 1 ≤ ht s → get_or T.P t 0 ≡ over k
  parent_is k hh U h = ap (λ (g : ℕ). get_or T.P g 0) U.root ∙ rep_up (arr_of T) n (over k) s U.held.rep h

  -- s, settled, is left of i
  next_left : (i : ℕ) (o : Tree) (k : Ctx) (hh : ℕ) → Up T n t s (in_l i o k) hh → n ≤ none → ht s ≤ suc hh → peak hh (in_l i o k) < 100 → Even hh (in_l i o k)
      → ((j : ℕ) → j < n → 1 ≤ cnt j s + (δ i j + (cnt j o + cnt_k j k))) → Ready T i
  next_left i o k hh U small g b v f =
      let en : length T.L ≡ n = U.long.l in
      let H : Held (arr_of T) n s (in_l i o k) hh = U.held in
      record {
        l = s;
        r = o;
        k = k;
        hh = suc (max hh (ht o));
        long = subst (λ (m : ℕ). Long m T) (sym en) U.long;
        small = omega arith;
        at = subst (λ (m : ℕ). At (arr_of T) m i i s o k (suc (max hh (ht o)))) (sym en) (record {
          fits = H.krep.1.fits;
          left = H.link;
          right = H.krep.0;
          up = H.krep.1.up;
          lrep = H.rep;
          rrep = H.krep.1.sib;
          link = H.krep.1.link;
          krep = H.krep.2;
          once = λ j. omega (arith, H.once j);
        });
        old = H.krep.1.high;
        grown = omega arith;
        bound = b;
        even = v.2;
        full = λ j h. omega (arith, f j (omega arith));
      }

  next_right : (o : Tree) (i : ℕ) (k : Ctx) (hh : ℕ) → Up T n t s (in_r o i k) hh → n ≤ none → ht s ≤ suc hh → peak hh (in_r o i k) < 100 → Even hh (in_r o i k)
      → ((j : ℕ) → j < n → 1 ≤ cnt j s + (δ i j + (cnt j o + cnt_k j k))) → Ready T i
  next_right o i k hh U small g b v f =
      let en : length T.L ≡ n = U.long.l in
      let H : Held (arr_of T) n s (in_r o i k) hh = U.held in
      record {
        l = o;
        r = s;
        k = k;
        hh = suc (max hh (ht o));
        long = subst (λ (m : ℕ). Long m T) (sym en) U.long;
        small = omega arith;
        at = subst (λ (m : ℕ). At (arr_of T) m i i o s k (suc (max hh (ht o)))) (sym en) (record {
          fits = H.krep.1.fits;
          left = H.krep.0;
          right = H.link;
          up = H.krep.1.up;
          lrep = H.krep.1.sib;
          rrep = H.rep;
          link = H.krep.1.link;
          krep = H.krep.2;
          once = λ j. omega (arith, H.once j);
        });
        old = H.krep.1.high;
        grown = omega arith;
        bound = b;
        even = v.2;
        full = λ j h. omega (arith, f j (omega arith));
      }

  next_state : (k : Ctx) (hh : ℕ) → Up T n t s k hh → n ≤ none → ht s ≤ suc hh → peak hh k < 100 → Even hh k → ((j : ℕ) → j < n → 1 ≤ cnt j s + cnt_k j k) → State T n (over k) (climb k s)
  unfolding next_left next_right
  next_state hole hh U small g b v f = inr (record { out = omega arith; whole = record { long = U.long; held = record { link = U.held.link; rep = U.held.rep; krep = tt; once = U.held.once } } })
  next_state (in_l i o k) hh U small g b v f = inl (record { n_is = U.long.l; ready = next_left i o k hh U small g b v f; goal_is = refl })
  next_state (in_r o i k) hh U small g b v f = inl (record { n_is = U.long.l; ready = next_right o i k hh U small g b v f; goal_is = refl })

  next_mu : (k : Ctx) (hh x : ℕ) → Up T n t s k hh → n ≤ none → peak hh k < 100 → x ≡ hh → mu T (over k) < suc (140 - x)
  unfolding mu
  next_mu hole hh x U small b e = rw (le-ltb none (length T.L) (omega (arith, U.long.l))) (omega arith)
  next_mu (in_l i o k) hh x U small b e =
      rw (lt-ltb i (length T.L) (omega (arith, U.long.l, U.held.krep.1.fits))) (omega (arith, U.held.krep.1.high, peak_ge k (suc (max hh (ht o)))))
  next_mu (in_r o i k) hh x U small b e =
      rw (lt-ltb i (length T.L) (omega (arith, U.long.l, U.held.krep.1.fits))) (omega (arith, U.held.krep.1.high, peak_ge k (suc (max hh (ht o)))))

module _ (S T : Lists) (at t : ℕ) (w : Ready S at) (U : Up T (length S.L) t (bal w.l at w.r) w.k w.hh) where
  up_at : get_or T.P t 0 ≡ over w.k
  up_at = parent_is T (length S.L) t (bal w.l at w.r) w.k w.hh U (bal-ht w.l at w.r).0

  pub next : State T (length S.L) (get_or T.P t 0) (climb w.k (bal w.l at w.r))
  next = subst (λ (g : ℕ). State T (length S.L) g (climb w.k (bal w.l at w.r))) (sym up_at)
      (next_state T (length S.L) t (bal w.l at w.r) w.k w.hh U w.small (omega (arith, (bal-ht w.l at w.r).1, w.grown)) w.bound w.even
      (λ j h. omega (arith, w.full j h, bal-cnt j w.l at w.r)))

  pub less : mu T (get_or T.P t 0) < mu S at
  unfolding mu
  less = rw (lt-ltb at (length S.L) w.at.fits)
      (subst (λ (g : ℕ). mu T g < suc (140 - get_or S.H at 0)) (sym up_at)
      (next_mu T (length S.L) t (bal w.l at w.r) w.k w.hh (get_or S.H at 0) U w.small w.bound w.old))

  pub inside : t < length S.L
  inside = subst (λ (g : ℕ). g < length S.L) (sym U.root) (top_in (arr_of T) (length S.L) (over w.k) (bal w.l at w.r) U.held.rep (bal-ht w.l at w.r).0)

-- ---- an unchanged height leaves all above unchanged

bal_near : (l : Tree) (i : ℕ) (r : Tree) → ht l ≤ suc (ht r) → ht r ≤ suc (ht l) → bal l i r ≡ node l i r
unfolding bal
bal_near l i r p q = rw (le-ltb (suc (ht r)) (ht l) p, le-ltb (suc (ht l)) (ht r) q)

-- where all around the hole is balanced with the height of s in it, nothing is rotated on the way up
pub climb_even : (k : Ctx) (s : Tree) → Even (ht s) k → climb k s ≡ plug k s
climb_even hole s e = refl
climb_even (in_l i r k) s e = ap (climb k) (bal_near s i r e.0 e.1) ∙ climb_even k (node s i r) e.2
climb_even (in_r l i k) s e = ap (climb k) (bal_near l i s e.1 e.0) ∙ climb_even k (node l i s) (subst (λ (g : ℕ). Even g k) (omega arith) e.2)

-- where the heights around the hole are those with s in it, the whole is held
pub plug_held : (A : Arr) (n : ℕ) (k : Ctx) (s : Tree) → Held A n s k (ht s) → Held A n (plug k s) hole 0
plug_held A n hole s H = record { link = H.link; rep = H.rep; krep = tt; once = H.once }
plug_held A n (in_l i r k) s H = plug_held A n k (node s i r) (record {
  link = H.krep.1.link;
  rep = (record { fits = H.krep.1.fits; left = H.link; right = H.krep.0; up = H.krep.1.up; high = H.krep.1.high }, H.rep, H.krep.1.sib);
  krep = H.krep.2;
  once = λ j. omega (arith, H.once j);
})
plug_held A n (in_r l i k) s H = plug_held A n k (node l i s) (record {
  link = H.krep.1.link;
  rep = (record { fits = H.krep.1.fits; left = H.krep.0; right = H.link; up = H.krep.1.up; high = H.krep.1.high ∙ omega arith }, H.krep.1.sib, H.rep);
  krep = subst (λ (g : ℕ). RepK A n g k) (omega arith) H.krep.2;
  once = λ j. omega (arith, H.once j);
})

rep_high : (A : Arr) (n p : ℕ) (s : Tree) → Rep A n p s → 1 ≤ ht s → A.H (top s) ≡ ht s
rep_high A n p leaf c h = absurd (omega arith)
rep_high A n p (node l i r) c h = c.0.high

module _ (S T : Lists) (at t : ℕ) (w : Ready S at) (U : Up T (length S.L) t (bal w.l at w.r) w.k w.hh) (e : get_or T.H t 0 ≡ get_or S.H at 0) where
  abbrev s : Tree
  s = bal w.l at w.r

  high : w.hh ≡ ht s
  high = sym w.old ∙ sym e ∙ ap (λ (g : ℕ). get_or T.H g 0) U.root ∙ rep_high (arr_of T) (length S.L) (over w.k) s U.held.rep (bal-ht w.l at w.r).0

  pub settled : Whole T (length S.L) (climb w.k s)
  settled = record {
    long = U.long;
    held = subst (λ (g : Tree). Held (arr_of T) (length S.L) g hole 0) (sym (climb_even w.k s (subst (λ (g : ℕ). Even g w.k) high w.even)))
        (plug_held (arr_of T) (length S.L) w.k s (subst (λ (g : ℕ). Held (arr_of T) (length S.L) s w.k g) high U.held));
  }

-- ---- the loop's turn, said of its state

pub going : {S : Lists} {n at : ℕ} {goal : Tree} → State S n at goal → at < none → Going S n at goal
going (inl g) h = g
going (inr e) h = absurd (omega (arith, e.out))

pub ended : {S : Lists} {n at : ℕ} {goal : Tree} → State S n at goal → none ≤ at → Whole S n goal
ended (inl g) h = absurd (omega (arith, g.ready.at.fits, g.ready.small))
ended (inr e) h = e.whole

module _ {S T : Lists} {n at t : ℕ} {goal : Tree} (g : Going S n at goal) (f : (w : Ready S at) → Up T (length S.L) t (bal w.l at w.r) w.k w.hh) where
  pub has_height : t < length T.H
  has_height = omega (arith, inside S T at t g.ready (f g.ready), (f g.ready).long.h)

  pub has_parent : t < length T.P
  has_parent = omega (arith, inside S T at t g.ready (f g.ready), (f g.ready).long.p)

  pub again : State T n (get_or T.P t 0) goal
  again = subst (λ (m : ℕ). State T m (get_or T.P t 0) goal) g.n_is
      (subst (λ (q : Tree). State T (length S.L) (get_or T.P t 0) q) (sym g.goal_is) (next S T at t g.ready (f g.ready)))

  pub nearer : mu T (get_or T.P t 0) < mu S at
  nearer = less S T at t g.ready (f g.ready)

  pub stopped : get_or T.H t 0 ≡ get_or S.H at 0 → Whole T n goal
  stopped e = subst (λ (m : ℕ). Whole T m goal) g.n_is
      (subst (λ (q : Tree). Whole T (length S.L) q) (sym g.goal_is) (settled S T at t g.ready (f g.ready) e))
