-- Columns that hold a tree of the first n numbers, as the search and the insertion ask for it, and with one number more. Assumes nothing.
use Rattle.std.proofs.Common.{ℕ, ◌+◌, ◌≤◌, ◌<◌, arith, ◌≡◌, refl, sym, subst, ◌∙◌, Bool, List, length, set, length-set, get_or-set_same, get_or-set_other}
use native.Mathlib.Decide.{ℕ_discrete}
use Rattle.avl_model.specs.Tree.{Tree, leaf, node, none, ht, δ, ins}
use Rattle.avl_model.specs.Laws.{All}
use Rattle.avl_model.specs.Lists.{Lists}
use Rattle.avl_model.specs.Names.{Names, name_at}
use Rattle.avl_model.specs.inner.Names.{Inside}
use Rattle.avl_model.specs.Rep.{Arr, Rep}
use Rattle.avl_model.specs.inner.Rep.{hole}
use Rattle.avl_model.specs.Rep.{arr_of}
use Rattle.avl_model.specs.inner.Held.{Long, Held, Arena, Whole}
use Rattle.avl_keyed.specs.inner.Key.{Keyed, KeySought, key_for}
use Rattle.avl_model.proofs.Adding.{links_of, below}
use Rattle.avl_model.proofs.Avl.{at_most_22, ins_avl, all_ins}
use Rattle.avl_model.proofs.Bal.{ins-cnt}
use Rattle.avl_model.proofs.Counted.{all_below}
use Rattle.avl_model.proofs.Frame.{δ-same}
use Rattle.dirtab_grow.specs.inner.Growing.{Grown, Growing}

-- a key that is stored at a number that the tree does not have leaves the others
key_kept : (K : List ℕ) (N : Names) (new k : ℕ) (t : Tree) → All (λ j. j < new) t → All (Keyed K N) t → All (Keyed (set K new k) N) t
key_kept K N new k leaf b a = tt
key_kept K N new k (node l i r) b a = (
  record {
    inside = a.0.inside;
    has = simp length-set a.0.has;
    key_is = get_or-set_other K new i k 0 (λ e. omega (arith, b.0)) ∙ a.0.key_is;
  },
  key_kept K N new k l b.1 a.1,
  key_kept K N new k r b.2 a.2,
)

-- what is held below n is held below m
pub rep_up : (A : Arr) (n m p : ℕ) (t : Tree) → n ≤ m → Rep A n p t → Rep A m p t
rep_up A n m p leaf h c = tt
rep_up A n m p (node l i r) h c = (
  record { fits = omega (arith, c.0.fits); left = c.0.left; right = c.0.right; up = c.0.up; high = c.0.high },
  rep_up A n m i l h c.1,
  rep_up A n m i r h c.2,
)

module _ (S : Lists) (K : List ℕ) (N : Names) (new : ℕ) (long : Long (new + 1) S) (w : Growing S K N new) where
  pub rep_all : Rep (arr_of S) (length S.L) none w.t
  rep_all = rep_up (arr_of S) new (length S.L) none w.t (omega (arith, long.l)) w.grown.held.rep

  pub low : ht w.t ≤ 22
  low = at_most_22 new w.t (omega (arith, w.grown.low)) (below (arr_of S) new none w.t w.grown.held.rep) (λ j. omega (arith, w.grown.held.once j)) w.grown.even

  -- the search may go down
  unfoldable pub sought_in : KeySought S.L S.R K S.root N
  sought_in = record {
    linked = record {
      t = w.t;
      n_is = long.r ∙ sym long.l;
      small = omega (arith, long.l, w.grown.low);
      links = links_of S (length S.L) none w.t rep_all;
      root_is = w.grown.held.link;
      bound = omega (arith, low);
    };
    keyed = w.keyed;
  }

  -- there is a place for one number more
  unfoldable pub arena_in_lem : Arena S new
  arena_in_lem = record {
    t = w.t;
    long = record { l = refl; r = long.r ∙ sym long.l; p = long.p ∙ sym long.l; h = long.h ∙ sym long.l };
    small = omega (arith, long.l, w.grown.low);
    held = record { link = w.grown.held.link; rep = rep_all; krep = tt; once = w.grown.held.once };
    new< = omega (arith, long.l);
    fresh = all_below new w.t new (below (arr_of S) new none w.t w.grown.held.rep) (omega arith);
    full = λ j h ne. w.grown.full j (omega (arith, long.l));
    even = w.grown.even;
  }

  -- with the new number in the tree
  pub grown_more : (T : Lists) (less : ℕ → Bool) → Inside N new → new < 16384 → Whole T (length S.L) (ins less new w.t) → Grown T N (new + 1) (ins less new w.t)
  grown_more T less ins-inside h W = record {
    held = subst (λ (m : ℕ). Held (arr_of T) m (ins less new w.t) hole 0) long.l W.held;
    full = λ j k. elim (ℕ_discrete new j) [
      | yes e ↦ let d : δ new j ≡ 1 = subst (λ (v : ℕ). δ new v ≡ 1) e (δ-same new) in omega (arith, ins-cnt less new j w.t)
      | no ne ↦ omega (arith, ins-cnt less new j w.t, w.grown.full j (omega (arith, ne)))
    ];
    even = ins_avl less new w.t w.grown.even;
    named = all_ins (Inside N) less new w.t ins-inside w.grown.named;
    low = omega arith;
  }

  -- and with its key
  pub keyed_more : (less : ℕ → Bool) (k : ℕ) → Inside N new → new < length K → k ≡ key_for (name_at N new) → All (Keyed (set K new k) N) (ins less new w.t)
  keyed_more less k inside has e =
      all_ins (Keyed (set K new k) N) less new w.t
      (record { inside = inside; has = simp length-set has; key_is = get_or-set_same K new k 0 has ∙ e })
      (key_kept K N new k w.t (below (arr_of S) new none w.t w.grown.held.rep) w.keyed)
