-- The first step of the climb: a node with no children gets its height, and then its parent is the next.
use Rattle.std.proofs.Common.{ℕ, ◌+◌, ◌≤◌, ◌<◌, max, ◌≡◌, refl, sym, ap, subst, List, length, get_or, set, length-set, arith}
use Rattle.std.proofs.Math.ListN.{get_or-eq_default}
use Rattle.avl_model.specs.Lists.{Lists, lists}
use Rattle.avl_model.specs.inner.Lists.{risen}
use Rattle.avl_model.specs.Tree.{Tree, none, bal}
use Rattle.avl_model.specs.inner.Rep.{climb}
use Rattle.avl_model.specs.inner.Held.{Ready, Up, Whole}
use Rattle.avl_model.proofs.Level.{leaf_leaves}
use Rattle.avl_model.proofs.Climbing.{State, next, going, ended}

-- an index that is none holds no height
none_high : (H : List ℕ) (i : ℕ) → length H ≤ none → i ≡ none → get_or H i 0 ≡ 0
none_high H i h e = get_or-eq_default H 0 (omega arith)

module _ (S : Lists) (new : ℕ) (nl : get_or S.L new 0 ≡ none) (nr : get_or S.R new 0 ≡ none) (w : Ready S new) where
  -- the lists once the node has its height
  abbrev T : Lists
  T = lists S.root S.L S.R S.P (set S.H new 1)

  low : length S.H ≤ none
  low = omega (arith, w.long.h, w.small)

  low_after : length (set S.H new 1) ≤ none
  low_after = rw length-set low

  high_is : set S.H new 1 ≡ risen S.L S.R S.H new
  high_is = ap (set S.H new) one
    where
      one : 1 ≡ max (get_or S.H (get_or S.L new 0) 0) (get_or S.H (get_or S.R new 0) 0) + 1
      one = omega (arith, none_high S.H (get_or S.L new 0) low nl, none_high S.H (get_or S.R new 0) low nr)

  up : Up T (length S.L) new (bal w.l new w.r) w.k w.hh
  up = leaf_leaves S new w T (λ d. lists S.root S.L S.R S.P (high_is d)) 0 0
      (sym (none_high (set S.H new 1) (get_or S.L new 0) low_after nl)) (sym (none_high (set S.H new 1) (get_or S.R new 0) low_after nr)) refl

  above : State T (length S.L) (get_or S.P new 0) (climb w.k (bal w.l new w.r))
  above = next S T new new w up

  -- it is the root
  pub alone : get_or S.P new 0 ≡ none → Whole T (length S.L) (climb w.k (bal w.l new w.r))
  alone h = ended above (omega arith)

  -- it has a parent
  module _ (h : get_or S.P new 0 < none) where
    pub parent_ready : Ready T (get_or S.P new 0)
    parent_ready = (going above h).ready

    pub risen_whole : {U : Lists} → ((v : Ready T (get_or S.P new 0)) → Whole U (length S.L) (climb v.k (bal v.l (get_or S.P new 0) v.r))) → Whole U (length S.L) (climb w.k (bal w.l new w.r))
    risen_whole {U} f = subst (λ (t : Tree). Whole U (length S.L) t) (sym (going above h).goal_is) (f (going above h).ready)
