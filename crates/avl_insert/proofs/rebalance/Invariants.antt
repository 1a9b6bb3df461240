-- `rebalance` meets its contract. The invariant: the columns stay the same, and for every tree that they held at first there is a state of the climb
-- whose goal is the same tree (`State`). The measure is 140 less the height held for `at`: heights rise on the way up.
use Rattle.std.proofs.Common.{length}
use Rattle.avl_model.specs.Lent.{IsSame, lists_of}
use Rattle.avl_model.specs.Tree.{bal}
use Rattle.avl_model.specs.inner.Rep.{climb}
use Rattle.avl_model.specs.inner.Held.{Ready}
use Rattle.avl_model.proofs.Climbing.{State, mu}
use Rattle.avl_insert.proofs.rebalance.Given as goal

abbrev pub invariant-loop-at : goal.invariant-loop-at
invariant-loop-at l =
    IsSame l.initial.links l.links
    × ((w : Ready (lists_of l.initial.links) l.from) → State (lists_of l.links) (length l.initial.links.left.now) l.at (climb w.k (bal w.l l.from w.r)))

abbrev pub decreases-loop-at : goal.decreases-loop-at
decreases-loop-at l = mu (lists_of l.links) l.at
