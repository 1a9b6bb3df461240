-- `descend` meets its contract. The invariant is a function of the tree (`w`), since the `ensures` speaks of every tree that the links hold: what
-- is found below `at` is what is found in the whole. The measure is the height of the tree below `at`, as `tree_at` reads it off the links.
use Rattle.avl_model.specs.declared.Place.TheVariants.{Root}
use Rattle.avl_model.specs.Lent.{names_of}
use Rattle.avl_model.specs.Names.{Names, to_name}
use Rattle.avl_model.specs.inner.Names.{Inside}
use Rattle.avl_model.specs.Seek.{spot_in}
use Rattle.avl_model.specs.inner.Seek.{Sought}
use Rattle.avl_model.proofs.Seeking.{Seeking, depth}
use Rattle.avl_insert.proofs.descend.Given as goal

abbrev pub invariant-loop-at : goal.invariant-loop-at
invariant-loop-at l =
    let b = l.branches in
    let N : Names = names_of l.names in
    (w : Sought b.left.now b.right.now b.root N)
    → Seeking b.left.now b.right.now (to_name N l.name) (Inside N) l.at l.place (spot_in (to_name N l.name) w.linked.t Root)

abbrev pub decreases-loop-at : goal.decreases-loop-at
decreases-loop-at l = depth l.branches.left.now l.branches.right.now l.at
