-- `read_walk::run` meets its contract. The loop's invariant is `State` of proofs/Turn.antt, which has a lemma for each way out of a turn and each
-- way round. The measure: each entry takes a place of the list and adds at most one to the stack; anything else takes one from the stack.
-- Assumes nothing.
use Prim.Native.Nat.{◌+◌, ◌-◌, ◌*◌}
use mathlib.Core.List.{[], ◌∷◌}
use lib.ListN.{length}
use Rattle.read_walk.proofs.Turn.{walk_on, State}
use Rattle.read_walk.proofs.run.Given as goal

abbrev pub invariant-loop-top : goal.invariant-loop-top
invariant-loop-top l =
    let t = l.table in
    let w = t.window.now in
    State w t.first t.region (walk_on w t.first t.region (length l.initial.list) (0 ∷ [])) (length l.initial.list) (length l.initial.scratch) l.list l.scratch l.top l.n

abbrev pub decreases-loop-top : goal.decreases-loop-top
decreases-loop-top l = 2 * (length l.initial.list - l.n) + l.top
