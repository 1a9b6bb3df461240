-- `strict::run` meets its contract. The loop's invariant is `State` of proofs/Turn.antt, which has a lemma for each way out of a turn and each
-- way round. The measure: each entry takes a place of the list and adds at most one to the stack; anything else takes one from the stack.
-- Assumes nothing.
use Prim.Native.Nat.{◌+◌, ◌-◌, ◌*◌}
use mathlib.Core.Path.{◌≡◌}
use lib.ListN.{length}
use Rattle.strict.specs.inner.Run.{run_of}
use Rattle.strict.proofs.Turn.{State}
use Rattle.strict.proofs.run.Given as goal

abbrev pub invariant-loop-top : goal.invariant-loop-top
invariant-loop-top l =
    let t = l.table in
    let w = t.window.now in
    State w t.first t.region (run_of w t.first t.region (length l.initial.list)) (length l.initial.list) (length l.initial.scratch) l.list l.scratch l.map l.top l.n
    × (length l.map ≡ length l.initial.map)

abbrev pub decreases-loop-top : goal.decreases-loop-top
decreases-loop-top l = 2 * (length l.initial.list - l.n) + l.top
