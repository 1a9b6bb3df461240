-- `read_walk::run` meets its contract. The loop's invariant is `State` of proofs/Turn.antt, which has a lemma for each way out of a turn and each
-- way round. The measure: each entry takes a place of the list and adds at most one to the stack; anything else takes one from the stack.
-- Assumes nothing.
use mathlib.Core.Path.{refl}
use borrow.Author.Rules.{rules}
use Rattle.read_walk.proofs.Turn.{starts, done, full, unread, nothing, entry}
use Rattle.read_walk.proofs.run.Goals as goal

pub loop-top-init : goal.loop-top-init
loop-top-init c = search starts

pub returns-in_err-x : goal.returns-in_err-x
returns-in_err-x c = unread _ _ _ _ _ _ _ _ _ _ c.loop-top.invariant (search rules) _ c.new.ensures _ c.in_err-x.ensures _ c.from_residual.ensures

pub returns-then-list-n : goal.returns-then-list-n
returns-then-list-n c = full _ _ _ _ _ _ _ _ _ _ c.loop-top.invariant (search rules) _ c.new.ensures _ (rw c.in-Some.is at c.in_ok-x.ensures) (search rules)

pub loop-top-preserved-in-Some : goal.loop-top-preserved-in-Some
loop-top-preserved-in-Some c =
    entry _ _ _ _ _ _ _ _ _ _ c.loop-top.invariant (search rules) _ c.new.ensures _ (rw c.in-Some.is at c.in_ok-x.ensures) (search rules) _ _ c.push_link-top.ensures _ _ c.push_link-top-in-Some.ensures _ refl

pub loop-top-preserved : goal.loop-top-preserved
loop-top-preserved c = nothing _ _ _ _ _ _ _ _ _ _ c.loop-top.invariant (search rules) _ c.new.ensures (rw c.in_default.is at c.in_ok-x.ensures) _ refl

pub returns : goal.returns
returns c = search done
