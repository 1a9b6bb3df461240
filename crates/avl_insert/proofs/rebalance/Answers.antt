-- `rebalance` meets its contract, by the laws of `Climbing`. The climb ends early by `stopped`.
use Rattle.std.proofs.Common.{refl, ◌∙◌, inl, arith}
use Rattle.avl_model.proofs.Climbing.{going, ended, again, nearer, has_height, has_parent, stopped}
use Rattle.avl_insert.proofs.rebalance.Goals as goal

pub loop-at-init : goal.loop-at-init
loop-at-init c = ((refl, refl, refl, refl), λ w. inl (record { n_is = refl; ready = w; goal_is = refl }))

pub bounds-links-at : goal.bounds-links-at
bounds-links-at c = let g = going (c.loop-at.invariant.1 c.requires) c.loop-at-test.true in omega (arith, g.ready.at.fits, g.ready.long.h)

pub settle-top-requires : goal.settle-top-requires
settle-top-requires c = (going (c.loop-at.invariant.1 c.requires) c.loop-at-test.true).ready

pub bounds-links-top : goal.bounds-links-top
bounds-links-top c = has_height (going (c.loop-at.invariant.1 c.requires) c.loop-at-test.true) c.settle-top.ensures.settled

pub returns-then-links-top-clause-balanced : goal.returns-then-links-top-clause-balanced
returns-then-links-top-clause-balanced c = λ w.
    stopped (going (c.loop-at.invariant.1 w) c.loop-at-test.true) c.settle-top.ensures.settled c.if-links-top.true

pub bounds-links-top-in-loop-at : goal.bounds-links-top-in-loop-at
bounds-links-top-in-loop-at c = has_parent (going (c.loop-at.invariant.1 c.requires) c.loop-at-test.true) c.settle-top.ensures.settled

pub loop-at-smaller : goal.loop-at-smaller
loop-at-smaller c = nearer (going (c.loop-at.invariant.1 c.requires) c.loop-at-test.true) c.settle-top.ensures.settled

pub loop-at-preserved : goal.loop-at-preserved
loop-at-preserved c =
    let i = c.loop-at.invariant.0 in
    let e = c.settle-top.ensures.same in (
      (i.0 ∙ e.0, i.1 ∙ e.1, i.2 ∙ e.2, i.3 ∙ e.3),
      λ w. again (going (c.loop-at.invariant.1 w) c.loop-at-test.true) c.settle-top.ensures.settled,
    )

pub returns-clause-balanced : goal.returns-clause-balanced
returns-clause-balanced c = λ w. ended (c.loop-at.invariant.1 w) c.loop-at-test.false
