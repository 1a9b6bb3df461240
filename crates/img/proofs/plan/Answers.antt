-- `plan` meets its contract: the first 6 leaves all as it was, else the scratch is zero.
use Rattle.std.proofs.Common.{rules}
use Rattle.img.proofs.Left.{answer_none, left_none, answer_some, left_some, cleared}
use Rattle.img.proofs.plan.Goals as goal

pub returns-then-not-has_room-clause-answer : goal.returns-then-not-has_room-clause-answer
returns-then-not-has_room-clause-answer c = answer_none _ _ _ c.has_room.ensures c.if-not-has_room.true

pub returns-then-not-has_room-clause-memory : goal.returns-then-not-has_room-clause-memory
returns-then-not-has_room-clause-memory c = left_none _ _ _ c.has_room.ensures c.if-not-has_room.true

pub returns-clause-answer : goal.returns-clause-answer
returns-clause-answer c = answer_some _ _ _ c.has_room.ensures c.if-not-has_room.false _ _ c.plan_cut-planned.ensures.planned

pub returns-clause-memory : goal.returns-clause-memory
returns-clause-memory c =
    let z = c.clear_scratch.ensures.zero in
    let s = c.args.scratch.now in
    let p = c.plan_cut-planned in
    left_some _ _ _ c.has_room.ensures c.if-not-has_room.false _ _ p.ensures.planned _ _ _ _ _ _ _ _
    (cleared _ s.sized.now z.sized p.auto.sized)
    (cleared _ s.left.now z.left (search rules))
    (cleared _ s.right.now z.right (search rules))
    (cleared _ s.parent.now z.parent (search rules))
    (cleared _ s.height.now z.height (search rules))
    (cleared _ s.key.now z.key (search rules))
    (cleared _ s.size.now z.size (search rules))
    (cleared _ s.order.now z.order p.auto.order)
