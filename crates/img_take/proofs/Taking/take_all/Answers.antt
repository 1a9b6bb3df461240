-- `take_all` meets its contract.
use Rattle.std.proofs.Common.{◌<◌, length, rules, arith, refl}
use Rattle.img_model.specs.Columns.{columns_in}
use Rattle.img_take.specs.inner.Forward.{with_names}
use Rattle.img_take.specs.inner.Taken.{taking_in}
use Rattle.img_take.proofs.Turns.{turn_at, taken_start, taken_fits, taken_next, taken_end, to_next, to_room}
use Rattle.img_take.proofs.Taking.take_all.Goals as goal

pub loop-d-init : goal.loop-d-init
loop-d-init c = (
  search rules,
  λ N w p e. taken_start (with_names (columns_in c.args.tables.request) N) c.args.tables.sized.now refl,
  search rules,
  search rules,
)

pub take_table-requires-clause-turn : goal.take_table-requires-clause-turn
take_table-requires-clause-turn c =
    let N = c.requires.sized.0 in
    let w = c.requires.sized.1.0 in
    let p = c.requires.sized.1.1 in
    let h : c.loop-d.d < length c.args.tables.request.from.now = omega (arith, w.sizeable.shared, c.loop-d-test.true) in (
      N,
      (turn_at w (search rules) h c.loop-d.invariant.0, taken_fits (c.loop-d.invariant.1 N w p.0 p.1) h p.0 p.1),
    )

pub overflow_sub-to : goal.overflow_sub-to
overflow_sub-to c =
    let l = c.loop-d in to_room (columns_in c.args.tables.request) l.d l.to c.loop-d-test.true l.invariant.0

pub loop-d-preserved : goal.loop-d-preserved
loop-d-preserved c =
    let l = c.loop-d in (
      to_next (columns_in c.args.tables.request) l.d l.to c.loop-d-test.true l.invariant.0,
      λ N w p e.
          let h : c.loop-d.d < length c.args.tables.request.from.now = omega (arith, w.sizeable.shared, c.loop-d-test.true) in
          let so = l.invariant.1 N w p e in
          let q = taken_fits so h p e in
          taken_next so (taking_in c.take_table.new.self)
          (c.take_table.ensures.taken N (turn_at w (search rules) h l.invariant.0) q.0 q.1) h,
      search rules,
      search rules,
    )

pub returns-clause-taken : goal.returns-clause-taken
returns-clause-taken c = λ N w p e.
    taken_end (c.loop-d.invariant.1 N w p e) (omega (arith, w.sizeable.shared, c.loop-d-test.false)) p e
