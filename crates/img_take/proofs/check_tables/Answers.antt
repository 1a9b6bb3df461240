-- `check_tables` meets its contract.
use Rattle.std.proofs.Common.{◌<◌, length, arith, refl, ◌∙◌, rules}
use Rattle.img_model.specs.Columns.{columns_in}
use Rattle.img_take.specs.inner.Forward.{with_names}
use Rattle.img_take.proofs.Turns.{checked_start, checked_next, checked_stop, checked_end, turn_at, to_next, to_room, placed_on}
use Rattle.img_take.proofs.check_tables.Goals as goal

pub loop-d-init : goal.loop-d-init
loop-d-init c = (
  search rules,
  λ N w. checked_start (with_names (columns_in c.args.tables.request) N) c.args.tables.sized.now (search rules),
)

pub check_table-requires : goal.check_table-requires
check_table-requires c =
    let w = c.requires.sized.1 in
    (c.requires.sized.0, turn_at w (search rules) (omega (arith, w.sizeable.shared, c.loop-d-test.true)) c.loop-d.invariant.0)

pub returns-in_err-free : goal.returns-in_err-free
returns-in_err-free c = λ N w first sectors.
    let e = c.in_err-free.field-0.0 in
    let h : c.loop-d.d < length c.args.tables.request.from.now = omega (arith, w.sizeable.shared, c.loop-d-test.true) in
    placed_on c.from_residual.result e c.from_residual.ensures.1
    ∙ checked_stop (c.loop-d.invariant.1 N w) e (c.in_err-free.ensures N (turn_at w (search rules) h c.loop-d.invariant.0)) h
    first sectors refl

pub overflow_sub-to : goal.overflow_sub-to
overflow_sub-to c =
    let l = c.loop-d in to_room (columns_in c.args.tables.request) l.d l.to c.loop-d-test.true l.invariant.0

pub loop-d-preserved : goal.loop-d-preserved
loop-d-preserved c =
    let l = c.loop-d in (
      to_next (columns_in c.args.tables.request) l.d l.to c.loop-d-test.true l.invariant.0,
      λ N w.
          let h : c.loop-d.d < length c.args.tables.request.from.now = omega (arith, w.sizeable.shared, c.loop-d-test.true) in
          checked_next (l.invariant.1 N w) c.in_ok-free.free.0
          (c.in_ok-free.ensures N (turn_at w (search rules) h l.invariant.0)) h,
    )

pub returns : goal.returns
returns c = λ N w first sectors.
    checked_end (c.loop-d.invariant.1 N w) (omega (arith, w.sizeable.shared, c.loop-d-test.false)) first sectors refl
