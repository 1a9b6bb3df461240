-- `read_lookup::look_up_by` meets its contract: a lookup in the table's own part of the window is the lookup in the window (proofs/Moved.antt). Assumes nothing.
use Rattle.std.proofs.Common.{arith}
use Rattle.read_lookup.proofs.Moved.{part_short, place_held, found_over, refused_over}
use Rattle.read_lookup.proofs.look_up_by.Goals as goal

pub overflow_sub-base : goal.overflow_sub-base
overflow_sub-base c = part_short c.args.table c.narrowed-part.result c.narrowed-part.ensures

pub returns-in_err-found : goal.returns-in_err-found
returns-in_err-found c = refused_over _ c.args.table c.narrowed-part.result c.narrowed-part.ensures _ _ c.in_err-found.ensures _ c.from_residual.ensures.1

pub overflow_add-found : goal.overflow_add-found
overflow_add-found c =
    let held = place_held _ c.args.table c.narrowed-part.result c.narrowed-part.ensures _ _ c.in_ok-found.ensures in
    omega (arith, held, part_short c.args.table c.narrowed-part.result c.narrowed-part.ensures, c.well_formed.0)

pub returns : goal.returns
returns c = found_over _ c.args.table c.narrowed-part.result c.narrowed-part.ensures _ _ c.in_ok-found.ensures
