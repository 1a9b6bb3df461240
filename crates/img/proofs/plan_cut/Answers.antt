-- `plan_cut` meets its contract: the columns are long enough to be cut, and what is past the counts is unchanged.
use Rattle.std.proofs.Common.{sym}
use Rattle.std.proofs.Math.Seq.{length-take-le}
use Rattle.img.proofs.Cutting.{in_first, in_share, in_sizes, in_tables, in_sized, in_start, in_len, in_kind, in_value, in_sectors, exact_cut, wide_cut, planned_in}
use Rattle.img.proofs.plan_cut.Goals as goal

pub cut_request-requires-clause-directories : goal.cut_request-requires-clause-directories
cut_request-requires-clause-directories c = (in_first _ _ c.requires, in_share _ _ c.requires)

pub cut_request-requires-clause-names : goal.cut_request-requires-clause-names
cut_request-requires-clause-names c = (in_start _ _ c.requires, in_len _ _ c.requires)

pub cut_request-requires-clause-entries : goal.cut_request-requires-clause-entries
cut_request-requires-clause-entries c = (in_kind _ _ c.requires, in_value _ _ c.requires)

pub slice_bounds-plan_counted-end : goal.slice_bounds-plan_counted-end
slice_bounds-plan_counted-end c = in_sized _ _ c.requires

pub slice_bounds-plan_counted-end-2 : goal.slice_bounds-plan_counted-end-2
slice_bounds-plan_counted-end-2 c = sym (length-take-le c.args.directories c.args.sized.now (in_sized _ _ c.requires))

pub slice_bounds-plan_counted-end-3 : goal.slice_bounds-plan_counted-end-3
slice_bounds-plan_counted-end-3 c = in_sizes _ _ c.requires

pub slice_bounds-plan_counted-end-4 : goal.slice_bounds-plan_counted-end-4
slice_bounds-plan_counted-end-4 c = sym (length-take-le c.args.directories c.args.sizes.now (in_sizes _ _ c.requires))

pub slice_bounds-plan_counted-end-5 : goal.slice_bounds-plan_counted-end-5
slice_bounds-plan_counted-end-5 c = in_tables _ _ c.requires

pub slice_bounds-plan_counted-end-6 : goal.slice_bounds-plan_counted-end-6
slice_bounds-plan_counted-end-6 c = sym (length-take-le c.args.directories c.args.tables.now (in_tables _ _ c.requires))

pub slice_bounds-plan_counted-end-7 : goal.slice_bounds-plan_counted-end-7
slice_bounds-plan_counted-end-7 c = in_sectors _ _ c.requires

pub slice_bounds-plan_counted-end-8 : goal.slice_bounds-plan_counted-end-8
slice_bounds-plan_counted-end-8 c = sym (length-take-le c.args.entries c.args.sectors.now (in_sectors _ _ c.requires))

pub plan_counted-requires-clause-exact : goal.plan_counted-requires-clause-exact
plan_counted-requires-clause-exact c = rw c.cut_request.ensures (exact_cut _ _ c.requires)

pub plan_counted-requires-clause-wide : goal.plan_counted-requires-clause-wide
plan_counted-requires-clause-wide c = rw c.cut_request.ensures (wide_cut _ _ c.requires)

pub returns-clause-planned : goal.returns-clause-planned
returns-clause-planned c = planned_in _ _ _ _ (rw c.cut_request.ensures at c.plan_counted.ensures.planned)
