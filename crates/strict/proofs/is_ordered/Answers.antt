-- `strict::is_ordered` meets its contract: both bounds of the visit. Assumes nothing.
use mathlib.Core.Path.{sym, ◌∙◌}
use Rattle.strict.proofs.Names.{no_under, under_is, no_over, over_is, not_under, both_bounds}
use Rattle.strict.proofs.is_ordered.Goals.{in-Some+else-not-is_lt, in_default}
use Rattle.strict.proofs.is_ordered.Goals as goal

pub returns-then-not-is_lt : goal.returns-then-not-is_lt
returns-then-not-is_lt c =
    not_under _ _ _ _ _ _ c.under.ensures (sym c.if-not-is_lt.true ∙ under_is _ _ _ _ _ _ c.in-Some.ensures _ _ c.is_lt.ensures c.compare.ensures)

pub returns-in-Some-bound_name : goal.returns-in-Some-bound_name
returns-in-Some-bound_name c =
    both_bounds _ _ _ _ _ _ c.under.ensures
    (elim c.match-bound_name.branch [
      | in-Some+else-not-is_lt w ↦ sym w.if-not-is_lt.false ∙ under_is _ _ _ _ _ _ w.in-Some.ensures _ _ w.is_lt.ensures w.compare.ensures
      | in_default w ↦ no_under _ _ _ _ _ (rw w.in_default.is at c.bound_name.ensures)
    ])
    _ c.over.ensures _ (over_is _ _ _ _ _ _ c.in-Some-bound_name.ensures _ _ c.is_lt-in-Some-bound_name.ensures c.compare-in-Some-bound_name.ensures)

pub returns-in-None : goal.returns-in-None
returns-in-None c =
    both_bounds _ _ _ _ _ _ c.under.ensures
    (elim c.match-bound_name.branch [
      | in-Some+else-not-is_lt w ↦ sym w.if-not-is_lt.false ∙ under_is _ _ _ _ _ _ w.in-Some.ensures _ _ w.is_lt.ensures w.compare.ensures
      | in_default w ↦ no_under _ _ _ _ _ (rw w.in_default.is at c.bound_name.ensures)
    ])
    _ c.over.ensures _ (no_over _ _ _ _ _ c.in-None.ensures)
