-- `fill_sizes` meets its contract.
use Rattle.std.proofs.Common.{rules, refl}
use Rattle.img_model.specs.Plan.{table_in, size_at}
use Rattle.img_model.specs.Columns.{share_in}
use Rattle.img_table.proofs.Fitting.{fit_next, fit_stop, fit_last, stored}
use Rattle.img_table.proofs.fill_sizes.Goals as goal

pub returns-then-n-gt4294967295-clause-answer : goal.returns-then-n-gt4294967295-clause-answer
returns-then-n-gt4294967295-clause-answer c = search fit_stop

pub loop-i-preserved : goal.loop-i-preserved
loop-i-preserved c =
    let a = c.args in
    let l = c.loop-i in (
      search fit_next,
      stored (size_at (share_in a.share) (table_in a.sized.now)) l.size l.i _ c.size_for-n.result _ l.invariant.1 refl
          (search rules) c.size_for-n.ensures refl,
    )

pub returns-clause-answer : goal.returns-clause-answer
returns-clause-answer c = search fit_last
