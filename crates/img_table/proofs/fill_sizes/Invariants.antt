-- `fill_sizes` meets its contract. The loop's invariant: the first sizes fit, so that the first that does not is to be
-- looked for from the next on; and they are in the column.
use Rattle.std.proofs.Common.{ℕ, ◌-◌, ◌<◌, ◌≡◌, length, get_or}
use Rattle.img_model.specs.Plan.{table_in, size_at}
use Rattle.img_model.specs.Columns.{share_in}
use Rattle.img_table.specs.inner.Arranging.{fitting}
use Rattle.img_table.proofs.fill_sizes.Given as goal

abbrev pub invariant-loop-i : goal.invariant-loop-i
invariant-loop-i l =
    let f = size_at (share_in l.share) (table_in l.sized) in
    let n = length l.share.kind.now in
    let i = l.i in
    (fitting f n 0 ≡ fitting f (n - i) i) × ((j : ℕ) → j < i → get_or l.size j 0 ≡ f j)
