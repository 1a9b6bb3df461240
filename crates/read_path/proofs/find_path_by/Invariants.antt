-- `read_path::find_path_by` meets its contract. The loop's invariant: what is to be answered is the answer of the parts of what is left of the path,
-- in the table that the loop stands in. Assumes nothing.
use Rattle.std.proofs.Common.{◌≡◌, length, [], ◌∷◌}
use Rattle.read_path.specs.Path.{split, unended, parts_from, path_by}
use Rattle.read_path.proofs.find_path_by.Given as goal

abbrev pub invariant-loop-table : goal.invariant-loop-table
invariant-loop-table l =
    let t = l.initial.table in
    path_by (0 ∷ l.absent ∷ []) t.window.now t.first t.region l.path
    ≡ parts_from (0 ∷ l.absent ∷ []) l.table.window.now l.table.first l.table.region (unended (split l.rest))

abbrev pub decreases-loop-table : goal.decreases-loop-table
decreases-loop-table l = length l.rest
