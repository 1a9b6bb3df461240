-- `size_tables` meets its contract. The loop's invariant: the tables of the directories from d on stand, and sizing the
-- others makes the whole (`Going`); the scratch keeps its columns.
use Rattle.std.proofs.Common.{◌≡◌}
use Rattle.img_model.specs.Columns.{columns_in}
use Rattle.img_table.specs.inner.Scratch.{places_in, IsSameScratch}
use Rattle.img_size.proofs.Going.{Going}
use Rattle.img_size.proofs.size_tables.Given as goal

abbrev pub invariant-loop-d : goal.invariant-loop-d
invariant-loop-d l =
    Going (columns_in l.request) l.initial.sized l.sized l.order l.at l.d
    × (places_in l.scratch ≡ places_in l.initial.scratch) × IsSameScratch l.initial.scratch l.scratch
