-- The children of an entry with their nearest bounds alone, as the code keeps them: of the entries above a place the
-- nearest in whose left subtree it stands, and the nearest in whose right. The check answers the same by them
-- (proofs/Nearest.antt). Assumes nothing.
use Rattle.std.specs.Prelude.{List, take}
use Rattle.read_entry.specs.declared.Placed.{Placed}
use Rattle.strict_rule.specs.Strict.{Visit, visit_left, visit_right, push}

-- of the bounds on each side the nearest alone
abbrev pub nearest : Visit → Visit
nearest v = record { offset = v.offset; under = take 1 v.under; over = take 1 v.over }

-- the children of an entry x, read at a visit, on the stack: the left one on top
abbrev pub entered_nearest : Visit → Placed → List Visit → List Visit
entered_nearest v x stack =
    push x.header.left.0 (nearest (visit_left x.header.left.0 v))
    (push x.header.right.0 (nearest (visit_right x.header.right.0 v)) stack)
