-- `avl_arena::are_inside` meets its contract. The invariant: each name before i is inside.
use Rattle.std.proofs.Common.{◌≡◌, true}
use Rattle.avl_model.specs.Lent.{names_of}
use Rattle.avl_arena.specs.Test.{every, inside}
use Rattle.avl_arena.proofs.are_inside.Given as goal

abbrev pub invariant-loop-i : goal.invariant-loop-i
invariant-loop-i l = every (inside (names_of l.names)) l.i ≡ true
