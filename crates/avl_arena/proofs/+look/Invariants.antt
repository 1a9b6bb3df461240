-- The measure of the recursion of `look` is its depth.
use Rattle.avl_arena.proofs.+look.Given as goal

abbrev pub decreases-look : goal.decreases-look
decreases-look l = l.d
