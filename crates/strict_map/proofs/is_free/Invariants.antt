-- `strict_map::is_free` meets its contract. The loop's invariant is `Passing` of proofs/Turn.antt: the last unit is free, and every fourth before the next.
-- Assumes nothing.
use Prim.Native.Nat.{◌+◌, ◌-◌}
use Rattle.strict_map.proofs.Turn.{Passing}
use Rattle.strict_map.proofs.is_free.Given as goal

abbrev pub invariant-loop-unit : goal.invariant-loop-unit
invariant-loop-unit l = Passing l.map l.from l.to l.unit

abbrev pub decreases-loop-unit : goal.decreases-loop-unit
decreases-loop-unit l = l.to + 4 - l.unit
