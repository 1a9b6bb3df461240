-- `run_block` stays in bounds and ends: each record takes two bytes at least. Assumes nothing.
use Rattle.std.proofs.Common.{◌-◌, length}
use Rattle.replay.proofs.Tally.run_block.Given as goal

abbrev pub invariant-loop-at : goal.invariant-loop-at
invariant-loop-at l = Unit {0}

abbrev pub decreases-loop-at : goal.decreases-loop-at
decreases-loop-at l = length l.block.bytes.now - l.at
