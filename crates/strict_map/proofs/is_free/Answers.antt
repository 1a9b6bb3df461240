-- `strict_map::is_free` meets its contract. The loop's invariant is `Passing` of proofs/Turn.antt: the last unit is free, and every fourth before the next.
-- Assumes nothing.
use Prim.Native.Nat.{◌-◌}
use mathlib.Core.Path.{refl}
use native.Mathlib.Omega.{arith}
use borrow.Author.Rules.{rules}
use Rattle.strict_map.proofs.Turn.{marked_unit, begun, passed, all_passed}
use Rattle.strict_map.proofs.is_free.Goals as goal

pub returns-then-map-to-ne0 : goal.returns-then-map-to-ne0
returns-then-map-to-ne0 c = marked_unit _ _ _ (c.args.to - 1) (search rules) (search rules) (search rules)

pub loop-unit-init : goal.loop-unit-init
loop-unit-init c = search begun

pub returns-then-map-unit-ne0 : goal.returns-then-map-unit-ne0
returns-then-map-unit-ne0 c = search marked_unit

pub loop-unit-preserved : goal.loop-unit-preserved
loop-unit-preserved c = search passed

pub returns-else-map-to-ne0 : goal.returns-else-map-to-ne0
returns-else-map-to-ne0 c = search all_passed

pub returns-else-map-unit-ne0 : goal.returns-else-map-unit-ne0
returns-else-map-unit-ne0 c = all_passed _ _ _ _ (passed _ _ _ _ c.loop-unit.invariant (search rules) (search rules) _ refl) (omega arith)
