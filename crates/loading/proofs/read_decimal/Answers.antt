-- `loading::read_decimal` meets its contract. Assumes nothing.
use mathlib.Core.Path.{refl}
use borrow.Author.Rules.{rules}
use Rattle.loading.proofs.Digits.{empty, begins, goes_on, ends_here, all_read}
use Rattle.loading.proofs.read_decimal.Goals as goal

pub returns-then-is_empty : goal.returns-then-is_empty
returns-then-is_empty c = empty _ c.if-is_empty.ensures

pub loop-b-init : goal.loop-b-init
loop-b-init c = (search rules, begins _ c.if-is_empty.ensures)

pub loop-b-preserved : goal.loop-b-preserved
loop-b-preserved c = (search rules, goes_on _ _ _ c.loop-b.invariant.1 _ _ (search rules) c.in_ok-n.ensures refl)

pub returns-in_err-n : goal.returns-in_err-n
returns-in_err-n c = ends_here _ _ _ c.loop-b.invariant.1 (search rules) c.in_err-n.ensures _ c.from_residual.ensures

pub returns : goal.returns
returns c = search all_read
