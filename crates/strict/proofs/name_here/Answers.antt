-- `strict::name_here` meets its contract: at each return the tests that led there say what is read. Assumes nothing.
use native.Mathlib.Omega.{arith}
use borrow.Author.Rules.{rules}
use Rattle.strict.proofs.Here.{no_header, no_entry, is_told, is_entry_lem, name_cut, name_whole}
use Rattle.strict.proofs.name_here.Goals.{then-n+else-is_blank, else-n}
use Rattle.strict.proofs.name_here.Goals as goal

pub returns-then-is_blank : goal.returns-then-is_blank
returns-then-is_blank c = no_entry _ _ (omega arith) _ c.is_blank.ensures (search rules)

-- where two ways have met: the last byte is not 255, or the fourteen are no blank
pub returns-then-w-to : goal.returns-then-w-to
returns-then-w-to c =
    name_cut c.args.w.now c.args.p (omega arith) _ c.from.ensures
    (elim c.if-n.branch [
      | then-n+else-is_blank w ↦ is_entry_lem c.args.w.now c.args.p (omega arith) _ c.from.ensures _ w.is_blank.ensures w.if-is_blank.false
      | else-n w ↦ is_told c.args.w.now c.args.p (omega arith) _ c.from.ensures w.if-n.false
    ]) (omega arith)

pub returns : goal.returns
returns c =
    name_whole c.args.w.now c.args.p (omega arith) _ c.from.ensures
    (elim c.if-n.branch [
      | then-n+else-is_blank w ↦ is_entry_lem c.args.w.now c.args.p (omega arith) _ c.from.ensures _ w.is_blank.ensures w.if-is_blank.false
      | else-n w ↦ is_told c.args.w.now c.args.p (omega arith) _ c.from.ensures w.if-n.false
    ]) (omega arith)

pub returns-then-w-p : goal.returns-then-w-p
returns-then-w-p c = search no_header
