-- `strict::run` meets its contract. The loop's invariant is `State` of proofs/Turn.antt, which has a lemma for each way out of a turn and each
-- way round. The measure: each entry takes a place of the list and adds at most one to the stack; anything else takes one from the stack.
-- Assumes nothing.
use mathlib.Core.Path.{refl, ◌∙◌}
use borrow.Author.Rules.{rules}
use Rattle.strict.proofs.Turn.{starts, done, unread, nothing, faulty, judgeable, has_place, on_units, can_push, falls, entry_done}
use Rattle.strict.proofs.run.Goals as goal

pub loop-top-init : goal.loop-top-init
loop-top-init c = (search starts, refl)

pub returns-in_err-entry : goal.returns-in_err-entry
returns-in_err-entry c = unread _ _ _ _ _ _ _ _ _ _ _ c.loop-top.invariant.0 (search rules) _ c.link-link.ensures _ c.offset-offset.ensures _ c.in_err-entry.ensures _ c.from_residual.ensures

pub judge-requires : goal.judge-requires
judge-requires c = record {
  begins = c.requires.begins.0;
  covers = judgeable _ _ _ _ _ _ _ _ _ _ _ c.loop-top.invariant.0 (search rules) _ c.link-link.ensures _ c.offset-offset.ensures _ (rw c.in-Some.is at c.in_ok-entry.ensures);
}

pub returns-in_err-judge : goal.returns-in_err-judge
returns-in_err-judge c =
    faulty _ _ _ _ _ _ _ _ _ _ _ c.loop-top.invariant.0 (search rules) _ c.link-link.ensures _ c.offset-offset.ensures _ (rw c.in-Some.is at c.in_ok-entry.ensures)
    _ c.in_err-judge.ensures _ c.from_residual-in_err-judge.ensures

pub bounds-list-n : goal.bounds-list-n
bounds-list-n c =
    has_place _ _ _ _ _ _ _ _ _ _ _ c.loop-top.invariant.0 (search rules) _ c.link-link.ensures _ c.offset-offset.ensures _ (rw c.in-Some.is at c.in_ok-entry.ensures)
    _ c.in_ok-judge.ensures

pub mark_entry-requires : goal.mark_entry-requires
mark_entry-requires c =
    on_units _ _ _ _ _ _ _ _ _ _ _ c.loop-top.invariant.0 (search rules) _ c.link-link.ensures _ c.offset-offset.ensures _ (rw c.in-Some.is at c.in_ok-entry.ensures)
    _ c.in_ok-judge.ensures

pub push_links-top-requires : goal.push_links-top-requires
push_links-top-requires c =
    can_push _ _ _ _ _ _ _ _ _ _ _ c.loop-top.invariant.0 (search rules) _ c.link-link.ensures _ c.offset-offset.ensures _ (rw c.in-Some.is at c.in_ok-entry.ensures)
    _ c.in_ok-judge.ensures _ refl

pub loop-top-smaller-in-Some : goal.loop-top-smaller-in-Some
loop-top-smaller-in-Some c =
    falls _ _ _ _ _ _ _ _ _ _ _ c.loop-top.invariant.0 (search rules) _ c.link-link.ensures _ c.offset-offset.ensures _ (rw c.in-Some.is at c.in_ok-entry.ensures)
    _ c.in_ok-judge.ensures _ refl _ _ c.push_links-top.ensures _ refl

pub loop-top-preserved-in-Some : goal.loop-top-preserved-in-Some
loop-top-preserved-in-Some c = (
  entry_done _ _ _ _ _ _ _ _ _ _ _ c.loop-top.invariant.0 (search rules) _ c.link-link.ensures _ c.offset-offset.ensures _ (rw c.in-Some.is at c.in_ok-entry.ensures)
      _ c.in_ok-judge.ensures _ c.number.ensures _ c.mark_entry.ensures _ refl _ _ c.push_links-top.ensures _ refl,
  c.mark_entry.ensures.0.kept ∙ c.loop-top.invariant.1,
)

pub loop-top-preserved : goal.loop-top-preserved
loop-top-preserved c = (
  nothing _ _ _ _ _ _ _ _ _ _ _ c.loop-top.invariant.0 (search rules) _ c.link-link.ensures _ c.offset-offset.ensures (rw c.in_default.is at c.in_ok-entry.ensures) _ refl,
  c.loop-top.invariant.1,
)

pub returns : goal.returns
returns c = search done
