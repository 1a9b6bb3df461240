-- `write_checked` meets its contract: what building refuses is the answer; else the columns hold the tree as writing takes it (`rooted_in`).
use Rattle.std.proofs.Common.{◌∙◌}
use Rattle.avl_model.specs.Lent.{lists_of}
use Rattle.dirtab_grow.specs.Listing.{listing_of}
use Rattle.dirtab_list.specs.Scratch.{lists_by}
use Rattle.dirtab_list.proofs.Grew.{rooted_in}
use Rattle.dirtab_list.proofs.Ends.{told_refused, refused_answer, refused_out, written_answer, written_out}
use Rattle.dirtab_list.proofs.write_checked.Goals as goal

pub returns-in_err-build-clause-answer : goal.returns-in_err-build-clause-answer
returns-in_err-build-clause-answer c = let a = c.args in
    told_refused _ _ c.from_residual.ensures.1
    ∙ refused_answer (listing_of a.count a.entries) a.first.0 a.out.now c.in_err-build.ensures.built

pub returns-in_err-build-clause-out : goal.returns-in_err-build-clause-out
returns-in_err-build-clause-out c = let a = c.args in
    refused_out (listing_of a.count a.entries) a.first.0 a.out.now c.in_err-build.ensures.built

pub write_held-requires : goal.write_held-requires
write_held-requires c = let a = c.args in
    let w = c.in_ok-build.ensures.built in
    let b = c.branches in (
      (
        w.t,
        rooted_in a.count a.entries (lists_by a.scratch.now) (lists_of c.build.new.links) a.scratch.now.key.now b.result w
            b.ensures.root b.ensures.left b.ensures.right c.requires.0 c.build.ensures.lengths,
      ),
      c.requires.1.0,
      c.requires.1.1,
    )

pub returns-in_err-written-clause-answer : goal.returns-in_err-written-clause-answer
returns-in_err-written-clause-answer c = let a = c.args in
    let w = c.in_ok-build.ensures.built in
    let b = c.branches in
    told_refused _ _ c.from_residual-in_err-written.ensures.1
    ∙ c.in_err-written.ensures.answer w.t (rooted_in a.count a.entries (lists_by a.scratch.now) (lists_of c.build.new.links) a.scratch.now.key.now b.result w
    b.ensures.root b.ensures.left b.ensures.right c.requires.0 c.build.ensures.lengths)
    ∙ written_answer (listing_of a.count a.entries) a.first.0 a.out.now w.told

pub returns-in_err-written-clause-out : goal.returns-in_err-written-clause-out
returns-in_err-written-clause-out c = let a = c.args in
    let w = c.in_ok-build.ensures.built in
    let b = c.branches in
    c.in_err-written.ensures.out w.t (rooted_in a.count a.entries (lists_by a.scratch.now) (lists_of c.build.new.links) a.scratch.now.key.now b.result w
    b.ensures.root b.ensures.left b.ensures.right c.requires.0 c.build.ensures.lengths)
    ∙ written_out (listing_of a.count a.entries) a.first.0 a.out.now w.told

pub returns-clause-answer : goal.returns-clause-answer
returns-clause-answer c = let a = c.args in
    let w = c.in_ok-build.ensures.built in
    let b = c.branches in
    c.in_ok-written.ensures.answer w.t (rooted_in a.count a.entries (lists_by a.scratch.now) (lists_of c.build.new.links) a.scratch.now.key.now b.result w
    b.ensures.root b.ensures.left b.ensures.right c.requires.0 c.build.ensures.lengths)
    ∙ written_answer (listing_of a.count a.entries) a.first.0 a.out.now w.told

pub returns-clause-out : goal.returns-clause-out
returns-clause-out c = let a = c.args in
    let w = c.in_ok-build.ensures.built in
    let b = c.branches in
    c.in_ok-written.ensures.out w.t (rooted_in a.count a.entries (lists_by a.scratch.now) (lists_of c.build.new.links) a.scratch.now.key.now b.result w
    b.ensures.root b.ensures.left b.ensures.right c.requires.0 c.build.ensures.lengths)
    ∙ written_out (listing_of a.count a.entries) a.first.0 a.out.now w.told
