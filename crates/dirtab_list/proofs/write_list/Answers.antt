-- `write_list` meets its contract: long enough columns are those of the steps, and all are cleared; else nothing is changed.
use Rattle.std.proofs.Common.{sym, ◌∙◌}
use Rattle.dirtab_grow.specs.Listing.{listing_of}
use Rattle.dirtab_list.specs.Whole.{places_in}
use Rattle.dirtab_list.specs.Scratch.{lent_by}
use Rattle.dirtab_list.proofs.Room.{whole_answer, whole_out, scratch_clear, short_answer, join, short_lent}
use Rattle.dirtab_list.proofs.write_list.Goals as goal

pub returns-then-not-has_places-clause-answer : goal.returns-then-not-has_places-clause-answer
returns-then-not-has_places-clause-answer c = let a = c.args in let m = lent_by a.scratch.now a.out.now in
    short_answer (listing_of a.count a.entries) (places_in m) a.first.0 _
    (sym (rw c.shortest.ensures at c.if-not-has_places.ensures))

pub returns-then-not-has_places-clause-memory : goal.returns-then-not-has_places-clause-memory
returns-then-not-has_places-clause-memory c = let a = c.args in
    short_lent (listing_of a.count a.entries) a.first.0 (lent_by a.scratch.now a.out.now)
    (sym (rw c.shortest.ensures at c.if-not-has_places.ensures))

pub returns-clause-answer : goal.returns-clause-answer
returns-clause-answer c = let a = c.args in let m = lent_by a.scratch.now a.out.now in
    c.write_checked-written.ensures.answer
    ∙ whole_answer (listing_of a.count a.entries) (places_in m) a.first.0 _
    (sym (rw c.shortest.ensures at c.if-not-has_places.ensures))

pub returns-clause-memory : goal.returns-clause-memory
returns-clause-memory c = let a = c.args in let m = lent_by a.scratch.now a.out.now in
    let L = listing_of a.count a.entries in
    let n = places_in m in
    let e = sym (rw c.shortest.ensures at c.if-not-has_places.ensures) in
    let k = c.write_checked-written.ensures in
    let s = c.write_checked-written.new.scratch in
    let z = c.clear.ensures in
    join
    (z.left ∙ scratch_clear L n m.left s.left.now e k.lengths.left)
    (z.right ∙ scratch_clear L n m.right s.right.now e k.lengths.right)
    (z.parent ∙ scratch_clear L n m.parent s.parent.now e k.lengths.parent)
    (z.height ∙ scratch_clear L n m.height s.height.now e k.lengths.height)
    (z.key ∙ scratch_clear L n m.key s.key.now e k.lengths.key)
    (z.order ∙ scratch_clear L n m.order s.order.now e k.lengths.order)
    (z.place ∙ scratch_clear L n m.place s.place.now e k.lengths.place)
    (k.out ∙ whole_out L n a.first.0 a.out.now e)
