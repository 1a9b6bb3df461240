-- `add_entry` meets its contract: the first places of the columns hold the tree so far (`hangable`), and what they hold afterwards all of the columns do (`out_hung`).
use Rattle.std.proofs.Common.{◌+◌, refl}
use Rattle.avl_model.specs.Lists.{lists}
use Rattle.dirtab_grow.specs.Listing.{listing_of}
use Rattle.dirtab_grow.proofs.Checked.{passes}
use Rattle.dirtab_grow.proofs.Prefix.{hangable, after_front, out_hung}
use Rattle.dirtab_grow.proofs.add_entry.Goals as goal

pub hang_entry-requires-clause-hangable : goal.hang_entry-requires-clause-hangable
hang_entry-requires-clause-hangable c = let a = c.args in let h = c.requires in
    hangable (lists a.root.now a.left.now a.right.now a.parent.now a.height.now) a.key.now (listing_of 0 a.entries) a.i
    (a.i + 1) refl h.wide h.has_place.start h.has_place.len (passes a.entries.names.bytes.now c.check_entry.ensures c.nth_entry.ensures c.in_ok-check_entry.was) h.growing.0

pub hang_entry-requires-clause-after : goal.hang_entry-requires-clause-after
hang_entry-requires-clause-after c = let a = c.args in let h = c.requires in
    after_front (lists a.root.now a.left.now a.right.now a.parent.now a.height.now) a.key.now (listing_of 0 a.entries) a.i
    (a.i + 1) refl h.wide h.growing.0 h.growing.1

pub returns : goal.returns
returns c = let a = c.args in let h = c.hang_entry in
    out_hung (lists a.root.now a.left.now a.right.now a.parent.now a.height.now) a.key.now (listing_of 0 a.entries) a.i
    (a.i + 1) refl c.requires.wide h.auto.left h.auto.right h.auto.parent h.auto.height (passes a.entries.names.bytes.now c.check_entry.ensures c.nth_entry.ensures c.in_ok-check_entry.was) h.ensures
