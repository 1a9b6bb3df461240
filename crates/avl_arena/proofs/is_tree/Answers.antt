-- `avl_arena::is_tree` meets its contract: each way out is a test of `holds_tree`, on the first places of each column.
use Rattle.std.proofs.Common.{sym, ◌∙◌}
use Rattle.avl_model.specs.Lent.{lists_in, names_of}
use Rattle.avl_arena.proofs.Parts.{firsts, lent, no_places, no_inside, by_whole}
use Rattle.avl_arena.proofs.is_tree.Goals as goal

pub returns-then-not-have_places : goal.returns-then-not-have_places
returns-then-not-have_places c = no_places (lists_in c.args.links) (names_of c.args.names) c.args.count c.have_places.ensures c.if-not-have_places.true

pub slice_bounds-named-end : goal.slice_bounds-named-end
slice_bounds-named-end c = (firsts (lists_in c.args.links) (names_of c.args.names) c.args.count c.have_places.ensures c.if-not-have_places.false).start

pub slice_bounds-named-end-2 : goal.slice_bounds-named-end-2
slice_bounds-named-end-2 c = (firsts (lists_in c.args.links) (names_of c.args.names) c.args.count c.have_places.ensures c.if-not-have_places.false).len

pub slice_bounds-linked-end : goal.slice_bounds-linked-end
slice_bounds-linked-end c = (firsts (lists_in c.args.links) (names_of c.args.names) c.args.count c.have_places.ensures c.if-not-have_places.false).l

pub slice_bounds-linked-end-2 : goal.slice_bounds-linked-end-2
slice_bounds-linked-end-2 c = (firsts (lists_in c.args.links) (names_of c.args.names) c.args.count c.have_places.ensures c.if-not-have_places.false).r

pub slice_bounds-linked-end-3 : goal.slice_bounds-linked-end-3
slice_bounds-linked-end-3 c = (firsts (lists_in c.args.links) (names_of c.args.names) c.args.count c.have_places.ensures c.if-not-have_places.false).p

pub slice_bounds-linked-end-4 : goal.slice_bounds-linked-end-4
slice_bounds-linked-end-4 c = (firsts (lists_in c.args.links) (names_of c.args.names) c.args.count c.have_places.ensures c.if-not-have_places.false).h

pub are_inside-requires : goal.are_inside-requires
are_inside-requires c =
    let w = firsts (lists_in c.args.links) (names_of c.args.names) c.args.count c.have_places.ensures c.if-not-have_places.false in
    sym w.len ∙ w.start

pub is_whole-requires : goal.is_whole-requires
is_whole-requires c = lent (lists_in c.args.links) (names_of c.args.names) c.args.count c.have_places.ensures c.if-not-have_places.false c.are_inside.ensures c.if-are_inside.true

pub returns-then-are_inside : goal.returns-then-are_inside
returns-then-are_inside c = by_whole (lists_in c.args.links) (names_of c.args.names) c.args.count c.have_places.ensures c.if-not-have_places.false c.are_inside.ensures c.if-are_inside.true c.is_whole.ensures

pub returns-else-are_inside : goal.returns-else-are_inside
returns-else-are_inside c = no_inside (lists_in c.args.links) (names_of c.args.names) c.args.count c.have_places.ensures c.if-not-have_places.false c.are_inside.ensures c.if-are_inside.false
