-- `judge_name` meets its contract: by where the name is found, and then by the room.
use Rattle.std.proofs.Common.{arith}
use Rattle.avl_model.specs.Names.{to_name}
use Rattle.dirtab_entry.specs.Entry.{name_in}
use Rattle.dirtab_arena.specs.Arena.{names_of}
use Rattle.dirtab_arena.specs.Lent.{arena_of}
use Rattle.dirtab_arena.proofs.Fine.{fine_of}
use Rattle.dirtab_arena.proofs.Passed.{held, sought, spot_is}
use Rattle.dirtab_add.proofs.Ways.{same_name, no_room, with_room}
use Rattle.dirtab_add.proofs.judge_name.Goals as goal

pub find_place-requires-clause-count_in_bounds : goal.find_place-requires-clause-count_in_bounds
find_place-requires-clause-count_in_bounds c =
    let h = held (arena_of c.args.arena) c.requires.passes in
    let f = fine_of c.args.arena.names.now c.args.entry c.requires.taken in
    (h.places.l, h.places.r, f.inside, f.short)

pub find_place-requires-clause-sought : goal.find_place-requires-clause-sought
find_place-requires-clause-sought c = sought (arena_of c.args.arena) c.requires.passes (omega arith)

pub returns-in-Same : goal.returns-in-Same
returns-in-Same c = let A = arena_of c.args.arena in
    same_name A c.args.entry c.requires
    (spot_is A c.requires.passes (omega arith) (to_name (names_of A) (name_in A.bytes c.args.entry)) c.find_place.ensures) c.in-Same.is

pub returns-then-has_room : goal.returns-then-has_room
returns-then-has_room c = let A = arena_of c.args.arena in
    with_room A c.args.entry c.requires
    (spot_is A c.requires.passes (omega arith) (to_name (names_of A) (name_in A.bytes c.args.entry)) c.find_place.ensures) c.in-Free.is
    c.has_room.ensures c.if-has_room.true

pub returns-else-has_room : goal.returns-else-has_room
returns-else-has_room c = let A = arena_of c.args.arena in
    no_room A c.args.entry c.requires
    (spot_is A c.requires.passes (omega arith) (to_name (names_of A) (name_in A.bytes c.args.entry)) c.find_place.ensures) c.in-Free.is
    c.has_room.ensures c.if-has_room.false
