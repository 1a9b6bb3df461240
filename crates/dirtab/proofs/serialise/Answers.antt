-- `serialise` meets its contract: each way out is one of what the arena test and the room of the scratch say.
use Rattle.std.proofs.Common.{sym}
use Rattle.dirtab_arena.specs.Lent.{arena_of}
use Rattle.dirtab.proofs.Ways.{join, short_answer, short_out, short_scratch, cleared, bad_answer, bad_out}
use Rattle.dirtab.proofs.serialise.Goals as goal

pub returns-then-has_room-clause-memory : goal.returns-then-has_room-clause-memory
returns-then-has_room-clause-memory c =
    let room = sym c.if-has_room.ensures in
    join
    (cleared (arena_of c.args.arena) c.args.first.0 _ room _ _ _ c.write_arena-answer.ensures.lengths.0 c.clear.ensures.order)
    (cleared (arena_of c.args.arena) c.args.first.0 _ room _ _ _ c.write_arena-answer.ensures.lengths.1 c.clear.ensures.place)
    c.write_arena-answer.ensures.out

pub returns-then-is_arena-clause-answer : goal.returns-then-is_arena-clause-answer
returns-then-is_arena-clause-answer c = short_answer (arena_of c.args.arena) c.args.first.0 _ (sym c.if-has_room.ensures) (sym c.if-is_arena.ensures) _

pub returns-then-is_arena-clause-memory : goal.returns-then-is_arena-clause-memory
returns-then-is_arena-clause-memory c =
    let short = sym c.if-has_room.ensures in
    join
    (short_scratch (arena_of c.args.arena) c.args.first.0 _ short _)
    (short_scratch (arena_of c.args.arena) c.args.first.0 _ short _)
    (short_out (arena_of c.args.arena) c.args.first.0 _ short (sym c.if-is_arena.ensures) _)

pub returns-else-is_arena-clause-answer : goal.returns-else-is_arena-clause-answer
returns-else-is_arena-clause-answer c = bad_answer (arena_of c.args.arena) c.args.first.0 _ (sym c.if-is_arena.ensures) _

pub returns-else-is_arena-clause-memory : goal.returns-else-is_arena-clause-memory
returns-else-is_arena-clause-memory c =
    let short = sym c.if-has_room.ensures in
    join
    (short_scratch (arena_of c.args.arena) c.args.first.0 _ short _)
    (short_scratch (arena_of c.args.arena) c.args.first.0 _ short _)
    (bad_out (arena_of c.args.arena) c.args.first.0 _ (sym c.if-is_arena.ensures) _)
