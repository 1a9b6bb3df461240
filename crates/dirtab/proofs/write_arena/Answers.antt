-- `write_arena` meets its contract: 12, a refusal of writing, and what is written.
use Rattle.std.proofs.Common.{sym, ◌∙◌, length, arith}
use Rattle.dirtab_arena.specs.Arena.{tree_of}
use Rattle.dirtab_arena.specs.Lent.{arena_of}
use Rattle.dirtab.proofs.Ways.{bad_answer, bad_out, cols_is, held, wrote, wrote_out, told_of, both_fit}
use Rattle.dirtab.proofs.write_arena.Goals as goal

pub returns-then-not-is_arena-clause-answer : goal.returns-then-not-is_arena-clause-answer
returns-then-not-is_arena-clause-answer c = bad_answer (arena_of c.args.arena) c.args.first.0 _ (sym c.is_arena.ensures ∙ c.if-not-is_arena.true) _

pub returns-then-not-is_arena-clause-out : goal.returns-then-not-is_arena-clause-out
returns-then-not-is_arena-clause-out c = bad_out (arena_of c.args.arena) c.args.first.0 _ (sym c.is_arena.ensures ∙ c.if-not-is_arena.true) _

pub write_held-requires : goal.write_held-requires
write_held-requires c =
    let b = c.branches.ensures in
    let e = c.entries.ensures in
    let room = both_fit c.args.arena.tree.count (length c.args.scratch.now.order.now) (length c.args.scratch.now.place.now) c.requires in (
      (tree_of (arena_of c.args.arena), held (arena_of c.args.arena) c.args.first.0 _ c.requires (sym c.if-not-is_arena.ensures) _ _ (cols_is c.args.arena c.branches.result c.entries.result b.left b.right e.names e.size e.kind) b.root (omega arith)),
      room.0,
      room.1,
    )

pub returns-in_err-written-clause-answer : goal.returns-in_err-written-clause-answer
returns-in_err-written-clause-answer c =
    let b = c.branches.ensures in
    let e = c.entries.ensures in
    told_of _ _ c.from_residual.ensures.1
    ∙ wrote (arena_of c.args.arena) c.args.first.0 _ c.requires (sym c.if-not-is_arena.ensures) _ _ (cols_is c.args.arena c.branches.result c.entries.result b.left b.right e.names e.size e.kind) b.root (omega arith) _ _ c.in_err-written.ensures.answer

pub returns-in_err-written-clause-out : goal.returns-in_err-written-clause-out
returns-in_err-written-clause-out c =
    let b = c.branches.ensures in
    let e = c.entries.ensures in
    wrote_out (arena_of c.args.arena) c.args.first.0 _ c.requires (sym c.if-not-is_arena.ensures) _ _ (cols_is c.args.arena c.branches.result c.entries.result b.left b.right e.names e.size e.kind) b.root (omega arith) _ _ c.in_err-written.ensures.out

pub returns-clause-answer : goal.returns-clause-answer
returns-clause-answer c =
    let b = c.branches.ensures in
    let e = c.entries.ensures in
    wrote (arena_of c.args.arena) c.args.first.0 _ c.requires (sym c.if-not-is_arena.ensures) _ _ (cols_is c.args.arena c.branches.result c.entries.result b.left b.right e.names e.size e.kind) b.root (omega arith) _ _ c.in_ok-written.ensures.answer

pub returns-clause-out : goal.returns-clause-out
returns-clause-out c =
    let b = c.branches.ensures in
    let e = c.entries.ensures in
    wrote_out (arena_of c.args.arena) c.args.first.0 _ c.requires (sym c.if-not-is_arena.ensures) _ _ (cols_is c.args.arena c.branches.result c.entries.result b.left b.right e.names e.size e.kind) b.root (omega arith) _ _ c.in_ok-written.ensures.out
