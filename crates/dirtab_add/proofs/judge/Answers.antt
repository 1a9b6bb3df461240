-- `judge` meets its contract: at each refusal the check that led there says which (`bad_arena`, `bad_entry`).
use Rattle.std.proofs.Common.{sym, ◌∙◌}
use Rattle.dirtab_arena.specs.Arena.{arena}
use Rattle.dirtab_arena.specs.Lent.{columns_in}
use Rattle.dirtab_add.proofs.Ways.{bad_arena, bad_entry, passed_err}
use Rattle.dirtab_add.proofs.judge.Goals as goal

pub returns-then-not-is_arena : goal.returns-then-not-is_arena
returns-then-not-is_arena c = let a = c.args in
    bad_arena (arena a.tree.root a.tree.count (columns_in a.columns) a.names.now) a.entry c.is_arena.ensures c.if-not-is_arena.true

pub returns-in_err-check_entry : goal.returns-in_err-check_entry
returns-in_err-check_entry c = let a = c.args in
    let A = arena a.tree.root a.tree.count (columns_in a.columns) a.names.now in
    let passes = sym c.is_arena.ensures ∙ c.if-not-is_arena.false in
    passed_err (bad_entry A a.entry passes c.check_entry.ensures c.in_err-check_entry.was) _ c.from_residual.ensures.1
