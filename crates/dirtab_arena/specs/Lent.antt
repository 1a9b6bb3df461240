-- What the structs of lent columns hold, as the records that the definitions speak of. Assumes nothing.
use Rattle.std.specs.Prelude.{◌≡◌, ℕ, List}
use Rattle.dirtab_arena.specs.declared.Held.{Held}
use Rattle.dirtab_arena.specs.declared.Columns.{Columns as LentColumns}
use Rattle.dirtab_arena.specs.declared.ColumnsMut.{ColumnsMut}
use Rattle.dirtab_arena.specs.declared.Arena.{Arena as LentArena}
use Rattle.dirtab_arena.specs.Arena.{Columns, columns, Arena, arena}

-- what columns to be read hold
abbrev pub columns_in : LentColumns → Columns
columns_in c =
    columns c.left.now c.right.now c.parent.now c.height.now c.start.now c.len.now c.size.now c.kind.now

-- what columns to be changed hold
abbrev pub columns_of : ColumnsMut → Columns
columns_of c =
    columns c.left.now c.right.now c.parent.now c.height.now c.start.now c.len.now c.size.now c.kind.now

-- an arena that is lent
abbrev pub arena_of : LentArena → Arena
arena_of a = arena a.tree.root a.tree.count (columns_in a.columns) a.names.now

-- the arena of a held tree, of columns to be changed, and of the bytes lent for names
abbrev pub arena_with : Held → ColumnsMut → List ℕ → Arena
arena_with t c b = arena t.root t.count (columns_of c) b

-- both lend the same columns
abbrev pub IsSame : ColumnsMut → ColumnsMut → Type 0
IsSame a b =
    (a.left.ghost_name ≡ b.left.ghost_name) × (a.right.ghost_name ≡ b.right.ghost_name)
    × (a.parent.ghost_name ≡ b.parent.ghost_name) × (a.height.ghost_name ≡ b.height.ghost_name)
    × (a.start.ghost_name ≡ b.start.ghost_name) × (a.len.ghost_name ≡ b.len.ghost_name)
    × (a.size.ghost_name ≡ b.size.ghost_name) × (a.kind.ghost_name ≡ b.kind.ghost_name)
