-- The entries of a list added one after another to an arena, and the arena serialised. Assumes nothing.
use Rattle.std.specs.Prelude.{ℕ, zero, suc, ◌+◌, ◌≤◌, List, [], ◌∷◌, length}
use Rattle.units.specs.Told.{Told, gives, refuses}
use Rattle.dirtab_entry.specs.declared.Entry as given
use Rattle.table_model.specs.Table.{Placing}
use Rattle.dirtab_arena.specs.Arena.{Columns, Arena, arena}
use Rattle.dirtab_add.specs.Add.{Grown, add_of, columns_after}

-- go on where entry i was added; a refusal carries its number
abbrev pub if_added : ℕ → Told Grown → (Grown → Told Arena) → Told Arena
if_added i (gives g) next = next g
if_added i (refuses k vs) next = refuses k (i ∷ [])

-- k entries from number i on, added one after another to the arena A
unfoldable pub add_all : (ℕ → given.Entry) → ℕ → ℕ → Arena → Told Arena
add_all entry zero i A = gives A
add_all entry (suc k) i A =
    if_added i (add_of A (entry i))
    (λ g. add_all entry k (i + 1) (arena g.root g.count (columns_after A (entry i)) A.bytes))

-- an arena that holds nothing, in columns that may have anything in them
abbrev pub empty_in : Columns → List ℕ → Arena
empty_in c bytes = arena 65535 0 c bytes

-- what is done with the arena in the end: its answer, and the output
abbrev pub then_answer : Told Arena → (Arena → Told Placing) → Told Placing
then_answer (gives A) next = next A
then_answer (refuses k vs) next = refuses k vs

abbrev pub then_output : Told Arena → (Arena → List ℕ) → List ℕ → List ℕ
then_output (gives A) next out = next A
then_output (refuses k vs) next out = out

-- every column has a place for each of n entries
pub record Wide (n : ℕ) (c : Columns) : Type 0 where
  pub left : n ≤ length c.left
  pub right : n ≤ length c.right
  pub parent : n ≤ length c.parent
  pub height : n ≤ length c.height
  pub start : n ≤ length c.start
  pub len : n ≤ length c.len
  pub size : n ≤ length c.size
  pub kind : n ≤ length c.kind
