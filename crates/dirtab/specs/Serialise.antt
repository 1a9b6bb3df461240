-- Serialising an arena from a sector on: 12, then 6, 7, 8, 9, all before any write. Assumes nothing.
use Rattle.std.specs.Prelude.{ℕ, ◌≡◌, min, Bool, List, [], ◌++◌, leb, length, drop, Result, Ok, Err}
use Rattle.units.specs.Told.{Told, gives, refuses, pick}
use Rattle.units.specs.Lent.{cleared_if}
use Rattle.dirtab_entry.specs.Entry.{rounded}
use Rattle.table_model.specs.Table.{Placing, place_of, table_bytes}
use Rattle.dirtab_arena.specs.Arena.{Arena, entry_at, is_arena, tree_of}
use Rattle.dirtab.specs.declared.Written.{Written}
use Rattle.dirtab.specs.declared.WriteError.{WriteError}
use Rattle.dirtab.specs.declared.WriteError.TheVariants as writing
use Rattle.dirtab.specs.declared.SerialiseError.{SerialiseError}
use Rattle.dirtab.specs.declared.SerialiseError.TheVariants as serialising
use Rattle.dirtab.specs.declared.Scratch.{Scratch}

-- every column of scratch has a place for each held node; n is the length of the shortest
abbrev pub scratch_fits : Arena → ℕ → Bool
scratch_fits A n = leb A.count n

-- what placing gives fits an output of so many bytes (else 9)
abbrev pub if_fits : ℕ → Told Placing → Told Placing
if_fits bytes (gives p) = pick (leb (rounded p.size) bytes) (gives p) (refuses 9 [])
if_fits bytes (refuses k vs) = refuses k vs

-- THE ANSWER: the reported size and the next free sector. s is the first sector, n the length of the shortest column
-- of scratch, `bytes` that of the output
unfoldable pub serialise_of : Arena → ℕ → ℕ → ℕ → Told Placing
serialise_of A s n bytes =
    pick (is_arena A)
    (pick (scratch_fits A n) (if_fits bytes (place_of (entry_at A) 1 s (tree_of A))) (refuses 6 []))
    (refuses 12 [])

-- THE OUTPUT AFTERWARDS: the table's bytes up to the rounded size, the rest unchanged; all unchanged after a refusal
abbrev pub if_written : Told Placing → List ℕ → List ℕ → List ℕ
if_written (gives p) table out = table ++ drop (rounded p.size) out
if_written (refuses k vs) table out = out

unfoldable pub out_after : Arena → ℕ → ℕ → List ℕ → List ℕ
out_after A s n out = if_written (serialise_of A s n (length out)) (table_bytes (entry_at A) 1 s (tree_of A)) out

-- EACH COLUMN OF SCRATCH AFTERWARDS: unchanged where one is too short, else all zero
unfoldable pub scratch_after : Arena → ℕ → List ℕ → List ℕ
scratch_after A n xs = cleared_if (scratch_fits A n) xs

-- what is lent: two columns of scratch, and the output
pub record Lent : Type 0 where
  pub order : List ℕ
  pub place : List ℕ
  pub out : List ℕ

abbrev pub lent : List ℕ → List ℕ → List ℕ → Lent
lent order place out = record { order = order; place = place; out = out }

-- the same, of scratch that is lent
abbrev pub lent_of : Scratch → List ℕ → Lent
lent_of s out = lent s.order.now s.place.now out

-- both lend the same columns
abbrev pub IsSame : Scratch → Scratch → Type 0
IsSame a b = (a.order.ghost_name ≡ b.order.ghost_name) × (a.place.ghost_name ≡ b.place.ghost_name)

-- both lend columns of the same lengths
abbrev pub KeepsLengths : Scratch → Scratch → Type 0
KeepsLengths a b = (length b.order.now ≡ length a.order.now) × (length b.place.now ≡ length a.place.now)

-- the length of the shortest column of scratch
abbrev pub places_in : Lent → ℕ
places_in m = min (length m.order) (length m.place)

-- the answer, by what is lent
abbrev pub answer_in : Arena → ℕ → Lent → Told Placing
answer_in A s m = serialise_of A s (places_in m) (length m.out)

-- ALL THAT WAS LENT, AFTERWARDS
abbrev pub lent_after : Arena → ℕ → Lent → Lent
lent_after A s m = record {
  order = scratch_after A (places_in m) m.order;
  place = scratch_after A (places_in m) m.place;
  out = out_after A s (places_in m) m.out;
}

-- what each answer of the code stands for: of writing a table, and of serialising an arena
abbrev pub told_write : Result Written WriteError → Told Placing
told_write (Ok w) = gives (record { size = w.size; free = w.free.0 })
told_write (Err writing.TooManyDirectoryEntries) = refuses 7 []
told_write (Err writing.SectorOverflow) = refuses 8 []
told_write (Err writing.BufferTooSmall) = refuses 9 []

abbrev pub told : Result Written SerialiseError → Told Placing
told (Ok w) = gives (record { size = w.size; free = w.free.0 })
told (Err serialising.BadArena) = refuses 12 []
told (Err serialising.Room) = refuses 6 []
told (Err (serialising.Write e)) = told_write (Err e)
