-- An output that stands in a window, and the table in it. Assumes nothing.
use Prim.Native.Nat.{ℕ}
use mathlib.Core.Path.{◌≡◌, sym, ap, ◌∙◌}
use mathlib.Core.List.{List, ◌++◌, append_assoc}
use lib.ListN.{take, drop, take-append-drop}
use lib.Seq.{take_at}
use Rattle.units.specs.Told.{gives}
use Rattle.units.specs.declared.Sector.{Sector}
use Rattle.dirtab_entry.specs.Entry.{rounded}
use Rattle.avl_model.specs.Tree.{Tree}
use Rattle.avl_model.specs.Laws.{All}
use Rattle.table_model.specs.Entry.{Entry}
use Rattle.table_model.specs.Table.{Placing, table_bytes, place_of}
use Rattle.table_model.specs.Said.{Fits}
use Rattle.table_model.proofs.Bytes.{table_length}
use Rattle.table_model.proofs.Placing.{size_given}
use Rattle.agree.specs.Written.{Stand}

-- bytes that stand in a window, written otherwise
unfoldable pub stand_as : (w : List ℕ) (first sector : Sector) (a b : List ℕ) → a ≡ b → Stand w first sector a → Stand w first sector b
stand_as w first sector a b e g = record { place = g.place; at_sector = g.at_sector; rest = g.rest; here = g.here ∙ ap (λ (z : List ℕ). z ++ g.rest) e }

-- where all of them stand, so do the first n
pub first_stand : (w : List ℕ) (first sector : Sector) (n : ℕ) (all : List ℕ) → Stand w first sector all → Stand w first sector (take n all)
first_stand w first sector n all g = record {
  place = g.place;
  at_sector = g.at_sector;
  rest = drop n all ++ g.rest;
  here = g.here ∙ ap (λ (z : List ℕ). z ++ g.rest) (sym (take-append-drop n all)) ∙ append_assoc (take n all) (drop n all) g.rest;
}

-- an output that begins with a table: its bytes up to the table's size, rounded, are the table
pub table_first : (entry : ℕ → Entry) (s : ℕ) (x : Tree) (p : Placing) → All (λ i. Fits (entry i)) x → place_of entry 1 s x ≡ gives p
    → (all rest : List ℕ) → all ≡ table_bytes entry 1 s x ++ rest → take (rounded p.size) all ≡ table_bytes entry 1 s x
table_first entry s x p fits placed all rest e =
    ap (take (rounded p.size)) e
    ∙ take_at (table_bytes entry 1 s x) rest (rounded p.size) (table_length entry 1 x s fits ∙ ap rounded (sym (size_given entry 1 s x p placed)))
