-- What the steps of serialising take of one another. Assumes nothing.
use Rattle.std.specs.Prelude.{ℕ, List, eqb, length}
use Rattle.units.specs.Told.{Told, pick}
use Rattle.avl_model.specs.Tree.{Tree}
use Rattle.table_model.specs.Entry.{Entry}
use Rattle.table_model.specs.Table.{Placing, place_of, table_bytes}
use Rattle.dirtab.specs.Serialise.{if_fits, if_written}

-- the reported size of a table whose entries end at e
unfoldable pub size_from : ℕ → ℕ
size_from e = pick (eqb e 0) 2048 e

-- the answer, and the output, of writing the entries of t from the sector s on
abbrev pub writing_of : (ℕ → Entry) → ℕ → Tree → ℕ → Told Placing
writing_of entry s t bytes = if_fits bytes (place_of entry 1 s t)

abbrev pub writing_out : (ℕ → Entry) → ℕ → Tree → List ℕ → List ℕ
writing_out entry s t out = if_written (writing_of entry s t (length out)) (table_bytes entry 1 s t) out
