-- What the reader's functions make of it. Assumes nothing.
use Rattle.std.specs.Prelude.{ℕ, List}
use Rattle.std.specs.Borrow.{Bor}
use Rattle.units.specs.declared.Sector.{Sector}
use Rattle.units.specs.declared.Offset.{Offset}
use Rattle.units.specs.declared.Region.{Region}
use Rattle.reader.specs.declared.Reader.{Reader}

-- a reader of a table in a window, at offset 0
abbrev pub opened : Bor (List ℕ) → Sector → Region → Reader
opened window first table = record {
  table = record { window = window; first = first; region = table };
  at = record { 0 = 0 };
}

-- the same reader at an offset
abbrev pub placed_at : Reader → Offset → Reader
placed_at r o = record { table = r.table; at = o }
