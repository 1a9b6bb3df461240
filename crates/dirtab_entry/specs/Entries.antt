-- Entries in columns. Assumes nothing.
use Rattle.std.specs.Prelude.{ℕ, ◌<◌, length, get_or}
use Rattle.dirtab_entry.specs.declared.Entry.{Entry}
use Rattle.dirtab_entry.specs.declared.Entries.{Entries}
use Rattle.dirtab_entry.specs.Entry.{kind_for}

-- each column has a place i
pub record HasPlace (e : Entries) (i : ℕ) : Type 0 where
  pub start : i < length e.names.start.now
  pub len : i < length e.names.len.now
  pub size : i < length e.size.now
  pub kind : i < length e.kind.now

-- entry i as its columns give it
abbrev pub given_by : Entries → ℕ → Entry
given_by e i = record {
  start = get_or e.names.start.now i 0;
  len = get_or e.names.len.now i 0;
  kind = kind_for (get_or e.kind.now i 0);
  size = get_or e.size.now i 0;
}
