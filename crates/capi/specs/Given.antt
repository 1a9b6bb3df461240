-- The arguments that numbers stand for. Assumes nothing.
use Rattle.std.specs.Prelude.{ℕ}
use Rattle.units.specs.declared.Sector.{Sector}
use Rattle.units.specs.declared.Region.{Region}
use Rattle.layout_volume.specs.declared.Descriptor.{Descriptor}
use Rattle.dirtab_entry.specs.declared.Entry as given
use Rattle.dirtab_entry.specs.Entry.{kind_for}

-- a sector, a table, a descriptor, and an entry to add
abbrev pub sector_of : ℕ → Sector
sector_of n = record { 0 = n }

abbrev pub region_of : ℕ → ℕ → Region
region_of sector size = record { sector = sector_of sector; size = size }

abbrev pub descriptor_of : ℕ → ℕ → ℕ → Descriptor
descriptor_of sector size stamp = record { root = region_of sector size; stamp = stamp }

abbrev pub entry_of : ℕ → ℕ → ℕ → ℕ → given.Entry
entry_of start len kind size = record { start = start; len = len; kind = kind_for kind; size = size }
