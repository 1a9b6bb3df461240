-- The part of a window from a table's first byte on. What is read in it, as a table of sector 0 in a window that
-- starts with sector 0, is what is read in the window itself, with each place counted from there
-- (proofs/Moved.antt). Assumes nothing.
use Rattle.std.specs.Prelude.{ℕ, ◌≡◌, ◌+◌, ◌-◌, ◌*◌, List, [], ltb, drop}
use Rattle.std.proofs.Math.Option.{Option, some, none}
use Rattle.units.specs.Told.{Told, gives, refuses, pick}
use Rattle.units.specs.declared.Sector.{Sector}
use Rattle.units.specs.declared.Region.{Region}
use Rattle.read_entry.specs.declared.Table.{Table}
use Rattle.read_entry.specs.Entry.{Placed}

-- from the table's first byte on; nothing where the table starts before the window, or past its end
unfoldable pub part_of : List ℕ → Sector → Region → List ℕ
part_of w first t = pick (ltb (2048 * t.sector.0) (2048 * first.0)) []
    (drop (2048 * t.sector.0 - 2048 * first.0) w)

-- a table in its own part of the window: u is t as a table of sector 0 in that part, which starts with sector 0
abbrev pub IsNarrowed : Table → Table → Type 0
IsNarrowed t u = (u.window.now ≡ part_of t.window.now t.first t.region) × (u.first.0 ≡ 0)
    × (u.region.sector.0 ≡ 0) × (u.region.size ≡ t.region.size)

-- an entry whose place is counted from b on
abbrev pub placed_on : ℕ → Placed → Placed
placed_on b x = record { header = x.header; place = b + x.place }

abbrev pub moved : ℕ → Told (Option Placed) → Told (Option Placed)
moved b (gives (some x)) = gives (some (placed_on b x))
moved b (gives none) = gives none
moved b (refuses k vs) = refuses k vs
