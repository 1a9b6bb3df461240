-- How sectors are handed out: from the next free one, moving on by what a length takes. Assumes nothing.
-- The alignment is 1 today: every start is a multiple of it. Another alignment is another argument of `take_of`.
use Rattle.std.specs.Prelude.{ℕ, ◌+◌, ◌-◌, ◌*◌, ◌/◌, [], ltb, eqb, Result, Ok, Err}
use Rattle.units.specs.Told.{Told, gives, refuses, pick}
use Rattle.units.specs.declared.Sector.{Sector}
use Rattle.layout_sector.specs.declared.SectorCounter.{SectorCounter}
use Rattle.layout_sector.specs.declared.SectorOverflow.{SectorOverflow}

-- the sectors that a length takes: the length over 2,048, rounded up; a length of 0 takes one (sector.rs)
unfoldable pub sectors_for : ℕ → ℕ
sectors_for n = pick (eqb n 0) 1 ((n + 2047) / 2048)

-- the first multiple of the alignment from a sector on
abbrev pub aligned_up : ℕ → ℕ → ℕ
aligned_up align next = (next + (align - 1)) / align * align

-- what is given: the first sector taken, and the next free one after it
pub record Run : Type 0 where
  pub start : ℕ
  pub free : ℕ

-- the last number that a next free sector can have
abbrev pub last_free : ℕ
last_free = 4294967295

-- taking for a length from the next free sector on: 8 exactly where the next free sector would exceed 4,294,967,295
unfoldable pub take_of : ℕ → ℕ → ℕ → Told Run
take_of align next n =
    let start : ℕ = aligned_up align next in
    let free : ℕ = start + sectors_for n in
    pick (ltb last_free free) (refuses 8 []) (gives (record { start = start; free = free }))

-- what each answer stands for
abbrev pub told : Result (Sector × SectorCounter) SectorOverflow → Told Run
told (Ok p) = gives (record { start = p.0.0; free = p.1.next.0 })
told (Err e) = refuses 8 []
