-- Where an offset of a region stands on the image: it must be below the region's size (else refusal 23, with the
-- offset). Assumes nothing.
use Rattle.std.specs.Prelude.{ℕ, ◌+◌, ◌*◌, [], ◌∷◌, leb, Result, Ok, Err}
use Rattle.units.specs.declared.Offset.{Offset}
use Rattle.units.specs.declared.Region.{Region}
use Rattle.units.specs.declared.OutOfBounds.{OutOfBounds}
use Rattle.units.specs.Told.{Told, gives, refuses, pick}

-- what each answer stands for
abbrev pub told : Result ℕ OutOfBounds → Told ℕ
told (Ok b) = gives b
told (Err e) = refuses 23 (e.0.0 ∷ [])

-- the byte of the image, 2,048 for each sector before the region and then the offset
unfoldable pub locate_of : Region → Offset → Told ℕ
locate_of t o = pick (leb t.size o.0) (refuses 23 (o.0 ∷ [])) (gives (2048 * t.sector.0 + o.0))
