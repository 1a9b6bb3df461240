-- A reading at an offset, by its tests: `read_at` is said by what `locate_of` says of the offset, and here is the same with that written out. Assumes nothing.
use Prim.Native.Nat.{ℕ, ◌+◌, ◌-◌, ◌*◌}
use mathlib.Core.Path.{◌≡◌, refl}
use mathlib.Core.Bool.{Bool, true, false}
use mathlib.Core.List.{List, [], ◌∷◌}
use lib.Dec.{ltb, leb}
use Rattle.units.specs.Told.{gives, refuses, pick}
use Rattle.units.specs.declared.Sector.{Sector}
use Rattle.units.specs.declared.Region.{Region}
use Rattle.units.specs.Region.{locate_of}
use Rattle.read_entry.specs.Entry.{read_here, read_from, read_at}

-- the byte of the image at which an offset of a table stands
abbrev pub byte_of : Region → ℕ → ℕ
byte_of t o = 2048 * t.sector.0 + o

by_test : (w : List ℕ) (first : Sector) (o b : ℕ) (p : Bool) → read_from w first o (pick p (refuses 23 (o ∷ [])) (gives b))
    ≡ pick p (refuses 23 (o ∷ [])) (pick (ltb b (2048 * first.0)) (refuses 24 (o ∷ [])) (read_here w (b - 2048 * first.0) o))
by_test w first o b true = refl
by_test w first o b false = refl

-- not below the table's size: 23; before the window: 24; else what stands there
pub read_by_tests : (w : List ℕ) (first : Sector) (t : Region) (o : ℕ) → read_at w first t o
    ≡ pick (leb t.size o) (refuses 23 (o ∷ [])) (pick (ltb (byte_of t o) (2048 * first.0)) (refuses 24 (o ∷ [])) (read_here w (byte_of t o - 2048 * first.0) o))
unfolding read_at locate_of
read_by_tests w first t o = by_test w first o (byte_of t o) (leb t.size o)
