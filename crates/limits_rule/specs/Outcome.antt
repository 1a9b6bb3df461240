-- When the limits loader accepts, and every other outcome with its cause, which is the first in the order of refusals.
-- Assumes nothing.
use Rattle.std.specs.Prelude.{ℕ, ◌+◌, ◌-◌, ◌*◌, ◌≤◌, ◌<◌, ◌≡◌, true, false, List, take, drop}
use Rattle.units.specs.Told.{gives, refuses}
use Rattle.units.specs.declared.Sector.{Sector}
use Rattle.layout_node.specs.Header.{is_directory}
use Rattle.layout_volume.specs.declared.Descriptor.{Descriptor}
use Rattle.layout_volume.specs.Descriptor.{mark}
use Rattle.read_entry.specs.declared.Placed.{Placed}
use Rattle.read_path.specs.Path.{path_of}
use Rattle.limits_rule.specs.Limits.{Limits, volume_in, refused_by}

-- both marks stand at sector 32 of the image, at the sector's first byte and at its byte 2,028
pub record Marked (w : List ℕ) (first : Sector) : Type 0 where
  pub reaches : first.0 ≤ 32
  pub front : take 20 (drop (2048 * (32 - first.0)) w) ≡ mark
  pub back : take 20 (drop (2048 * (32 - first.0) + 2028) w) ≡ mark

-- what is loaded: the entry's sector and size, and the volume's stamp
abbrev pub loaded : Descriptor → Placed → Limits
loaded d x = record { number = 0; sector = x.header.sector; size = x.header.size; stamp = d.stamp }

module _ (w : List ℕ) (first : Sector) (path : List ℕ) (time age : ℕ) where
  -- the volume has a descriptor d, and its date allows loading
  pub record Allows (d : Descriptor) : Type 0 where
    -- both marks stand: d is read between them
    pub volume : volume_in w first ≡ gives d
    -- the stamp is not 0
    pub dated : 0 < d.stamp
    -- the time is not before the stamp
    pub begun : d.stamp ≤ time
    -- the time less the stamp is at most the greatest age
    pub fresh : time - d.stamp ≤ age

  -- THE LOADER ACCEPTS: and the path finds an entry x under rule two, which is a file
  pub record Accepts (d : Descriptor) (x : Placed) : Type 0 where
    pub allows : Allows d
    pub found : path_of 2 w first d.root path ≡ gives x
    pub file : is_directory x.header ≡ false

  -- EVERY OUTCOME, with its cause
  pub data Outcome : Limits → Type 0 where
    accepted : (d : Descriptor) (x : Placed) → Accepts d x → Outcome (loaded d x)
    no_volume : (Marked w first → ⊥) → Outcome (refused_by 20)
    no_date : (d : Descriptor) → volume_in w first ≡ gives d → d.stamp ≡ 0 → Outcome (refused_by 40)
    clock_back : (d : Descriptor) → volume_in w first ≡ gives d → 0 < d.stamp → time < d.stamp
        → Outcome (refused_by 41)
    too_old : (d : Descriptor) → volume_in w first ≡ gives d → 0 < d.stamp → d.stamp ≤ time
        → age < time - d.stamp → Outcome (refused_by 42)
    by_path : (d : Descriptor) (k : ℕ) (vs : List ℕ) → Allows d → path_of 2 w first d.root path ≡ refuses k vs
        → Outcome (refused_by k)
    not_a_file : (d : Descriptor) (x : Placed) → Allows d → path_of 2 w first d.root path ≡ gives x
        → is_directory x.header ≡ true → Outcome (refused_by 43)
