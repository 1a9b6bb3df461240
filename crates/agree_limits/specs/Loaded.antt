-- A planned image with its descriptor in a window, and what is loaded of a file that was planned. Assumes nothing.
use Rattle.std.specs.Prelude.{ℕ, ◌-◌, ◌≤◌, ◌<◌, ◌≡◌, true, List, [], ◌∷◌}
use Rattle.units.specs.declared.Sector.{Sector}
use Rattle.layout_volume.specs.declared.Descriptor.{Descriptor}
use Rattle.layout_volume.specs.Descriptor.{descriptor_bytes}
use Rattle.read_entry.specs.Links.{is_in}
use Rattle.limits_rule.specs.Limits.{Limits}
use Rattle.img_model.specs.Shares.{Request, share_of, value_of}
use Rattle.img_model.specs.Plan.{Plan}
use Rattle.agree.specs.Written.{Stand}
use Rattle.agree_plan.specs.Planned.{sector_at}
use Rattle.agree_plan.specs.Image.{RegionFor}

-- WHAT IS SUPPOSED beside a planned image: its descriptor stands in the window too, at sector 32. It names the root's
-- table, at its planned sector, with the size that it reports or more, up to that size rounded; and its stamp is a
-- number of eight bytes
pub record Described (p : Plan) (w : List ℕ) (first : Sector) (d : Descriptor) : Type 0 where
  pub root : RegionFor p 0 d.root
  pub stamp : d.stamp < 18446744073709551616
  pub stand : Stand w first (record { 0 = 32 }) (descriptor_bytes d)

-- WHAT IS LOADED of entry j of directory e, a file: `answer time age` is the answer at a time, by a greatest age
pub record FileLoaded (R : Request) (p : Plan) (e j : ℕ) (d : Descriptor) (answer : ℕ → ℕ → Limits) : Type 0 where
  -- its planned sector, its size as it was given and the volume's stamp, whenever the date allows
  pub loaded : (time age : ℕ) → 0 < d.stamp → d.stamp ≤ time → time - d.stamp ≤ age
      → answer time age
      ≡ record {
        number = 0;
        sector = record { 0 = sector_at R p e j };
        size = value_of (share_of R e) j;
        stamp = d.stamp;
      }
  -- else nothing is wrong but the date: 40, 41 or 42
  pub by_date : (time age : ℕ) → is_in (answer time age).number (0 ∷ 40 ∷ 41 ∷ 42 ∷ []) ≡ true
  -- and it is never said not to exist
  pub never_22 : (time age : ℕ) → (answer time age).number ≡ 22 → ⊥
