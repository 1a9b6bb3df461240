-- THE DESCRIPTOR AND ITS DATE: what is written is read back, and of everything else the stamp decides nothing. Assumes
-- nothing.
use Rattle.std.specs.Prelude.{ℕ, ◌≤◌, ◌<◌, ◌≡◌, List, ◌++◌, length, take, drop, replicate}
use Rattle.std.proofs.Math.Option.{some, none}
use Rattle.units.specs.Told.{gives}
use Rattle.units.specs.declared.Region.{Region}
use Rattle.layout_bytes.specs.Bytes.{le32}
use Rattle.layout_volume.specs.declared.Descriptor.{Descriptor}
use Rattle.layout_volume.specs.Descriptor.{mark, descriptor_bytes, bytes_after, read_of, root_alone, date_of}

-- the numbers of a descriptor fit their fields, as a `u32` and a `u64` do
pub record Fits (d : Descriptor) : Type 0 where
  pub sector : d.root.sector.0 < 4294967296
  pub size : d.root.size < 4294967296
  pub stamp : d.stamp < 18446744073709551616

-- a descriptor with this root and this stamp
abbrev pub stamped : Region → ℕ → Descriptor
stamped root stamp = record { root = root; stamp = stamp }

pub record Dated : Type 0 where
  -- a descriptor that is written into an output with room for it is read back: root sector, root size and stamp
  pub read_back : (out : List ℕ) (d : Descriptor) → 2048 ≤ length out → Fits d → read_of (bytes_after out d) ≡ gives d
  -- with stamp 0 the bytes are those without a date, zeros in the stamp's place
  pub undated : (root : Region) → descriptor_bytes (stamped root 0)
      ≡ mark ++ (le32 root.sector.0 ++ (le32 root.size ++ (replicate 8 0 ++ (replicate 1992 0 ++ mark))))
  -- what an output holds afterwards before byte 28, and from byte 36 on, is the same for every stamp
  pub before : (out : List ℕ) (root : Region) (x y : ℕ)
      → take 28 (bytes_after out (stamped root x)) ≡ take 28 (bytes_after out (stamped root y))
  pub behind : (out : List ℕ) (root : Region) (x y : ℕ)
      → drop 36 (bytes_after out (stamped root x)) ≡ drop 36 (bytes_after out (stamped root y))
  -- whether reading refuses, and the root that it gives, is the same whatever bytes 28 to 35 are
  pub root_apart : (s t : List ℕ) → take 28 s ≡ take 28 t → drop 36 s ≡ drop 36 t
      → root_alone (read_of s) ≡ root_alone (read_of t)
  -- stamp 0 is no date, every other stamp is one, and no two stamps are the same date
  pub no_date : date_of 0 ≡ none
  pub a_date : (x : ℕ) → (x ≡ 0 → ⊥) → date_of x ≡ some x
  pub date_one : (x y : ℕ) → date_of x ≡ date_of y → x ≡ y
