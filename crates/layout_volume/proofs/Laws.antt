-- A descriptor has 2,048 bytes, is read back from them, and is never read from fewer. Assumes nothing. (Stamp.antt has what depends on the stamp.)
use Rattle.std.proofs.Common.{ℕ, ◌≤◌, ◌<◌, ◌≡◌, refl, Bool, true, false, ◌&&◌, List, [], ◌++◌, arith, length, take, drop, length-take, length-drop}
use borrow.Author.Tests.{le-ltb}
use Rattle.units.specs.Told.{gives, refuses, pick}
use Rattle.layout_bytes.proofs.Numbers.{u32_le32, u64_le64}
use Rattle.layout_volume.specs.declared.Descriptor.{Descriptor}
use Rattle.layout_volume.specs.Descriptor.{mark, descriptor_bytes, bytes_after, same_list, read_of}
use Rattle.layout_volume.proofs.Same.{shorter}

-- a descriptor has 2,048 bytes
pub descriptor_length : (d : Descriptor) → length (descriptor_bytes d) ≡ 2048
unfolding descriptor_bytes
descriptor_length d = refl

-- what was written is read: the same root sector, root size and stamp, whatever stands behind it
pub read_written : (d : Descriptor) (rest : List ℕ) → d.root.sector.0 < 4294967296 → d.root.size < 4294967296 → d.stamp < 18446744073709551616
    → read_of (descriptor_bytes d ++ rest) ≡ gives d
unfolding read_of descriptor_bytes same_list
read_written d rest h k l =
    λ i. gives (record { root = record { sector = record { 0 = u32_le32 d.root.sector.0 [] h i }; size = u32_le32 d.root.size [] k i }; stamp = u64_le64 d.stamp [] l i })

-- so what an output with room for it holds afterwards is read as the descriptor
pub read_back : (out : List ℕ) (d : Descriptor) → 2048 ≤ length out → d.root.sector.0 < 4294967296 → d.root.size < 4294967296 → d.stamp < 18446744073709551616
    → read_of (bytes_after out d) ≡ gives d
unfolding bytes_after
read_back out d room h k l = rw (le-ltb (length out) 2048 room) (read_written d (drop 2048 out) h k l)

cut : (b r : Bool) (d : Descriptor) → r ≡ false → pick (b && r) (gives d) (refuses 20 []) ≡ refuses 20 []
cut true r d e = rw e
cut false r d e = refl

-- fewer than 2,048 bytes are refused 20
pub short_is_20 : (s : List ℕ) → length s < 2048 → read_of s ≡ refuses 20 []
unfolding read_of
short_is_20 s h =
    cut (same_list (take 20 s) mark) (same_list (take 20 (drop 2028 s)) mark) _ (shorter (take 20 (drop 2028 s)) mark (simp (length-take, length-drop) (omega arith)))
