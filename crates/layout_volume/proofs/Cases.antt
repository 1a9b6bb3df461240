-- Stamps as bytes, computed. Assumes nothing.
use Rattle.std.proofs.Common.{ℕ, ◌≡◌, refl, [], ◌∷◌, take, drop, replicate}
use Rattle.layout_volume.specs.declared.Descriptor.{Descriptor}
use Rattle.layout_volume.specs.Descriptor.{descriptor_bytes}

-- a root of 48 bytes at sector 33
abbrev stamped : ℕ → Descriptor
stamped x = record { root = record { sector = record { 0 = 33 }; size = 48 }; stamp = x }

-- 0x0102030405060708 stands at byte 28, low byte first
pub each_byte : take 8 (drop 28 (descriptor_bytes (stamped 72623859790382856))) ≡ 8 ∷ 7 ∷ 6 ∷ 5 ∷ 4 ∷ 3 ∷ 2 ∷ 1 ∷ []
unfolding descriptor_bytes
each_byte = refl

-- 1970-01-01T00:00:00Z, 0x019db1ded53e8000
pub year_1970 : take 8 (drop 28 (descriptor_bytes (stamped 116444736000000000))) ≡ 0 ∷ 128 ∷ 62 ∷ 213 ∷ 222 ∷ 177 ∷ 157 ∷ 1 ∷ []
unfolding descriptor_bytes
year_1970 = refl

-- the greatest stamp is eight bytes of 0xff
pub greatest : take 8 (drop 28 (descriptor_bytes (stamped 18446744073709551615))) ≡ replicate 8 255
unfolding descriptor_bytes
greatest = refl
