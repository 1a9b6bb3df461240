-- The volume descriptor: the mark, root sector u32, root size u32, stamp u64, 1,992 unused bytes, the mark again; 2,048
-- bytes in all. The unused bytes are zero (volume.rs). A stamp counts 100 ns since the start of 1601. Assumes nothing.
use Rattle.std.specs.Prelude.{ℕ, Bool, true, false, ◌&&◌, List, [], ◌∷◌, ◌++◌, ltb, eqb, length}
use Rattle.std.specs.Prelude.{take, drop, replicate, Result, Ok, Err, Some, None}
use Rattle.std.specs.Prelude.{Option as RustOption}
use Rattle.std.proofs.Math.Option.{Option, some, none}
use Rattle.units.specs.Told.{Told, gives, refuses, pick}
use Rattle.units.specs.declared.Region.{Region}
use Rattle.layout_bytes.specs.Bytes.{u32_at, u64_at, le32, le64}
use Rattle.layout_volume.specs.declared.Descriptor.{Descriptor}
use Rattle.layout_volume.specs.declared.BufferTooSmall.{BufferTooSmall}
use Rattle.layout_volume.specs.declared.NoVolume.{NoVolume}

-- the twenty bytes `MICROSOFT*XBOX*MEDIA`
abbrev pub mark : List ℕ
mark = 77 ∷ 73 ∷ 67 ∷ 82 ∷ 79 ∷ 83 ∷ 79 ∷ 70 ∷ 84 ∷ 42 ∷ 88 ∷ 66 ∷ 79 ∷ 88 ∷ 42 ∷ 77 ∷ 69 ∷ 68 ∷ 73 ∷ 65 ∷ []

-- the 2,048 bytes of a descriptor
unfoldable pub descriptor_bytes : Descriptor → List ℕ
descriptor_bytes d = mark
    ++ (le32 d.root.sector.0 ++ (le32 d.root.size ++ (le64 d.stamp ++ (replicate 1992 0 ++ mark))))

-- two lists are equal
unfoldable pub same_list : List ℕ → List ℕ → Bool
same_list [] [] = true
same_list [] (y ∷ ys) = false
same_list (x ∷ xs) [] = false
same_list (x ∷ xs) (y ∷ ys) = eqb x y && same_list xs ys

-- writing: 9 where the output is shorter than 2,048 bytes; else its first 2,048 bytes are the descriptor's
abbrev pub write_told : Result (Unit {0}) BufferTooSmall → Told (Unit {0})
write_told (Ok u) = gives tt
write_told (Err e) = refuses 9 []

unfoldable pub write_of : List ℕ → Told (Unit {0})
write_of out = pick (ltb (length out) 2048) (refuses 9 []) (gives tt)

unfoldable pub bytes_after : List ℕ → Descriptor → List ℕ
bytes_after out d = pick (ltb (length out) 2048) out (descriptor_bytes d ++ drop 2048 out)

-- reading: both marks must stand, whole (else 20); then root sector and size, and the stamp
abbrev pub read_told : Result Descriptor NoVolume → Told Descriptor
read_told (Ok d) = gives d
read_told (Err e) = refuses 20 []

unfoldable pub read_of : List ℕ → Told Descriptor
read_of s =
    pick (same_list (take 20 s) mark && same_list (take 20 (drop 2028 s)) mark)
    (gives (record { root = record { sector = record { 0 = u32_at s 20 }; size = u32_at s 24 }; stamp = u64_at s 28 }))
    (refuses 20 [])

-- what reading answers, without the stamp
abbrev pub root_alone : Told Descriptor → Told Region
root_alone (gives d) = gives d.root
root_alone (refuses k vs) = refuses k vs

-- the date that a stamp stands for: none where it is 0
abbrev pub date_told : RustOption ℕ → Option ℕ
date_told None = none
date_told (Some stamp) = some stamp

unfoldable pub date_of : ℕ → Option ℕ
date_of stamp = pick (eqb stamp 0) none (some stamp)
