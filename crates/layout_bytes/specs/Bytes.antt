-- Little-endian numbers as bytes, both ways, and whether bytes are all the same. Assumes nothing.
use Rattle.std.specs.Prelude.{ℕ, ◌+◌, ◌*◌, ◌/◌, ◌%◌, Bool, true, ◌&&◌, List, [], ◌∷◌, ◌++◌, eqb, get_or}

-- the number of two bytes at a place of a list
abbrev pub u16_at : List ℕ → ℕ → ℕ
u16_at s at = get_or s at 0 + 256 * get_or s (at + 1) 0

-- the number of four bytes at a place of a list
abbrev pub u32_at : List ℕ → ℕ → ℕ
u32_at s at = u16_at s at + 65536 * u16_at s (at + 2)

-- the number of eight bytes at a place of a list
abbrev pub u64_at : List ℕ → ℕ → ℕ
u64_at s at = u32_at s at + 4294967296 * u32_at s (at + 4)

-- a number as two bytes
abbrev pub le16 : ℕ → List ℕ
le16 x = x % 256 ∷ x / 256 % 256 ∷ []

-- a number as four bytes
abbrev pub le32 : ℕ → List ℕ
le32 x = x % 256 ∷ x / 256 % 256 ∷ x / 65536 % 256 ∷ x / 16777216 % 256 ∷ []

-- a number as eight bytes: the low half, then the high half
abbrev pub le64 : ℕ → List ℕ
le64 x = le32 (x % 4294967296) ++ le32 (x / 4294967296)

-- every byte is b
unfoldable pub all : ℕ → List ℕ → Bool
all b [] = true
all b (x ∷ xs) = eqb x b && all b xs
