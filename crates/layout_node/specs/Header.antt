-- The fourteen bytes of an entry before its name: left link u16, right link u16, sector u32, size u32, attributes
-- u8, name length u8, little-endian. Assumes nothing.
use Rattle.std.specs.Prelude.{ℕ, ◌+◌, ◌*◌, ◌/◌, ◌%◌, Bool, ◌||◌, List, [], ◌∷◌, ◌++◌, eqb, get_or}
use Rattle.layout_bytes.specs.Bytes.{u16_at, u32_at, le16, le32, all}
use Rattle.layout_node.specs.declared.Header.{Header}

-- the fields that fourteen bytes say
unfoldable pub header_of : List ℕ → Header
header_of h = record {
  left = record { 0 = u16_at h 0 };
  right = record { 0 = u16_at h 2 };
  sector = record { 0 = u32_at h 4 };
  size = u32_at h 8;
  attributes = get_or h 12 0;
  name_len = get_or h 13 0;
}

-- the fourteen bytes of the fields
unfoldable pub header_bytes : Header → List ℕ
header_bytes h = le16 h.left.0
    ++ (le16 h.right.0 ++ (le32 h.sector.0 ++ (le32 h.size ++ (h.attributes ∷ h.name_len ∷ []))))

-- no entry: every byte 0xff, or every byte 0 (dirent_node.rs)
unfoldable pub is_blank : List ℕ → Bool
is_blank h = all 255 h || all 0 h

-- a directory: attribute bit 0x10
abbrev pub is_directory : Header → Bool
is_directory h = eqb (h.attributes / 16 % 2) 1

-- the length of an entry with a name of n bytes: 14 + n, rounded up to a multiple of 4
abbrev pub entry_length : ℕ → ℕ
entry_length n = (14 + n + 3) / 4 * 4
