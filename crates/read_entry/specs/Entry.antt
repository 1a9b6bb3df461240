-- What reading at an offset of a table finds in a window: a list of bytes and the number of its first sector.
-- Assumes nothing.
use Rattle.std.specs.Prelude.{ℕ, ◌+◌, ◌-◌, ◌*◌, List, [], ◌∷◌, ltb, length, take, drop}
use Rattle.std.specs.Prelude.{Result, Ok, Err, Some, None, Option as Maybe}
use Rattle.std.proofs.Math.Option.{Option, some, none}
use Rattle.units.specs.Told.{Told, gives, refuses, pick}
use Rattle.units.specs.Lent.{Part}
use Rattle.units.specs.declared.Sector.{Sector}
use Rattle.units.specs.declared.Offset.{Offset}
use Rattle.units.specs.declared.Region.{Region}
use Rattle.units.specs.Region.{locate_of}
use Rattle.layout_node.specs.declared.Header.{Header}
use Rattle.layout_node.specs.Header.{header_of, is_blank}
use Rattle.read_entry.specs.declared.ReadError.{ReadError}
use Rattle.read_entry.specs.declared.ReadError.TheVariants.{OutOfBounds, Truncated}
use Rattle.read_entry.specs.declared.Placed.{Placed as Entry}

-- an entry that is read: its header, and the place in the window of its first byte
abbrev pub Placed : Type 0
Placed = Entry

-- at place p of the window, for offset o of a table: header and name must be in the window (else 24, with the
-- offset); fourteen bytes of 0xff or of 0 are no entry, whatever follows
unfoldable pub read_here : List ℕ → ℕ → ℕ → Told (Option Placed)
read_here w p o =
    let h : List ℕ = take 14 (drop p w) in
    pick (ltb (length w) (p + 14)) (refuses 24 (o ∷ []))
    (pick (is_blank h) (gives none)
    (pick (ltb (length w) (p + 14 + (header_of h).name_len)) (refuses 24 (o ∷ []))
    (gives (some (record { header = header_of h; place = p })))))

-- at a byte of the image, for offset o of a table: the byte must not stand before the window (else 24, with the
-- offset); no byte, since the offset is not below the table's size, is the 23 that `locate_of` says
abbrev pub read_from : List ℕ → Sector → ℕ → Told ℕ → Told (Option Placed)
read_from w first o (gives b) =
    pick (ltb b (2048 * first.0)) (refuses 24 (o ∷ [])) (read_here w (b - 2048 * first.0) o)
read_from w first o (refuses k vs) = refuses k vs

-- at an offset of a table
unfoldable pub read_at : List ℕ → Sector → Region → ℕ → Told (Option Placed)
read_at w first t o = read_from w first o (locate_of t (record { 0 = o }))

-- the name of an entry: that part of the window, from byte 14 of the entry
unfoldable pub name_of : List ℕ → ℕ → ℕ → List ℕ
name_of w place n = take n (drop (place + 14) w)

-- and which part that is; where byte 14 of the entry is past the window's end, the empty part at the window's start
abbrev pub name_part : List ℕ → ℕ → ℕ → Part
name_part w place n = record { start = pick (ltb (length w) (place + 14)) 0 (place + 14); bytes = name_of w place n }

-- the number of a refusal, and the offset that was to be read, which it carries
abbrev pub number_in : ReadError → ℕ
number_in (OutOfBounds o) = 23
number_in (Truncated o) = 24

abbrev pub offset_in : ReadError → Offset
offset_in (OutOfBounds o) = o
offset_in (Truncated o) = o

-- what a refusal stands for, of whatever was to be given
abbrev pub refused : {A : Type 0} → ReadError → Told A
refused e = refuses (number_in e) ((offset_in e).0 ∷ [])

-- what each answer stands for
abbrev pub told : Result (Maybe Placed) ReadError → Told (Option Placed)
told (Ok (Some x)) = gives (some x)
told (Ok None) = gives none
told (Err e) = refused e
