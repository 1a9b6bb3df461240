-- What stands at a place of a table, an offset in it, by what reading there finds: the table of a directory, where
-- the entry's links lead, and its name. Assumes nothing.
use Rattle.std.specs.Prelude.{ℕ, ◌*◌, List, [], ◌∷◌, Result, Ok, Err, Some, None, Option as Maybe}
use Rattle.std.proofs.Math.Option.{Option, some, none}
use Rattle.units.specs.Told.{Told, gives, refuses, pick}
use Rattle.units.specs.Lent.{Part}
use Rattle.units.specs.declared.Sector.{Sector}
use Rattle.units.specs.declared.Region.{Region}
use Rattle.units.specs.declared.Link.{Link}
use Rattle.units.specs.declared.Offset.{Offset}
use Rattle.layout_node.specs.declared.Header.{Header}
use Rattle.layout_node.specs.Header.{is_directory}
use Rattle.read_entry.specs.declared.ReadError.{ReadError}
use Rattle.read_entry.specs.Entry.{Placed, read_at, name_part, refused}
use Rattle.read_entry.specs.Links.{is_in, walk_absent}
use Rattle.read_place.specs.declared.EnterError.{EnterError}
use Rattle.read_place.specs.declared.EnterError.TheVariants as error

-- an entry that is gone into must be a directory (else 27); its table is the region that the header names
unfoldable pub header_entered : Header → Told Region
header_entered h = pick (is_directory h) (gives (record { sector = h.sector; size = h.size })) (refuses 27 [])

-- no entry is 22; a refusal stays
abbrev pub table_of : Told (Option Placed) → Told Region
table_of (gives (some x)) = header_entered x.header
table_of (gives none) = refuses 22 []
table_of (refuses k vs) = refuses k vs

-- the table of the directory at an offset
unfoldable pub table_at : List ℕ → Sector → Region → ℕ → Told Region
table_at w first t o = table_of (read_at w first t o)

-- by a link: an absent one leads nowhere, any other to its offset, four times the link
unfoldable pub by_link : List ℕ → ℕ → Told (Option ℕ)
by_link absent k = pick (is_in k absent) (gives none) (gives (some (4 * k)))

-- by one link of an entry that is read, with the links that the walk takes for absent: the side is the header's left
-- or right link; no entry has none
abbrev pub link_of : (Header → Link) → Told (Option Placed) → Told (Option ℕ)
link_of side (gives (some x)) = by_link walk_absent (side x.header).0
link_of side (gives none) = gives none
link_of side (refuses k vs) = refuses k vs

-- where the links of the entry at an offset lead
unfoldable pub left_at : List ℕ → Sector → Region → ℕ → Told (Option ℕ)
left_at w first t o = link_of (λ h. h.left) (read_at w first t o)

unfoldable pub right_at : List ℕ → Sector → Region → ℕ → Told (Option ℕ)
right_at w first t o = link_of (λ h. h.right) (read_at w first t o)

-- the name of an entry that is read, as a part of the window; where none is, the empty part at the window's start
abbrev pub name_in : List ℕ → Told (Option Placed) → Part
name_in w (gives (some x)) = name_part w x.place x.header.name_len
name_in w (gives none) = record { start = 0; bytes = [] }
name_in w (refuses k vs) = record { start = 0; bytes = [] }

-- the name at an offset
unfoldable pub name_at : List ℕ → Sector → Region → ℕ → Part
name_at w first t o = name_in w (read_at w first t o)

-- what each answer of the code stands for
abbrev pub entered : Result Region EnterError → Told Region
entered (Ok t) = gives t
entered (Err error.DoesNotExist) = refuses 22 []
entered (Err (error.Read e)) = refused e
entered (Err error.IsNotDirectory) = refuses 27 []

abbrev pub linked : Result (Maybe Offset) ReadError → Told (Option ℕ)
linked (Ok (Some o)) = gives (some o.0)
linked (Ok None) = gives none
linked (Err e) = refused e
