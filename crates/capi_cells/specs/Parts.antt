-- The numbers that stand for the parts of what each operation of reading gives. Assumes nothing.
use Rattle.std.specs.Prelude.{ℕ, List, [], ◌∷◌}
use Rattle.layout_node.specs.declared.Header.{Header}
use Rattle.layout_volume.specs.declared.Descriptor.{Descriptor}
use Rattle.read_entry.specs.Entry.{Placed}
use Rattle.read_lookup.specs.Lookup.{Finding}

-- the six numbers of an entry's header: left link, right link, sector, size, attributes, length of the name
abbrev pub fields_of : Header → List ℕ
fields_of h = h.left.0 ∷ h.right.0 ∷ h.sector.0 ∷ h.size ∷ h.attributes ∷ h.name_len ∷ []

-- the parts of what each operation gives
abbrev pub placed_fields : Placed → List ℕ
placed_fields x = fields_of x.header

abbrev pub placed_at : Placed → ℕ
placed_at x = x.place

abbrev pub found_fields : Finding → List ℕ
found_fields x = fields_of x.entry.header

abbrev pub found_place : Finding → ℕ
found_place x = x.entry.place

abbrev pub found_offset : Finding → ℕ
found_offset x = x.offset

abbrev pub found_headers : Finding → ℕ
found_headers x = x.headers

abbrev pub root_sector : Descriptor → ℕ
root_sector d = d.root.sector.0

abbrev pub root_size : Descriptor → ℕ
root_size d = d.root.size

abbrev pub stamp_of : Descriptor → ℕ
stamp_of d = d.stamp

abbrev pub itself : ℕ → ℕ
itself n = n
