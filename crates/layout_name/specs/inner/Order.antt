-- The order of two bytes, the raised copy, and the order the other way round.
use Rattle.std.specs.Prelude.{ℕ, ◌-◌, List, ◌++◌, map, length, replicate}
use Rattle.std.specs.declared.cmp.Ordering.{Ordering}
use Rattle.std.specs.declared.cmp.Ordering.TheVariants.{Less, Equal, Greater}
use Rattle.layout_name.specs.Order.{number_order, raised}

-- the order of two bytes, raised
unfoldable pub byte_order : ℕ → ℕ → Ordering
byte_order p q = number_order (raised p) (raised q)

-- the name raised, with zeros up to 255 bytes
unfoldable pub raised_copy : List ℕ → List ℕ
raised_copy a = map raised a ++ replicate (255 - length a) 0

-- the other way round
abbrev pub opposite : Ordering → Ordering
opposite Less = Greater
opposite Equal = Equal
opposite Greater = Less
