-- The order of names: byte by byte, by a key of each byte; a proper prefix is less. Assumes nothing. Today's key
-- raises a to z to A to Z and leaves every other byte as it is, so that a byte of 0x80 and above is greater than
-- every ASCII byte. Another key (a code point) is another argument of `order_by`; the laws, in proofs/Laws.antt,
-- hold for every key.
use Rattle.std.specs.Prelude.{ℕ, ◌-◌, Bool, true, false, List, [], ◌∷◌, map, ltb, leb}
use Rattle.units.specs.Told.{pick}
use Rattle.std.specs.declared.cmp.Ordering.{Ordering}
use Rattle.std.specs.declared.cmp.Ordering.TheVariants.{Less, Equal, Greater}

-- the order of two numbers
unfoldable pub number_order : ℕ → ℕ → Ordering
number_order x y = pick (ltb x y) Less (pick (ltb y x) Greater Equal)

-- the first order if it decides, else the second
abbrev pub and_then : Ordering → Ordering → Ordering
and_then Less o = Less
and_then Equal o = o
and_then Greater o = Greater

-- the order of two lists of numbers: the first place where they differ decides, and a proper prefix is less
unfoldable pub list_order : List ℕ → List ℕ → Ordering
list_order [] [] = Equal
list_order [] (y ∷ ys) = Less
list_order (x ∷ xs) [] = Greater
list_order (x ∷ xs) (y ∷ ys) = and_then (number_order x y) (list_order xs ys)

-- the order of two names by a key of each byte
unfoldable pub order_by : (ℕ → ℕ) → List ℕ → List ℕ → Ordering
order_by key a b = list_order (map key a) (map key b)

-- a byte with a to z (97 to 122) raised to A to Z (65 to 90)
unfoldable pub raised : ℕ → ℕ
raised b = pick (leb 97 b) (pick (leb b 122) (b - 32) b) b

-- the order of two names
unfoldable pub name_order : List ℕ → List ℕ → Ordering
name_order a b = order_by raised a b

-- whether an order is less
abbrev pub is_less : Ordering → Bool
is_less Less = true
is_less Equal = false
is_less Greater = false
