-- A name by its role: given to a writer, stored in a table, sought by a lookup. What is stored of a given name, by
-- which keys a name of each role compares, how two names stand, and which names are refused where they are sought.
-- Assumes nothing. What is above cites these names and their laws (proofs/Roles.antt) alone.
use Rattle.std.specs.Prelude.{ℕ, Bool, true, false, List, [], ◌∷◌, map, ltb}
use Rattle.units.specs.Told.{pick}
use Rattle.std.specs.declared.cmp.Ordering.{Ordering}
use Rattle.layout_name.specs.Order.{list_order, raised}

-- the keys of a given name: its bytes, a to z raised
unfoldable pub given_keys : List ℕ → List ℕ
given_keys = map raised

-- the keys of a stored name: its bytes, a to z raised
unfoldable pub stored_keys : List ℕ → List ℕ
stored_keys = map raised

-- the keys of a name that is sought: its bytes, a to z raised
unfoldable pub sought_keys : List ℕ → List ℕ
sought_keys = map raised

-- a given name as it is stored: byte for byte
unfoldable pub stored_of : List ℕ → List ℕ
stored_of a = a

-- the order of two given names
unfoldable pub given_order : List ℕ → List ℕ → Ordering
given_order a b = list_order (given_keys a) (given_keys b)

-- the order of two stored names
unfoldable pub stored_order : List ℕ → List ℕ → Ordering
stored_order a b = list_order (stored_keys a) (stored_keys b)

-- the order of a name that is sought to one that is stored
unfoldable pub sought_order : List ℕ → List ℕ → Ordering
sought_order s b = list_order (sought_keys s) (stored_keys b)

-- a name that cannot be sought (2): some byte is above 127
unfoldable pub bad_sought : List ℕ → Bool
bad_sought [] = false
bad_sought (x ∷ xs) = pick (ltb 127 x) true (bad_sought xs)
