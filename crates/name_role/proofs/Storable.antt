-- A given name that can be stored. Assumes nothing.
use Rattle.std.proofs.Common.{ℕ, Bool, true, false, List, [], ◌∷◌, ltb}
use Rattle.units.specs.Told.{pick}

-- every byte is at most 127
unfoldable pub is_storable : List ℕ → Bool
is_storable [] = true
is_storable (x ∷ xs) = pick (ltb 127 x) false (is_storable xs)
