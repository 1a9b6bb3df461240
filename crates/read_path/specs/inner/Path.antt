-- Where the first part of a path ends.
use Rattle.std.specs.Prelude.{ℕ, zero, suc, List, [], ◌∷◌, eqb}
use Rattle.units.specs.Told.{pick}

-- how many bytes stand before the first slash
unfoldable pub first_len : List ℕ → ℕ
first_len [] = zero
first_len (x ∷ xs) = pick (eqb x 47) zero (suc (first_len xs))
