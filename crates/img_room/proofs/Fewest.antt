-- The least of several numbers, found one after the other. Assumes nothing.
use Rattle.std.proofs.Common.{ℕ, ◌≡◌, min, arith}

pub min_assoc : (a b c : ℕ) → min (min a b) c ≡ min a (min b c)
min_assoc a b c = omega arith
