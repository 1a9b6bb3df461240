-- The size of one entry. Assumes nothing.
use Rattle.std.proofs.Common.{ℕ, ◌≡◌, ap, sym, true, false, eqb}
use Rattle.units.specs.Told.{pick}

-- a directory's is that of its table, any other entry has its own
pub directory_size : (kind table value : ℕ) → eqb kind 1 ≡ true → table ≡ pick (eqb kind 1) table value
directory_size kind table value k = sym (ap (λ b. pick b table value) k)

pub file_size : (kind table value : ℕ) → eqb kind 1 ≡ false → value ≡ pick (eqb kind 1) table value
file_size kind table value k = sym (ap (λ b. pick b table value) k)
