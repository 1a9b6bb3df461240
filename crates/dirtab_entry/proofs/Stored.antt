-- A size that is taken is stored in four bytes. Assumes nothing.
use Rattle.std.proofs.Common.{◌≡◌, ℕ, ◌≤◌, true, refl, arith}
use Rattle.dirtab_entry.specs.declared.Kind.{Kind}
use Rattle.dirtab_entry.specs.declared.Kind.TheVariants.{File, Directory}
use Rattle.dirtab_entry.specs.Entry.{is_directory, stored_size}

pub stored_low : (k : Kind) (n : ℕ) → n ≤ 4294967295 → (is_directory k ≡ true → n ≤ 4294965248) → stored_size k n ≤ 4294967295
stored_low File n h d = h
stored_low Directory n h d = let g = d refl in omega arith
