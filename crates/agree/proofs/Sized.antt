-- The sizes with which a table can be read. Assumes nothing.
use Prim.Native.Nat.{ℕ}
use mathlib.Core.Path.{◌≡◌}
use native.Mathlib.Omega.{arith}
use Rattle.dirtab_entry.specs.Entry.{rounded}
use Rattle.agree.specs.Written.{SizedFor}

-- the reported one, and that one rounded
pub as_reported : (reported n : ℕ) → n ≡ reported → SizedFor reported n
as_reported reported n e = record { least = omega arith; most = omega arith }

pub as_rounded : (reported n : ℕ) → n ≡ rounded reported → SizedFor reported n
as_rounded reported n e = record { least = omega arith; most = omega arith }

-- an empty table has one size alone
pub empty_size : (n : ℕ) → SizedFor 2048 n → n ≡ 2048
empty_size n s = omega (arith, s.least, s.most)
