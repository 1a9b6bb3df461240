-- How a contract names an answer that is a part of a slice, and what scratch holds at the return. Assumes nothing.
use Rattle.std.specs.Prelude.{ℕ, ◌+◌, ◌≡◌, Bool, List, length, replicate}
use Rattle.std.specs.Borrow.{Bor}
use Rattle.units.specs.Told.{pick}

-- a part of a slice of bytes: the place of its first byte in the slice, and its bytes
pub record Part : Type 0 where
  pub start : ℕ
  pub bytes : List ℕ

-- the reference r is that part of the slice x: where it points, which is a block of memory and an offset, and what
-- stands there
abbrev pub IsPart : Bor (List ℕ) → Bor (List ℕ) → Part → Type 0
IsPart r x p = (r.ref_ptr ≡ (x.ref_ptr.0, p.start + x.ref_ptr.1)) × (r.now ≡ p.bytes)

-- a column of scratch at the return, by whether there was room: all zero, else as it was at the call
abbrev pub cleared_if : Bool → List ℕ → List ℕ
cleared_if room xs = pick room (replicate (length xs) 0) xs
