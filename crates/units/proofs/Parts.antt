-- Where the parts of a slice stand in memory. Assumes nothing.
use Rattle.std.proofs.Common.{ℕ, ◌+◌, ◌≡◌, sym, zero-add}

-- the place k bytes on from a place of memory, a block and an offset
abbrev pub onward : ℕ × ℕ → ℕ → ℕ × ℕ
onward p k = (p.0, k + p.1)

pub at_start : (p : ℕ × ℕ) → p ≡ onward p 0
at_start p = λ i. (p.0, sym (zero-add p.1) i)
