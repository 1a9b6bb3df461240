-- Once an element was read, what the slice's rule says of each index is known; an empty slice has no element. Assumes nothing.
use native.Mathlib.Omega.{arith}
use lib.ListN.{get_or-eq_default}
use Rattle.claims_bytes.proofs.know_bytes.Goals as goal

pub returns-then-w-gt0 : goal.returns-then-w-gt0
returns-then-w-gt0 c = λ i. omega (arith, c.shared_slice_known-1.given i)

pub returns : goal.returns
returns c = λ i. omega (arith, get_or-eq_default c.args.w.now 0 {n = i} (omega arith))
