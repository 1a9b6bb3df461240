-- `loading::read_decimal` meets its contract. The invariant: the number read is one of 64 bits, and it and the bytes that are left say what all of them say. Assumes nothing.
use Prim.Native.Nat.{◌<◌}
use mathlib.Core.Path.{◌≡◌}
use lib.ListN.{drop}
use Rattle.loading.specs.Decimal.{with_digits, fitting, decimal_of}
use Rattle.loading.proofs.read_decimal.Given as goal

abbrev pub invariant-loop-b : goal.invariant-loop-b
invariant-loop-b l = (l.n < 18446744073709551616) × (decimal_of l.s ≡ fitting (with_digits l.n (drop l.b-index l.s)))
