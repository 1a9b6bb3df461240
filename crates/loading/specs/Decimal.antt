-- What bytes say as a decimal number: at least one digit, first to last, and a number of 64 bits. Assumes nothing.
use Rattle.std.specs.Prelude.{ℕ, ◌+◌, ◌*◌, ◌-◌, Bool, ◌&&◌, List, [], ◌∷◌, ltb, leb}
use Rattle.std.specs.Prelude.{Some, None, Option as Maybe}
use Rattle.std.proofs.Math.Option.{Option, some, none}
use Rattle.units.specs.Told.{pick}

-- what an answer of the code stands for
abbrev pub told : Maybe ℕ → Option ℕ
told (Some n) = some n
told None = none

-- the bytes of the digits 0 to 9
unfoldable pub is_digit : ℕ → Bool
is_digit b = leb 48 b && leb b 57

-- a number and digits after it, of which each makes ten times as much and the digit more; none where one is no digit
unfoldable pub with_digits : ℕ → List ℕ → Option ℕ
with_digits n [] = some n
with_digits n (b ∷ s) = pick (is_digit b) (with_digits (10 * n + (b - 48)) s) none

-- a number of 64 bits; none where it is larger
unfoldable pub fitting : Option ℕ → Option ℕ
fitting none = none
fitting (some n) = pick (ltb n 18446744073709551616) (some n) none

-- what bytes say; no bytes say none
unfoldable pub decimal_of : List ℕ → Option ℕ
decimal_of [] = none
decimal_of (b ∷ s) = fitting (with_digits 0 (b ∷ s))
