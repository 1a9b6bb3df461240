-- What a few bytes say as a decimal number. Assumes nothing.
use mathlib.Core.Path.{◌≡◌, refl}
use mathlib.Core.List.{[], ◌∷◌}
use mathlib.Core.Option.{some, none}
use Rattle.loading.specs.Decimal.{is_digit, with_digits, fitting, decimal_of}

-- no bytes say no number, and one 0 says 0
pub no_bytes : decimal_of [] ≡ none
unfolding decimal_of
no_bytes = refl

pub one_zero : decimal_of (48 ∷ []) ≡ some 0
unfolding decimal_of fitting with_digits is_digit
one_zero = refl

-- zeros may lead: 0090
pub zeros_lead : decimal_of (48 ∷ 48 ∷ 57 ∷ 48 ∷ []) ≡ some 90
unfolding decimal_of fitting with_digits is_digit
zeros_lead = refl

-- the bytes beside the digits: `/` and `:`
pub slash : decimal_of (49 ∷ 47 ∷ []) ≡ none
unfolding decimal_of fitting with_digits is_digit
slash = refl

pub colon : decimal_of (49 ∷ 58 ∷ []) ≡ none
unfolding decimal_of fitting with_digits is_digit
colon = refl

-- 18446744073709551615 is the last number
pub the_last : decimal_of (49 ∷ 56 ∷ 52 ∷ 52 ∷ 54 ∷ 55 ∷ 52 ∷ 52 ∷ 48 ∷ 55 ∷ 51 ∷ 55 ∷ 48 ∷ 57 ∷ 53 ∷ 53 ∷ 49 ∷ 54 ∷ 49 ∷ 53 ∷ []) ≡ some 18446744073709551615
unfolding decimal_of fitting with_digits is_digit
the_last = refl

pub after_the_last : decimal_of (49 ∷ 56 ∷ 52 ∷ 52 ∷ 54 ∷ 55 ∷ 52 ∷ 52 ∷ 48 ∷ 55 ∷ 51 ∷ 55 ∷ 48 ∷ 57 ∷ 53 ∷ 53 ∷ 49 ∷ 54 ∷ 49 ∷ 54 ∷ []) ≡ none
unfolding decimal_of fitting with_digits is_digit
after_the_last = refl
