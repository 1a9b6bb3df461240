-- `loading::append_digit` meets its contract. Assumes nothing.
use borrow.Author.Rules.{rules}
use Rattle.loading.proofs.Digits.{no_digit, mul_none, added}
use Rattle.loading.proofs.append_digit.Goals as goal

pub returns-then-b-lt48 : goal.returns-then-b-lt48
returns-then-b-lt48 c = no_digit _ _ c.then-b-lt48.either

pub returns-in_err-checked_mul : goal.returns-in_err-checked_mul
returns-in_err-checked_mul c = mul_none _ _ (search rules) (search rules) c.in_err-checked_mul.ensures _ c.from_residual.ensures

pub returns : goal.returns
returns c = added _ _ _ _ (search rules) (search rules) c.in_ok-checked_mul.ensures.1 c.from.ensures _ c.checked_add.ensures
