-- What std's methods give of bytes, as the order of names has it: a byte raised, and the order of two numbers. Assumes nothing.
use Rattle.std.proofs.Common.{◌≡◌, ℕ, ◌<◌, ◌≤◌, sym, arith}
use Rattle.std.specs.Char.{to_ascii_uppercase}
use Rattle.std.specs.Ordering.{nat_cmp}
use Rattle.std.proofs.Math.Decide.{dec_lt}
use borrow.Author.Tests.{lt-ltb, le-ltb, lt-leb, le-leb, eq-eqb, ne_eqb}
use Rattle.layout_name.specs.Order.{raised, number_order}
use Rattle.layout_name.proofs.Laws.{Three, less, equal, greater, three, number_less, number_equal, number_greater}

raises_by : (b : ℕ) → Dec (b < 97) → Dec (b < 123) → to_ascii_uppercase b ≡ raised b
unfolding raised
raises_by b (yes h) d = simp (lt-ltb _ _ h, lt-leb _ _ h)
raises_by b (no h) (yes k) = let g : 97 ≤ b = omega arith in let l : b ≤ 122 = omega arith in simp (le-ltb _ _ g, lt-ltb _ _ k, le-leb _ _ g, le-leb _ _ l)
raises_by b (no h) (no k) =
    let g : 97 ≤ b = omega arith in
    let l : 123 ≤ b = omega arith in
    let m : 122 < b = omega arith in
    simp (le-ltb _ _ g, le-ltb _ _ l, le-leb _ _ g, lt-leb _ _ m)

pub raises : (b : ℕ) → to_ascii_uppercase b ≡ raised b
raises b = raises_by b (dec_lt b 97) (dec_lt b 123)

number_by : {x y : ℕ} → Three x y → nat_cmp x y ≡ number_order x y
number_by {x} {y} (less h) = simp (lt-ltb _ _ h) (sym (number_less x y h))
number_by {x} {y} (equal e) = let g : y ≤ x = omega arith in simp (le-ltb _ _ g, eq-eqb _ _ e) (sym (number_equal x y e))
number_by {x} {y} (greater h) = let g : y ≤ x = omega arith in simp (le-ltb _ _ g, ne_eqb x y (λ e. omega arith)) (sym (number_greater x y h))

pub number_cmp : (x y : ℕ) → nat_cmp x y ≡ number_order x y
number_cmp x y = number_by (three x y)
