-- What taking answers, from the tests that led there. Assumes nothing.
use Rattle.std.proofs.Common.{ℕ, ◌+◌, ◌-◌, ◌/◌, ◌%◌, ◌≤◌, ◌<◌, ◌≡◌, sym, [], arith}
use borrow.Author.Tests.{eq-eqb, ne_eqb, lt-ltb, le-ltb}
use Rattle.units.specs.Told.{gives, refuses}
use Rattle.layout_sector.specs.Counter.{sectors_for, aligned_up, take_of}
use Rattle.layout_sector.proofs.Laws.{takes_some, aligned_one}

-- taking with alignment 1
module _ (next n x count : ℕ) (at : x ≡ next) (takes : count ≡ sectors_for n) where
  pub overflow : 4294967295 - x < count → refuses 8 [] ≡ take_of 1 next n
  unfolding take_of
  overflow h =
      let over : 4294967295 < aligned_up 1 next + sectors_for n = omega (arith, aligned_one next) in
      sym (simp (lt-ltb _ _ over))

  pub taken : (y free : ℕ) → y ≡ next → free ≡ y + count → count ≤ 4294967295 - x → gives (record { start = next; free = free }) ≡ take_of 1 next n
  unfolding take_of
  taken y free ey e h =
      let under : aligned_up 1 next + sectors_for n ≤ 4294967295 = omega (arith, aligned_one next, takes_some n) in
      let same : free ≡ next + sectors_for n = omega arith in
      rw (le-ltb _ _ under, aligned_one next, same)
