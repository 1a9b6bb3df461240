-- Laws of the sector counter, for every alignment from 1 on. Assumes nothing.
use Rattle.std.proofs.Common.{ℕ, ◌+◌, ◌-◌, ◌*◌, ◌/◌, ◌%◌, ◌≤◌, ◌<◌, ◌≡◌, refl, sym, ap, Bool, true, false, [], arith, div-add-mod', mod-lt, ltb, eqb}
use borrow.Author.Tests.{lt-ltb, ltb-true, eqb-false}
use Rattle.units.specs.Told.{gives, refuses, pick}
use Rattle.layout_sector.specs.Counter.{Run, sectors_for, aligned_up, last_free, take_of}

-- a length of 0 takes one sector
pub zero_takes_one : sectors_for 0 ≡ 1
unfolding sectors_for
zero_takes_one = refl

-- every length takes a sector at least
pub takes_some : (n : ℕ) → 1 ≤ sectors_for n
unfolding sectors_for
takes_some n = some (eqb n 0) refl
  where
    some : (b : Bool) → eqb n 0 ≡ b → 1 ≤ pick b 1 ((n + 2047) / 2048)
    some true e = omega arith
    some false e = omega (arith, eqb-false)

-- with alignment 1 the start is the next free sector itself
pub aligned_one : (next : ℕ) → aligned_up 1 next ≡ next
aligned_one next = omega arith

up : (next align q r : ℕ) → 1 ≤ align → q + r ≡ next + (align - 1) → r < align → next ≤ q
up next align q r h e k = omega arith

-- a start is not before the next free sector
pub aligned_above : (align next : ℕ) → 1 ≤ align → next ≤ aligned_up align next
aligned_above align next h =
    let x : ℕ = next + (align - 1) in
    up next align (x / align * align) (x % align) h (div-add-mod' x align) (mod-lt x {m = align} (omega arith))

-- what a taking gives is where its start and its free sector are
given : (b : Bool) (p r : Run) → pick b (refuses 8 []) (gives p) ≡ gives r → p ≡ r
given true p r e = let z : ◌≡◌ {A = ℕ} 0 1 = cc in absurd (omega arith)
given false p r e = cc

pub given_start : (align next n : ℕ) (r : Run) → take_of align next n ≡ gives r → r.start ≡ aligned_up align next
unfolding take_of
given_start align next n r e = sym (ap (λ (q : Run). q.start) (given (ltb last_free (aligned_up align next + sectors_for n)) _ r e))

pub given_free : (align next n : ℕ) (r : Run) → take_of align next n ≡ gives r → r.free ≡ aligned_up align next + sectors_for n
unfolding take_of
given_free align next n r e = sym (ap (λ (q : Run). q.free) (given (ltb last_free (aligned_up align next + sectors_for n)) _ r e))

-- two takings one after the other never overlap: the second starts at the first's free sector or past it
pub never_overlap : (align next n m : ℕ) (r q : Run) → 1 ≤ align → take_of align next n ≡ gives r → take_of align r.free m ≡ gives q → r.free ≤ q.start
never_overlap align next n m r q h e f = omega (arith, given_start align r.free m q f, aligned_above align r.free h)

-- a taking takes its start at least, and none that was taken before
pub takes_its_start : (align next n : ℕ) (r : Run) → 1 ≤ align → take_of align next n ≡ gives r → (next ≤ r.start) × (r.start < r.free)
takes_its_start align next n r h e = (
  omega (arith, given_start align next n r e, aligned_above align next h),
  omega (arith, given_start align next n r e, given_free align next n r e, takes_some n),
)

refused : (b : Bool) (p : Run) → pick b (refuses 8 []) (gives p) ≡ refuses 8 [] → b ≡ true
refused true p e = refl
refused false p e = let z : ◌≡◌ {A = ℕ} 0 1 = cc in absurd (omega arith)

-- refused 8 exactly where the next free sector would exceed 4,294,967,295: there, and nowhere else
pub overflow_is_8 : (align next n : ℕ) → 4294967295 < aligned_up align next + sectors_for n → take_of align next n ≡ refuses 8 []
unfolding take_of
overflow_is_8 align next n h = simp (lt-ltb _ _ h)

pub overflow_where_8 : (align next n : ℕ) → take_of align next n ≡ refuses 8 [] → 4294967295 < aligned_up align next + sectors_for n
unfolding take_of
overflow_where_8 align next n e = ltb-true _ _ (refused (ltb last_free (aligned_up align next + sectors_for n)) _ e)
