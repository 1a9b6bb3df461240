-- `read_entry::name_part` meets its contract: past the window's end `take` and `drop` leave less, and so does the code; and it points where it says. Assumes nothing.
use Prim.Native.Nat.{ℕ, ◌+◌, ◌-◌, ◌≤◌, ◌<◌}
use mathlib.Core.Path.{◌≡◌, sym, ◌∙◌}
use mathlib.Core.List.{List, []}
use native.Mathlib.Nat.{add-sub_cancel_left}
use native.Mathlib.Omega.{arith}
use lib.ListN.{length, take, drop, length-drop, drop_of_length-le}
use lib.Seq.{take_all, take-nil}
use borrow.Author.Tests.{lt-ltb, le-ltb}
use Rattle.units.proofs.Parts.{onward, at_start}
use Rattle.read_entry.specs.Entry.{name_of, name_part}
use Rattle.read_entry.proofs.name_part.Goals as goal

module _ (p : ℕ × ℕ) (w : List ℕ) (at n : ℕ) where
  -- it starts before the end
  inside : at + 14 ≤ length w → onward p (at + 14) ≡ onward p (name_part w at n).start
  inside h = sym (rw (le-ltb _ _ h))

  -- it starts past the end
  past : length w < at + 14 → (p ≡ onward p (name_part w at n).start) × ([] ≡ name_of w at n)
  unfolding name_of
  past h = (at_start p ∙ sym (rw (lt-ltb _ _ h)), sym (rw (drop_of_length-le w {i = at + 14} (omega arith), take-nil n)))

  -- it runs past the end
  cut : at + 14 ≤ length w → length w - (at + 14) < n →
      (onward p (at + 14) ≡ onward p (name_part w at n).start) × (take (length w - (at + 14)) (drop (at + 14) w) ≡ name_of w at n)
  unfolding name_of
  cut i h = (inside i, take_all (length w - (at + 14)) (drop (at + 14) w) (simp length-drop (omega arith)) ∙ sym (take_all n (drop (at + 14) w) (simp length-drop (omega arith))))

  whole : at + 14 ≤ length w → (onward p (at + 14) ≡ onward p (name_part w at n).start) × (take (at + 14 + n - (at + 14)) (drop (at + 14) w) ≡ name_of w at n)
  unfolding name_of
  whole i = (inside i, rw (add-sub_cancel_left (at + 14) n))

pub returns-then-w-lt14 : goal.returns-then-w-lt14
returns-then-w-lt14 c = past _ _ _ _ (omega arith)

pub returns-then-w-place : goal.returns-then-w-place
returns-then-w-place c = past _ _ _ _ (omega arith)

pub returns-then-w-from : goal.returns-then-w-from
returns-then-w-from c = cut _ _ _ _ (omega arith) (omega arith)

pub returns : goal.returns
returns c = whole _ _ _ _ (omega arith)
