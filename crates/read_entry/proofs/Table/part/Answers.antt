-- `read_entry::Table::part` meets its contract: where the table starts in the window, `get` gives what is from there on, and else nothing. Assumes nothing.
use Rattle.std.proofs.Common.{◌≡◌, ℕ, ◌-◌, ◌*◌, ◌≤◌, ◌<◌, List, [], length, take, drop, length-drop, drop_of_length-le, refl, sym, ◌∙◌, ap, inl, inr, arith, Bor, Some, None, Option, unwrap_or}
use Rattle.std.proofs.Math.Seq.{take_all}
use Rattle.std.specs.Slice.{IsGetRangeResult}
use borrow.Author.Tests.{lt-ltb, le-ltb}
use Rattle.units.specs.declared.Sector.{Sector}
use Rattle.units.specs.declared.Region.{Region}
use Rattle.read_entry.specs.inner.Part.{part_of}
use Rattle.read_entry.proofs.Table.part.Goals as goal

-- what `get` gives from a place on, or nothing
from_place : (w : List ℕ) (n : ℕ) (r : Option (Bor (List ℕ))) (none : Bor (List ℕ)) → none.now ≡ [] → IsGetRangeResult w n (length w) r → (unwrap_or r none).now ≡ drop n w
from_place w n (Some x) none e (there, _) = there.2 ∙ take_all (length w - n) (drop n w) (simp length-drop (omega arith))
from_place w n None none e (inl h, _) = e ∙ sym (drop_of_length-le w {i = n} (omega arith))
from_place w n None none e (inr h, _) = absurd (omega arith)

module _ (w : List ℕ) (first : Sector) (t : Region) (start from : ℕ) (start_is : start ≡ 2048 * t.sector.0) (from_is : from ≡ 2048 * first.0) where
  before : start < from → [] ≡ part_of w first t
  unfolding part_of
  before h = sym (rw (← start_is, ← from_is, lt-ltb _ _ h))

  within : from ≤ start → (part : List ℕ) → part ≡ drop (start - from) w → part ≡ part_of w first t
  unfolding part_of
  within h part e = e ∙ sym (rw (← start_is, ← from_is, le-ltb _ _ h))

pub returns-then-start-from : goal.returns-then-start-from
returns-then-start-from c = search before

pub returns : goal.returns
returns c = within _ _ _ _ _ c.start-start.ensures c.start-from.ensures c.if-start-from.false _ (ap (λ (r : Bor (List ℕ)). r.now) c.unwrap_or.ensures ∙ from_place _ _ _ _ refl c.get.ensures.lookup)
