-- What the loop of the check keeps and leaves, for the contracts inside the crate. Assumes nothing.
use Rattle.std.specs.Prelude.{ℕ, ◌+◌, ◌*◌, ◌/◌, ◌%◌, ◌≤◌, ◌<◌, ◌≡◌, eqb, length, get_or, take}
use Rattle.std.specs.Prelude.{Result, Ok, Err}
use mathlib.Core.List.{List, [], ◌∷◌, map, Memᴰ}
use Rattle.std.proofs.Math.Option.{Option}
use Rattle.units.specs.Told.{Told, gives, refuses, pick}
use Rattle.units.specs.declared.Sector.{Sector}
use Rattle.units.specs.declared.Region.{Region}
use Rattle.layout_node.specs.declared.Header.{Header}
use Rattle.read_entry.specs.declared.Placed.{Placed}
use Rattle.read_entry.specs.Entry.{read_at}
use Rattle.read_entry.specs.Links.{is_in}
use Rattle.read_walk.specs.Walk.{counted}
use Rattle.read_walk.specs.inner.Run.{stack_of, kept_of, listed_of}
use Rattle.strict_rule.specs.declared.CheckError.{CheckError}
use Rattle.strict_rule.specs.Strict.{Visit, root, visit_left, visit_right, push, apart, end_by, strict_from, told}
use Rattle.strict_rule.specs.inner.Nearest.{nearest, entered_nearest}

-- a table that starts where the window does: both at sector 0
pub record Begins (first : Sector) (t : Region) : Type 0 where
  pub window : first.0 ≡ 0
  pub table : t.sector.0 ≡ 0

-- the check of a table that has some size, by the nearest bounds
abbrev pub run_of : List ℕ → Sector → Region → ℕ → Told (List ℕ)
run_of w first t room = strict_from entered_nearest w (read_at w first t) t.size room [] (root ∷ [])

-- the entry that a link of the scratch says to compare with: 65535 is none
abbrev pub bound_of : ℕ → List ℕ
bound_of k = pick (eqb k 65535) [] (4 * k ∷ [])

-- a place to visit as a number of the scratch: its link, 65536 times the link of its nearest bound `under`, and
-- 65536 × 65536 times that of its nearest bound `over`
abbrev pub visit_of : ℕ → Visit
visit_of c = record {
  offset = 4 * (c % 65536);
  under = bound_of (c / 65536 % 65536);
  over =
      bound_of (c / 4294967296 % 65536);
}

-- the visits that the first places of the scratch hold, the last of them on top
abbrev pub visits_of : List ℕ → ℕ → List Visit
visits_of s top = map visit_of (stack_of s top)

-- a link put on the stack, with the rest of its number, unless it is absent
pub record Pushed (k rest : ℕ) (s : List ℕ) (top : ℕ) (after : List ℕ) (height-after : ℕ) : Type 0 where
  pub stack : visits_of after height-after ≡ push k (visit_of (k + 65536 * rest)) (visits_of s top)
  pub height : height-after ≤ top + 1
  pub kept : length after ≡ length s

-- the two children of the entry v put on the stack, the left one on top
pub record Entered (v : Visit) (h : Header) (s : List ℕ) (top : ℕ) (after : List ℕ) (height-after : ℕ) : Type 0 where
  pub stack : visits_of after height-after
      ≡ push h.left.0 (nearest (visit_left h.left.0 v))
      (push h.right.0 (nearest (visit_right h.right.0 v)) (visits_of s top))
  pub height : height-after ≤ top + 2
  pub kept : length after ≡ length s

-- an entry stands on four or more whole units
pub record Whole (f : ℕ → Told (Option Placed)) (x : ℕ) : Type 0 where
  pub from : ℕ
  pub to : ℕ
  pub starts : x ≡ 4 * from
  pub ends : end_by (f x) x ≡ 4 * to
  pub long : from + 4 ≤ to

-- the map m is that of the entries listed: 1 at a unit where one starts, 0 at a unit where none stands
pub record Mapped (f : ℕ → Told (Option Placed)) (seen m : List ℕ) : Type 0 where
  pub starts : (u : ℕ) → u < length m → eqb (get_or m u 0) 1 ≡ is_in (4 * u) seen
  pub free : (u : ℕ) → u < length m → eqb (get_or m u 0) 0 ≡ apart f (4 * u) (4 * u + 4) seen
  pub whole : (x : ℕ) → Memᴰ x seen → Whole f x

-- a map of n units is enough for a table of that size: a link reaches unit 65,535, and an entry has at most 68 units
pub record Covers (size n : ℕ) : Type 0 where
  pub unit : (u : ℕ) → u < 65536 → 4 * u < size → u < n
  pub end : (e : ℕ) → e ≤ 262416 → e ≤ size → e / 4 ≤ n

-- a verdict of the code is one of the definition
abbrev pub Judged : Result (Unit {0}) CheckError → Told (Unit {0}) → Type 0
Judged (Ok u) x = x ≡ gives tt
Judged (Err e) x = ((k : ℕ) × (vs : List ℕ) × (x ≡ refuses k vs) × (told (Err e) ≡ refuses k vs))

-- the answer is the check's, and the places that it keeps hold what the check lists
pub record Runs (check : Told (List ℕ)) (answer : Result ℕ CheckError) (list : List ℕ) : Type 0 where
  pub is : told answer ≡ counted check
  pub listed : take (kept_of answer) list ≡ listed_of check
  pub within : kept_of answer ≤ length list
