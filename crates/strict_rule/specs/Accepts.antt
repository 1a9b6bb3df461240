-- Which tables the strict check is meant to accept, as docs/SCOPE.md has it: the walk ends, no entry is reached
-- twice, entries are disjoint, inside the table size and cross no sector line, and every name in the left subtree of
-- an entry is less than the entry's, every name in its right subtree greater. Assumes nothing.
use Rattle.std.specs.Prelude.{ℕ, ◌-◌, ◌*◌, ◌/◌, ◌≤◌, ◌<◌, ◌≡◌, false, ◌⊎◌, length, get_or}
use mathlib.Core.List.{List, Memᴰ}
use Rattle.std.proofs.Math.Option.{Option, some}
use Rattle.units.specs.Told.{Told, gives}
use Rattle.units.specs.declared.Sector.{Sector}
use Rattle.units.specs.declared.Region.{Region}
use Rattle.std.specs.declared.cmp.Ordering.TheVariants.{Less, Greater}
use Rattle.name_role.specs.Roles.{stored_order}
use Rattle.read_entry.specs.declared.Placed.{Placed}
use Rattle.read_entry.specs.Entry.{read_at}
use Rattle.read_entry.specs.Links.{is_in, walk_absent}
use Rattle.read_walk.specs.Walk.{walk_of}
use Rattle.strict_rule.specs.Strict.{end_of, name_in}

-- from one offset to another along links that the walk follows, from entry to entry. `f o` is what is read at offset o
pub data Reach (f : ℕ → Told (Option Placed)) : ℕ → ℕ → Type 0 where
  here : {o : ℕ} → Reach f o o
  by_left : {o p : ℕ} {x : Placed} → f o ≡ gives (some x) → is_in x.header.left.0 walk_absent ≡ false
      → Reach f (4 * x.header.left.0) p → Reach f o p
  by_right : {o p : ℕ} {x : Placed} → f o ≡ gives (some x) → is_in x.header.right.0 walk_absent ≡ false
      → Reach f (4 * x.header.right.0) p → Reach f o p

module _ (w : List ℕ) (first : Sector) (t : Region) where
  -- the entry at an offset, as the window says it
  abbrev pub EntryAt : ℕ → Placed → Type 0
  EntryAt o x = read_at w first t o ≡ gives (some x)

  -- inside the table, and over no sector line
  pub record InPlace (o : ℕ) (x : Placed) : Type 0 where
    pub inside : end_of x.header o ≤ t.size
    pub uncrossed : o / 2048 ≡ (end_of x.header o - 1) / 2048

  -- the names in the two subtrees of an entry: of all entries that its links lead to, from one to the next
  pub record InOrder (x : Placed) : Type 0 where
    pub left : (p : ℕ) (y : Placed) → is_in x.header.left.0 walk_absent ≡ false
        → Reach (read_at w first t) (4 * x.header.left.0) p → EntryAt p y
        → stored_order (name_in w y) (name_in w x) ≡ Less
    pub right : (p : ℕ) (y : Placed) → is_in x.header.right.0 walk_absent ≡ false
        → Reach (read_at w first t) (4 * x.header.right.0) p → EntryAt p y
        → stored_order (name_in w y) (name_in w x) ≡ Greater

  -- THE RULE, of a table whose walk lists xs
  pub record Accepts (xs : List ℕ) : Type 0 where
    pub ends : (room : ℕ) → length xs ≤ room → walk_of w first t room ≡ gives xs
    pub once : (i j : ℕ) → i < length xs → j < length xs → get_or xs i 0 ≡ get_or xs j 0 → i ≡ j
    pub in_place : (o : ℕ) (x : Placed) → Memᴰ o xs → EntryAt o x → InPlace o x
    pub disjoint : (o p : ℕ) (x y : Placed) → Memᴰ o xs → Memᴰ p xs → EntryAt o x → EntryAt p y → (o ≡ p → ⊥)
        → (end_of x.header o ≤ p) ⊎ (end_of y.header p ≤ o)
    pub in_order : (o : ℕ) (x : Placed) → Memᴰ o xs → EntryAt o x → InOrder x
