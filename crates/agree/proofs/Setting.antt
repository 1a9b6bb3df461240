-- The setting of the inductions over a tree that was written: entries, the window and where the table stands in it, with short names for places in it.
-- Assumes nothing.
use Prim.Native.Nat.{ℕ, ◌+◌, ◌*◌, ◌≤◌}
use mathlib.Core.Path.{◌≡◌}
use mathlib.Core.List.{List}
use mathlib.Core.Option.{Option}
use Rattle.units.specs.Told.{Told}
use Rattle.units.specs.declared.Sector.{Sector}
use Rattle.units.specs.declared.Region.{Region}
use Rattle.read_entry.specs.Entry.{Placed, read_at}
use Rattle.avl_model.specs.Tree.{Tree}
use Rattle.table_model.specs.Entry.{Entry, Item}
use Rattle.table_model.specs.Place.{start_of, stop_of, end_of, link_to, free_after, free_of, item_of, items}
use Rattle.agree.specs.Agreement.{ReadBack}

pub record Setting : Type 0 where
  pub entry : ℕ → Entry
  pub align : ℕ
  pub aligned : 1 ≤ align
  pub w : List ℕ
  pub first : Sector
  pub t : Region
  pub place : ℕ
  pub at_sector : 2048 * t.sector.0 ≡ 2048 * first.0 + place

module _ (F : Setting) where
  -- where an entry starts and stops, where a tree ends, the link to it
  abbrev pub start : ℕ → ℕ → ℕ
  start e i = start_of F.entry e i

  abbrev pub stop : ℕ → ℕ → ℕ
  stop e i = stop_of F.entry e i

  abbrev pub end : ℕ → Tree → ℕ
  end e x = end_of F.entry e x

  abbrev pub link : ℕ → Tree → ℕ
  link e x = link_to F.entry e x

  -- the next free sector after an entry, and after a tree
  abbrev pub next : ℕ → ℕ → ℕ
  next s i = free_after F.entry F.align s i

  abbrev pub free : ℕ → Tree → ℕ
  free s x = free_of F.entry F.align s x

  -- a node's item, a tree's items
  abbrev pub item : ℕ → ℕ → Tree → ℕ → Tree → Item
  item e s l i r = item_of F.entry F.align e s l i r

  abbrev pub its : ℕ → ℕ → Tree → List Item
  its e s x = items F.entry F.align e s x

  -- what is read at an offset, and that an item is read back
  abbrev pub reads : ℕ → Told (Option Placed)
  reads o = read_at F.w F.first F.t o

  abbrev pub Back : Item → Type 0
  Back y = ReadBack F.w F.first F.t F.place y
