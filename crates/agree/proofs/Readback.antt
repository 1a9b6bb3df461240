-- An entry's bytes in a window are read back: its header, which is never blank, and its name. Assumes nothing.
use Prim.Native.Nat.{ℕ, ◌+◌, ◌-◌, ◌*◌, ◌≤◌, ◌<◌}
use mathlib.Core.Path.{◌≡◌, refl, sym, ap, ◌∙◌}
use mathlib.Core.Bool.{false}
use mathlib.Core.List.{List, ◌++◌, append_assoc}
use mathlib.Core.Option.{some}
use native.Mathlib.Omega.{arith}
use lib.ListN.{length, get_or, take, drop, length-append, length-drop}
use lib.Seq.{take_at, drop_at, drop-drop}
use borrow.Author.Tests.{le-ltb, lt-leb}
use Rattle.units.specs.Told.{gives}
use Rattle.units.specs.declared.Sector.{Sector}
use Rattle.units.specs.declared.Region.{Region}
use Rattle.layout_bytes.specs.Bytes.{all}
use Rattle.layout_node.specs.Header.{header_of, header_bytes, is_blank}
use Rattle.layout_node.proofs.Blank.{not_all}
use Rattle.layout_node.proofs.RoundTrip as node
use Rattle.dirtab_entry.specs.declared.Kind.{Kind}
use Rattle.dirtab_entry.specs.declared.Kind.TheVariants.{File, Directory}
use Rattle.read_entry.specs.Entry.{read_here, name_of}
use Rattle.read_entry.proofs.Located.{read_by_tests}
use Rattle.table_model.specs.Entry.{Item, attributes, header_for, entry_bytes}
use Rattle.agree.specs.Agreement.{ReadBack}

-- what fits the fields of a header
pub record Fields (y : Item) : Type 0 where
  pub left : y.left ≤ 65535
  pub right : y.right ≤ 65535
  pub sector : y.sector ≤ 4294967295
  pub size : y.entry.size ≤ 4294967295
  pub name : length y.entry.name ≤ 255

attributes_some : (k : Kind) → (attributes k ≡ 255 → ⊥) × (attributes k ≡ 0 → ⊥) × (attributes k < 256)
attributes_some File = (λ e. omega arith, λ e. omega arith, omega arith)
attributes_some Directory = (λ e. omega arith, λ e. omega arith, omega arith)

header_back : (y : Item) → Fields y → header_of (header_bytes (header_for y)) ≡ header_for y
header_back y f = node.header_back (header_for y) (record {
  left = omega (arith, f.left);
  right = omega (arith, f.right);
  sector = omega (arith, f.sector);
  size = omega (arith, f.size);
  attributes = (attributes_some y.entry.kind).2;
  name_len_fits = omega (arith, f.name);
})

attributes_at : (y : Item) → get_or (header_bytes (header_for y)) 12 0 ≡ attributes y.entry.kind
unfolding header_bytes
attributes_at y = refl

-- a written header is never blank: its thirteenth byte, the attributes, is 16 or 32
pub never_blank : (y : Item) → is_blank (header_bytes (header_for y)) ≡ false
unfolding is_blank
never_blank y = rw (other 255 (attributes_some y.entry.kind).0, other 0 (attributes_some y.entry.kind).1)
  where
    other : (b : ℕ) → (attributes y.entry.kind ≡ b → ⊥) → all b (header_bytes (header_for y)) ≡ false
    other b n = not_all b (header_bytes (header_for y)) 12 (rw (node.header_length (header_for y)) (omega arith)) (λ e. n (sym (attributes_at y) ∙ e))

-- AN ENTRY'S BYTES ARE READ BACK, wherever they stand in the window
module _ (w : List ℕ) (p : ℕ) (y : Item) (rest : List ℕ) (here : drop p w ≡ entry_bytes y ++ rest) where
  header_here : take 14 (drop p w) ≡ header_bytes (header_for y)
  unfolding entry_bytes
  header_here = rw (here, append_assoc) (take_at (header_bytes (header_for y)) _ 14 (node.header_length (header_for y)))

  name_here_lem : name_of w p (length y.entry.name) ≡ y.entry.name
  unfolding entry_bytes name_of
  name_here_lem =
      rw (← (drop-drop 14 p w), here, append_assoc, append_assoc, drop_at (header_bytes (header_for y)) _ 14 (node.header_length (header_for y)))
      (take_at y.entry.name _ (length y.entry.name) refl)

  long : p + 14 + length y.entry.name ≤ length w
  unfolding entry_bytes
  long = omega (arith, simp (length-drop, length-append, node.header_length) at (ap length here))

  pub read_back : (o : ℕ) → Fields y → read_here w p o ≡ gives (some (record { header = header_for y; place = p }))
  unfolding read_here
  read_back o f =
      rw (le-ltb (length w) (p + 14) (omega (arith, long)), header_here, never_blank y, header_back y f, le-ltb (length w) (p + 14 + length y.entry.name) long)

-- AT AN OFFSET of a table that stands in the window from byte `place` on
module _ (w : List ℕ) (first : Sector) (t : Region) (place : ℕ) (stands : 2048 * t.sector.0 ≡ 2048 * first.0 + place) where
  pub has_item : (y : Item) (rest : List ℕ) → drop (place + y.offset) w ≡ entry_bytes y ++ rest → y.offset < t.size → Fields y
      → ReadBack w first t place y
  has_item y rest here inside f =
      let b : ℕ = 2048 * t.sector.0 + y.offset in
      let same : b - 2048 * first.0 ≡ place + y.offset = omega arith in
      record {
        reads = rw (read_by_tests w first t y.offset, lt-leb t.size y.offset inside, le-ltb b (2048 * first.0) (omega arith), same) (read_back w (place + y.offset) y rest here y.offset f);
        named = name_here_lem w (place + y.offset) y rest here;
      }
