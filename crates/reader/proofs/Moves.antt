-- What holds of a reader that is moved: placed where a lookup under either rule found an entry, it reads that entry, and going in there is what a path does with the part. Assumes nothing.
use Prim.Native.Nat.{ℕ}
use mathlib.Core.Path.{◌≡◌, refl}
use mathlib.Core.Bool.{Bool, true, false}
use mathlib.Core.List.{List, []}
use mathlib.Core.Option.{Option, some, none}
use native.Mathlib.Omega.{arith}
use Rattle.units.specs.Told.{Told, gives, refuses, pick}
use Rattle.units.specs.declared.Sector.{Sector}
use Rattle.units.specs.declared.Region.{Region}
use Rattle.layout_node.specs.Header.{is_directory}
use Rattle.read_entry.specs.Entry.{Placed, read_at}
use Rattle.read_entry.specs.Links.{absent_under, under_rule}
use Rattle.read_lookup.specs.Lookup.{Finding, lookup_by, lookup_of}
use Rattle.read_lookup.proofs.Laws.{Named, found_stands}
use Rattle.read_path.specs.Path.{Turns, into, stops, turn_of}
use Rattle.read_place.specs.Place.{header_entered, table_at}
use Rattle.reader.specs.declared.Reader.{Reader}
use Rattle.reader.specs.Reader.{placed_at}

-- what a reader's lookup of a name under the rule of a number, its entry and its going in answer
abbrev pub looks : Reader → List ℕ → ℕ → Told Finding
looks r name rule = lookup_of rule r.table.window.now r.table.first r.table.region name

abbrev pub reads : Reader → Told (Option Placed)
reads r = read_at r.table.window.now r.table.first r.table.region r.at.0

abbrev pub enters : Reader → Told Region
enters r = table_at r.table.window.now r.table.first r.table.region r.at.0

-- the reader at the entry that a lookup found
abbrev pub at_found : Reader → Finding → Reader
at_found r x = placed_at r (record { 0 = x.offset })

-- a lookup that gives an entry gives it by a rule's links: of a number that is no rule's the answer is 29
by_links_lem : (absent : Option (List ℕ)) (next : List ℕ → Told Finding) (x : Finding) → under_rule absent next ≡ gives x → (links : List ℕ) × (next links ≡ gives x)
by_links_lem (some links) next x e = (links, e)
by_links_lem none next x e = let z : ◌≡◌ {A = ℕ} 0 1 = cc in absurd (omega arith)

found_by_links : (rule : ℕ) (w : List ℕ) (first : Sector) (t : Region) (name : List ℕ) (x : Finding) → lookup_of rule w first t name ≡ gives x → (links : List ℕ) × (lookup_by links w first t name ≡ gives x)
unfolding lookup_of
found_by_links rule w first t name x e = by_links_lem (absent_under rule) (λ links. lookup_by links w first t name) x e

-- so it stands at its offset, and its name is the one sought
stands : (r : Reader) (name : List ℕ) (rule : ℕ) (x : Finding) → looks r name rule ≡ gives x → (reads (at_found r x) ≡ gives (some x.entry)) × Named r.table.window.now name x.entry
stands r name rule x e =
    let f = found_by_links rule r.table.window.now r.table.first r.table.region name x e in
    found_stands f.0 r.table.window.now r.table.first r.table.region name x f.1

-- the reader there reads the entry that was found
pub found_is_read : (r : Reader) (name : List ℕ) (rule : ℕ) (x : Finding) → looks r name rule ≡ gives x → reads (at_found r x) ≡ gives (some x.entry)
found_is_read r name rule x e = (stands r name rule x e).0

-- and its name is the one sought
pub found_is_named : (r : Reader) (name : List ℕ) (rule : ℕ) (x : Finding) → looks r name rule ≡ gives x → Named r.table.window.now name x.entry
found_is_named r name rule x e = (stands r name rule x e).1

-- going in, as a path has it: into the table, or the refusal
abbrev pub turned : Told Region → Turns
turned (gives t) = into t
turned (refuses k vs) = stops (refuses k vs)

turned_by : (b : Bool) (t : Region) (k : ℕ) (vs : List ℕ) → pick b (into t) (stops (refuses k vs)) ≡ turned (pick b (gives t) (refuses k vs))
turned_by true t k vs = refl
turned_by false t k vs = refl

-- a reader that goes in at the entry that its lookup found does what a path does with a part before the last
pub enters_as_a_path : (r : Reader) (name : List ℕ) (rule : ℕ) (x : Finding) → looks r name rule ≡ gives x → turn_of (looks r name rule) ≡ turned (enters (at_found r x))
unfolding table_at header_entered
enters_as_a_path r name rule x e =
    rw (e, found_is_read r name rule x e)
    (turned_by (is_directory x.entry.header) (record { sector = x.entry.header.sector; size = x.entry.header.size }) 27 [])
