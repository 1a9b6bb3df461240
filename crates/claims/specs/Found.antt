-- DEMAND 3: WHAT IS WRITTEN IS WHAT IS LISTED IS WHAT IS FOUND, of what `write_list`, adding in turn and
-- `serialise`, and `serialise` of any arena leave. Assumes nothing.
use Rattle.std.specs.Prelude.{ℕ, ◌+◌, ◌-◌, ◌≤◌, ◌<◌, ◌≡◌, true, false, length, get_or, take, replicate}
use mathlib.Core.List.{List, [], ◌∷◌, ◌++◌, Memᴰ}
use Rattle.std.proofs.Math.Option.{some}
use Rattle.units.specs.Told.{gives, refuses}
use Rattle.units.specs.declared.Sector.{Sector}
use Rattle.units.specs.declared.Region.{Region}
use Rattle.name_role.specs.Roles.{bad_sought}
use Rattle.read_entry.specs.Entry.{Placed, read_at}
use Rattle.read_entry.specs.Links.{absent_under}
use Rattle.read_lookup.specs.Lookup.{Finding, lookup_of}
use Rattle.read_walk.specs.Walk as walking
use Rattle.strict_rule.specs.Strict as checking
use Rattle.table_model.specs.Entry.{Entry, Item}
use Rattle.table_model.specs.Place.{items}
use Rattle.table_model.specs.Table.{Placing}
use Rattle.table_model.specs.Said.{AllIn, Stands, Apart, SectorsApart}
use Rattle.dirtab_entry.specs.Entry.{rounded}
use Rattle.dirtab_arena.specs.Arena.{Columns, Arena, entry_at, tree_of}
use Rattle.dirtab.specs.Serialise as serialise
use Rattle.dirtab_list.specs.Whole as whole
use Rattle.dirtab_list.specs.Whole.{Listing, given_in, entry_in, has_places}
use Rattle.agree.specs.Written.{Stand}
use Rattle.lookup_way.specs.Along.{Along, Real}
use Rattle.agree.specs.Agreement.{Same, offsets, placed_at, ReadBack, Sound}
use Rattle.agree.specs.Given.{EachOnce}
use Rattle.agree_list.specs.InTurn.{add_all, empty_in, then_answer, then_output, Wide}
use Rattle.agree_causes.specs.Lists.{items_for}

-- a window, the number of its first sector, and a table's region
module _ (w : List ℕ) (first : Sector) (t : Region) where
  -- what a lookup of the name of the entry x at offset o, which is stored as these bytes, answers, by the links on the
  -- way to it from the first entry, along links that are read
  pub record FoundByName (x : Placed) (o : ℕ) (stored : List ℕ) (most : ℕ) : Type 0 where
    pub links : List ℕ
    pub way : Along (read_at w first t) 0 o links
    -- the way is the only one along links of which none is 0 or 65,535
    pub real : Real links
    pub one_way : (ks : List ℕ) → Along (read_at w first t) 0 o ks → Real ks → ks ≡ links
    -- under rule one the entry is found, unless a link of 255 stands on the way; then the answer is 22
    pub found_one : (Memᴰ 255 links → ⊥) → (name : List ℕ) → bad_sought name ≡ false → Same name stored
        → lookup_of 1 w first t name ≡ gives (record { entry = x; offset = o; headers = 1 + length links })
    pub lost_one : Memᴰ 255 links → (name : List ℕ) → bad_sought name ≡ false → Same name stored
        → (c : ℕ) × (lookup_of 1 w first t name ≡ refuses 22 (c ∷ []))
    -- under rule two it is found, whatever links stand on the way, and after at most so many headers
    pub found_two : (name : List ℕ) → bad_sought name ≡ false → Same name stored
        → (lookup_of 2 w first t name ≡ gives (record { entry = x; offset = o; headers = 1 + length links }))
        × (1 + length links ≤ most)

-- and the place of the table's first byte in the window
module _ (w : List ℕ) (first : Sector) (t : Region) (place : ℕ) where
  -- DEMAND 3, of n entries and the items xs of their table
  pub record Kept (n : ℕ) (entry : ℕ → Entry) (xs : List Item) : Type 0 where
    -- the items are the entries, each once
    pub each : EachOnce entry n xs
    -- they are inside the table, whole in a sector, and no two overlap, nor do their sectors
    pub inside : AllIn (Stands 0 t.size) xs
    pub apart : Apart xs
    pub sectors : SectorsApart xs
    -- the walk lists them: with n places in its list or more, and scratch that is longer than the list, it answers
    -- n, and the list has the items' offsets in preorder, and then zeros
    pub listed : (list scratch : List ℕ) → n ≤ length list → length list < length scratch
        → (walking.walk_answer w first t (length list) (length scratch) ≡ gives n)
        × (walking.list_after w first t list (length scratch) ≡ offsets xs ++ replicate (length list - n) 0)
    -- reading gives each back: name, size, kind, sector and links
    pub read : (y : Item) → Memᴰ y xs → ReadBack w first t place y
    -- a lookup of its name finds each: under rule one unless a link of 255 stands on the way, under rule two always
    pub found : (y : Item) → Memᴰ y xs → FoundByName w first t (placed_at place y) y.offset y.entry.name 19
    -- nothing else is found under either rule: any other name is 22; and at most 19 headers are read
    pub only : (rule : ℕ) (absent : List ℕ) → absent_under rule ≡ some absent → (name : List ℕ)
        → bad_sought name ≡ false → Sound place xs 19 name (lookup_of rule w first t name)
    -- what is found under rule one is found the same under rule two: entry, offset and number of headers
    pub same : (name : List ℕ) (a : Finding) → lookup_of 1 w first t name ≡ gives a
        → lookup_of 2 w first t name ≡ gives a
    -- the strict check accepts the table, and lists the same
    pub accepted : (list scratch : List ℕ) → n ≤ length list → length list < length scratch
        → (checking.strict_answer w first t (length list) (length scratch) ≡ gives n)
        × (checking.list_after w first t list (length scratch) ≡ offsets xs ++ replicate (length list - n) 0)

-- A LIST WAS WRITTEN: sizes are numbers of four bytes, as the column's type says; the answer is p, the output's bytes
-- up to that size, rounded, stand in a window at the region's sector, and the region has the size answered
pub record ListRead (L : Listing) (s : ℕ) (m : whole.Lent) (p : Placing) (w : List ℕ) (first : Sector) (t : Region) :
    Type 0 where
  pub sizes : (i : ℕ) → get_or L.size i 0 ≤ 4294967295
  pub answer : whole.answer_in L s m ≡ gives p
  pub stand : Stand w first t.sector (take (rounded p.size) (whole.lent_after L s m).out)
  pub sized : t.size ≡ p.size

abbrev pub ListKept : Type 0
ListKept = (L : Listing) (s : ℕ) (m : whole.Lent) (p : Placing) (w : List ℕ) (first : Sector) (t : Region)
    (g : ListRead L s m p w first t) → Kept w first t g.stand.place L.count (entry_in L) (items_for L s)

-- ITS ENTRIES WERE ADDED IN TURN to an arena that held nothing, in columns c that have a place for each, and the
-- arena was serialised
pub record TurnRead (L : Listing) (s : ℕ) (c : Columns) (m : serialise.Lent) (p : Placing) (w : List ℕ)
    (first : Sector) (t : Region) : Type 0 where
  pub sizes : (i : ℕ) → get_or L.size i 0 ≤ 4294967295
  pub places : has_places L L.count ≡ true
  pub wide : Wide L.count c
  pub scratch : L.count ≤ serialise.places_in m
  pub answer : then_answer (add_all (given_in L) L.count 0 (empty_in c L.bytes)) (λ A. serialise.answer_in A s m)
      ≡ gives p
  pub stand : Stand w first t.sector (take (rounded p.size)
      (then_output (add_all (given_in L) L.count 0 (empty_in c L.bytes)) (λ A. (serialise.lent_after A s m).out)
      m.out))
  pub sized : t.size ≡ p.size

abbrev pub TurnKept : Type 0
TurnKept = (L : Listing) (s : ℕ) (c : Columns) (m : serialise.Lent) (p : Placing) (w : List ℕ) (first : Sector)
    (t : Region) (g : TurnRead L s c m p w first t)
    → Kept w first t g.stand.place L.count (entry_in L) (items_for L s)

-- ANY ARENA WAS SERIALISED
pub record ArenaRead (A : Arena) (s : ℕ) (m : serialise.Lent) (p : Placing) (w : List ℕ) (first : Sector)
    (t : Region) : Type 0 where
  pub sizes : (i : ℕ) → get_or A.columns.size i 0 ≤ 4294967295
  pub answer : serialise.answer_in A s m ≡ gives p
  pub stand : Stand w first t.sector (take (rounded p.size) (serialise.lent_after A s m).out)
  pub sized : t.size ≡ p.size

abbrev pub ArenaKept : Type 0
ArenaKept = (A : Arena) (s : ℕ) (m : serialise.Lent) (p : Placing) (w : List ℕ) (first : Sector) (t : Region)
    (g : ArenaRead A s m p w first t)
    → Kept w first t g.stand.place A.count (entry_at A) (items (entry_at A) 1 0 s (tree_of A))
