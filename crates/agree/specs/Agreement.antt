-- DEMAND 3: what is written is what is listed is what is found. Assumes nothing. Said of a window w whose byte
-- `place` is the first of a table's, of the table's items xs in preorder, and of what walk, lookup and reading an
-- entry are defined to answer. The links that a lookup takes for absent are a set: what is said of lookups is said
-- of every set.
use Rattle.std.specs.Prelude.{ℕ, ◌+◌, ◌≤◌, ◌<◌, ◌≡◌, true, false, ◌⊎◌, length, get_or}
use mathlib.Core.List.{List, [], ◌∷◌, map, Memᴰ}
use Rattle.std.proofs.Math.Option.{some}
use Rattle.units.specs.Told.{Told, gives, refuses}
use Rattle.units.specs.declared.Sector.{Sector}
use Rattle.units.specs.declared.Region.{Region}
use Rattle.name_role.specs.Roles.{sought_keys, stored_keys, bad_sought}
use Rattle.read_entry.specs.Entry.{Placed, read_at, name_of}
use Rattle.read_entry.specs.Links.{is_in}
use Rattle.read_lookup.specs.Lookup.{Finding, lookup_by}
use Rattle.lookup_way.specs.Along.{Along, Real, answer_along}
use Rattle.read_walk.specs.Walk.{walk_of}
use Rattle.table_model.specs.Entry.{Item, header_for}
use Rattle.table_model.specs.Said.{AllIn, Stands, Apart, SectorsApart}

-- the items' offsets
abbrev pub offsets : List Item → List ℕ
offsets = map (λ (y : Item). y.offset)

-- an item as it is to be read: its header, and where it stands in the window
abbrev pub placed_at : ℕ → Item → Placed
placed_at place y = record { header = header_for y; place = place + y.offset }

-- a name that is sought is a stored one, raised
abbrev pub Same : List ℕ → List ℕ → Type 0
Same name b = sought_keys name ≡ stored_keys b

-- as many headers as a lookup in a written table reads at most
abbrev pub most_headers : ℕ
most_headers = 19

module _ (w : List ℕ) (first : Sector) (t : Region) (place : ℕ) where
  -- an item is read back at its offset: its links, sector, size and kind, and its name
  pub record ReadBack (y : Item) : Type 0 where
    pub reads : read_at w first t y.offset ≡ gives (some (placed_at place y))
    pub named : name_of w (place + y.offset) (length y.entry.name) ≡ y.entry.name

  -- an item of a table is reached: there is a way to it from the first entry along links that are read, and a
  -- lookup of its name, raised, answers along that way; that is, it finds the item at its offset, unless a link on
  -- the way is taken for absent, and then answers 22
  pub record Reached (xs : List Item) (y : Item) : Type 0 where
    pub links : List ℕ
    pub way : Along (read_at w first t) 0 y.offset links
    -- none of these links is 0 or 65,535, so that of them rule one takes exactly 255 for absent, and rule two none
    pub real : Real links
    -- each is a link that an item has
    pub written : (k : ℕ) → Memᴰ k links → (z : Item) × Memᴰ z xs × ((k ≡ z.left) ⊎ (k ≡ z.right))
    pub answers : (absent name : List ℕ) → bad_sought name ≡ false → Same name y.entry.name
        → lookup_by absent w first t name ≡ answer_along absent (placed_at place y) y.offset 1 links

-- an answer to a name: one of the items, whose name is the name sought, raised; or 22; after at most m headers
pub data Sound (place : ℕ) (xs : List Item) (m : ℕ) (name : List ℕ) : Told Finding → Type 0 where
  found : (y : Item) (c : ℕ) → Memᴰ y xs → Same name y.entry.name → c ≤ m
      → Sound place xs m name (gives (record { entry = placed_at place y; offset = y.offset; headers = c }))
  missing : (c : ℕ) → c ≤ m → Sound place xs m name (refuses 22 (c ∷ []))

module _ (w : List ℕ) (first : Sector) (t : Region) (place : ℕ) where
  pub record Agreement (xs : List Item) : Type 0 where
    -- the items are inside the table, cross no sector line and do not overlap, nor do their sectors
    pub inside : AllIn (Stands 0 t.size) xs
    pub apart : Apart xs
    pub sectors : SectorsApart xs
    -- the walk lists the items' offsets, in preorder, where its list has room
    pub listed : (room : ℕ) → length xs ≤ room → walk_of w first t room ≡ gives (offsets xs)
    -- none of them twice
    pub once : (i j : ℕ) → i < length (offsets xs) → j < length (offsets xs)
        → get_or (offsets xs) i 0 ≡ get_or (offsets xs) j 0 → i ≡ j
    -- at each the item is read back
    pub read : AllIn (ReadBack w first t place) xs
    -- each is found under its name unless a link on the way is taken for absent
    pub reached : AllIn (Reached w first t place xs) xs
    -- that way is the only one: two ways to one offset along links of which none is 0 or 65,535 have the same links
    pub one_way : (o : ℕ) (ks ls : List ℕ) → Along (read_at w first t) 0 o ks → Real ks
        → Along (read_at w first t) 0 o ls → Real ls → ks ≡ ls
    -- nothing else is found, and no lookup reads more than so many headers, where 0 is taken for absent
    pub sound : (absent : List ℕ) → is_in 0 absent ≡ true → (name : List ℕ) → bad_sought name ≡ false
        → Sound place xs most_headers name (lookup_by absent w first t name)
