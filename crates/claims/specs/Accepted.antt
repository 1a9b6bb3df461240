-- WHAT A TABLE GIVES THAT THE STRICT CHECK ACCEPTS, of what `check_table` and `look_up` are proved to answer. Assumes
-- nothing.
use Rattle.std.specs.Prelude.{ℕ, ◌+◌, ◌<◌, ◌≡◌, false, length, get_or, take}
use mathlib.Core.List.{List, Memᴰ}
use Rattle.units.specs.Told.{gives}
use Rattle.units.specs.declared.Sector.{Sector}
use Rattle.units.specs.declared.Region.{Region}
use Rattle.name_role.specs.Roles.{bad_sought}
use Rattle.read_entry.specs.Entry.{Placed}
use Rattle.read_lookup.specs.Lookup.{lookup_of}
use Rattle.strict_rule.specs.Strict as checking
use Rattle.strict_rule.specs.Strict.{name_in}
use Rattle.strict_rule.specs.Accepts.{EntryAt}
use Rattle.table_shape.specs.Shape.{Shaped}
use Rattle.table_shape.specs.Found.{Answered}
use Rattle.claims.specs.Found.{FoundByName}

-- of a table that lists xs
pub record Readable (w : List ℕ) (first : Sector) (t : Region) (xs : List ℕ) : Type 0 where
  -- unless its size is 0 it is a tree, from offset 0 on: the walk lists its entries, every name to the left of an
  -- entry is less than the entry's, and every name to the right of it greater
  pub tree : (t.size ≡ 0 → ⊥) → Shaped w first t xs
  -- at each offset of the list stands an entry ..
  pub entry : (o : ℕ) → Memᴰ o xs → (x : Placed) × EntryAt w first t o x
  -- .. which a lookup of its name finds: under rule one unless a link of 255 stands on the way, under rule two always
  pub found : (o : ℕ) (x : Placed) → Memᴰ o xs → EntryAt w first t o x
      → FoundByName w first t x o (name_in w x) (length xs + 1)
  -- nothing else is found under rule two: the answer to a name is an entry of the list that has it, or 22, and then
  -- none of the list has it; never 23, 24 or 25
  pub only : (t.size ≡ 0 → ⊥) → (name : List ℕ) → bad_sought name ≡ false
      → Answered w first t xs (length xs + 1) name (lookup_of 2 w first t name)

-- where `check_table` answers k: the table, and the first k offsets of the list that it leaves. w is a list of bytes:
-- each element is below 256, as those of a `&[u8]` are (claims_bytes)
abbrev pub AcceptedReadable : Type 0
AcceptedReadable = (w : List ℕ) → ((i : ℕ) → get_or w i 0 < 256) → (first : Sector) (t : Region) (list scratch : List ℕ)
    (k : ℕ) → checking.strict_answer w first t (length list) (length scratch) ≡ gives k
    → Readable w first t (take k (checking.list_after w first t list (length scratch)))
