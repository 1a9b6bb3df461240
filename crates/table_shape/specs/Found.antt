-- What a lookup answers in a table whose walk lists xs and that the strict check accepts. Assumes nothing.
use Rattle.std.specs.Prelude.{ℕ, ◌≤◌, ◌≡◌}
use mathlib.Core.List.{List, [], ◌∷◌, Memᴰ}
use Rattle.units.specs.Told.{Told, gives, refuses}
use Rattle.units.specs.declared.Sector.{Sector}
use Rattle.units.specs.declared.Region.{Region}
use Rattle.name_role.specs.Roles.{sought_keys, stored_keys}
use Rattle.read_entry.specs.declared.Placed.{Placed}
use Rattle.read_lookup.specs.Lookup.{Finding}
use Rattle.strict_rule.specs.Strict.{name_in}
use Rattle.strict_rule.specs.Accepts.{EntryAt}

-- a name that is sought is that of an entry
abbrev pub Named : List ℕ → List ℕ → Placed → Type 0
Named w name x = sought_keys name ≡ stored_keys (name_in w x)

module _ (w : List ℕ) (first : Sector) (t : Region) where
  -- an answer to a name: an entry that is listed and has this name; or 22, and then none that is listed has it; after
  -- at most m headers
  pub data Answered (xs : List ℕ) (m : ℕ) (name : List ℕ) : Told Finding → Type 0 where
    found : (o c : ℕ) (x : Placed) → Memᴰ o xs → EntryAt w first t o x → Named w name x → c ≤ m
        → Answered xs m name (gives (record { entry = x; offset = o; headers = c }))
    missing : (c : ℕ) → c ≤ m
        → ((o : ℕ) (x : Placed) → Memᴰ o xs → EntryAt w first t o x → Named w name x → ⊥)
        → Answered xs m name (refuses 22 (c ∷ []))
