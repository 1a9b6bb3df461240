-- What is said of going through a table with a reader: by its links and a stack of offsets to come, and by a next
-- place. Assumes nothing.
use Rattle.std.specs.Prelude.{ℕ, zero, suc, ◌≡◌, List, [], ◌∷◌}
use Rattle.std.proofs.Math.Option.{Option, some, none}
use Rattle.units.specs.Told.{Told, gives, refuses}
use Rattle.units.specs.declared.Sector.{Sector}
use Rattle.units.specs.declared.Region.{Region}
use Rattle.read_entry.specs.Entry.{read_at}
use Rattle.read_walk.specs.Walk.{before, to_entry}
use Rattle.read_place.specs.Place.{left_at, right_at}

-- where a link leads, put on a stack
abbrev pub onto : Told (Option ℕ) → List ℕ → List ℕ
onto (gives (some o)) stack = o ∷ stack
onto (gives none) stack = stack
onto (refuses k vs) stack = stack

-- the offsets that a loader lists with a stack of its own: it takes one off; no entry there is passed over, a
-- refusal ends it, and an entry is listed, and what `right` and then `left` of a reader placed there lead to is put
-- on. `room` is how many it may list; one more is 26
unfoldable pub by_links : List ℕ → Sector → Region → ℕ → List ℕ → Told (List ℕ)
by_links w first t zero stack = to_entry (read_at w first t) (λ o h rest. refuses 26 []) stack
by_links w first t (suc room) stack =
    to_entry (read_at w first t)
    (λ o h rest.
    before (o ∷ []) (by_links w first t room (onto (left_at w first t o) (onto (right_at w first t o) rest))))
    stack

-- a function says of each offset of a list which is next, and of the last that none is
abbrev pub Follows : (ℕ → Option ℕ) → List ℕ → Type 0
Follows next [] = Unit {0}
Follows next (o ∷ []) = next o ≡ none
Follows next (o ∷ p ∷ ps) = (next o ≡ some p) × Follows next (p ∷ ps)
