-- WHAT THE TWO RULES ANSWER to a name to whose entry x, at offset o, links lead of which none is 0 or 65,535, where a lookup by every set of absent links
-- answers along them. Assumes nothing.
use Prim.Native.Nat.{ℕ, ◌+◌}
use mathlib.Core.Path.{◌≡◌, ◌∙◌}
use mathlib.Core.List.{List, [], ◌∷◌, Memᴰ}
use lib.ListN.{length}
use Rattle.units.specs.Told.{gives, refuses}
use Rattle.units.specs.declared.Sector.{Sector}
use Rattle.units.specs.declared.Region.{Region}
use Rattle.read_entry.specs.Entry.{Placed}
use Rattle.read_entry.specs.Links.{one_absent, walk_absent}
use Rattle.read_lookup.specs.Lookup.{lookup_by, lookup_of}
use Rattle.read_lookup.proofs.Rules.{lookup_by_rule}
use Rattle.lookup_way.specs.Along.{Real, answer_along}
use Rattle.lookup_way.proofs.Along.{along_clear, along_absent}
use Rattle.lookup_way.proofs.Sets.{without_255, with_255, walk_clear}

module _ (w : List ℕ) (first : Sector) (t : Region) (name : List ℕ) (x : Placed) (o : ℕ) (links : List ℕ) (real : Real links)
    (answers : (absent : List ℕ) → lookup_by absent w first t name ≡ answer_along absent x o 1 links) where
  -- rule one: found, unless a link of 255 stands on the way; then 22
  pub found_one : (Memᴰ 255 links → ⊥) → lookup_of 1 w first t name ≡ gives (record { entry = x; offset = o; headers = 1 + length links })
  found_one none = (lookup_by_rule w first t name).rule_one ∙ answers one_absent ∙ along_clear one_absent x o 1 links (without_255 links real none)

  pub lost_one : Memᴰ 255 links → (c : ℕ) × (lookup_of 1 w first t name ≡ refuses 22 (c ∷ []))
  lost_one some = let a = along_absent one_absent x o 1 links (with_255 links some) in (a.0, (lookup_by_rule w first t name).rule_one ∙ answers one_absent ∙ a.1)

  -- rule two: found
  pub found_two : lookup_of 2 w first t name ≡ gives (record { entry = x; offset = o; headers = 1 + length links })
  found_two = (lookup_by_rule w first t name).rule_two ∙ answers walk_absent ∙ along_clear walk_absent x o 1 links (walk_clear links real)
