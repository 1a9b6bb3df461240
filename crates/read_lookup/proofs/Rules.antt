-- What a lookup answers under a rule: by the links that are absent under it, or 29, before 2, whatever the name is. Assumes nothing.
use Prim.Native.Nat.{ℕ}
use mathlib.Core.List.{List}
use Rattle.units.specs.declared.Sector.{Sector}
use Rattle.units.specs.declared.Region.{Region}
use Rattle.read_entry.proofs.Rules.{ByRule, by-rule}
use Rattle.read_lookup.specs.Lookup.{lookup_by, lookup_of}

pub lookup_by_rule : (w : List ℕ) (first : Sector) (t : Region) (name : List ℕ) → ByRule (λ rule. lookup_of rule w first t name) (λ absent. lookup_by absent w first t name)
unfolding lookup_of
lookup_by_rule w first t name = by-rule (λ absent. lookup_by absent w first t name)
