-- What a path leads to under a rule: by the links that are absent under it, in every part, or 29, before 2 and 28, whatever the path is. Assumes nothing.
use Prim.Native.Nat.{ℕ}
use mathlib.Core.List.{List}
use Rattle.units.specs.declared.Sector.{Sector}
use Rattle.units.specs.declared.Region.{Region}
use Rattle.read_entry.proofs.Rules.{ByRule, by-rule}
use Rattle.read_path.specs.Path.{path_by, path_of}

pub path_by_rule : (w : List ℕ) (first : Sector) (t : Region) (path : List ℕ) → ByRule (λ rule. path_of rule w first t path) (λ absent. path_by absent w first t path)
unfolding path_of
path_by_rule w first t path = by-rule (λ absent. path_by absent w first t path)
