-- An arena that was serialised passed its test. Assumes nothing.
use Prim.Native.Nat.{ℕ}
use native.Mathlib.Omega.{arith}
use mathlib.Core.Path.{◌≡◌, refl}
use mathlib.Core.Bool.{Bool, true, false}
use mathlib.Core.List.{[]}
use Rattle.units.specs.Told.{Told, gives, refuses, pick}
use Rattle.table_model.specs.Table.{Placing}
use Rattle.dirtab_arena.specs.Arena.{Arena, is_arena}
use Rattle.dirtab.specs.Serialise.{serialise_of}

passed : (b : Bool) (x : Told Placing) (p : Placing) → pick b x (refuses 12 []) ≡ gives p → b ≡ true
passed true x p e = refl
passed false x p e = let z : ◌≡◌ {A = ℕ} 0 1 = cc in absurd (omega arith)

pub serialised_arena : (A : Arena) (s n bytes : ℕ) (p : Placing) → serialise_of A s n bytes ≡ gives p → is_arena A ≡ true
unfolding serialise_of
serialised_arena A s n bytes p e = passed (is_arena A) _ p e
