-- The table of every list that is admitted passes the strict check. Assumes nothing.
use Prim.Native.Nat.{ℕ, ◌≤◌}
use mathlib.Core.Path.{◌≡◌}
use mathlib.Core.List.Memᴰ
use mathlib.Core.List.{List}
use native.Mathlib.Omega.{arith}
use lib.ListN.{length}
use Rattle.units.specs.Told.{gives}
use Rattle.units.specs.declared.Sector.{Sector}
use Rattle.units.specs.declared.Region.{Region}
use Rattle.strict_rule.specs.Strict.{strict_of}
use Rattle.table_model.specs.Place.{items}
use Rattle.agree.specs.Agreement.{offsets}
use Rattle.agree.specs.Given.{Given, entry_of, tree_of, WrittenList}
use Rattle.agree.proofs.FromList.{list_written, list_size}
use Rattle.agree_strict.proofs.Passes.{written_passes}

-- and so the table of every list that is admitted
pub list_passes : (align s : ℕ) (gs : List Given) (w : List ℕ) (first : Sector) (t : Region) → WrittenList align s gs w first t
    → (room : ℕ) → length gs ≤ room → strict_of w first t room ≡ gives (offsets (items (entry_of gs) align 0 s (tree_of gs)))
list_passes align s gs w first t g room h =
    written_passes (entry_of gs) align s (tree_of gs) w first t (list_written align s gs w first t g) room (omega (arith, list_size align s gs w first t g))
