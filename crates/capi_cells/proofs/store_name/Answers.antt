-- `store_name` meets its contract: what starts there and is so long is the name (`name_is`).
use mathlib.Core.Path.{ap}
use Prim.Native.Nat.{ℕ}
use mathlib.Core.List.{List}
use lib.ListN.{length}
use Rattle.capi_cells.proofs.Name.{name_is}
use Rattle.capi_cells.proofs.store_name.Goals as goal

pub returns : goal.returns
returns c =
    let a = c.args in record { start = c.name_start.ensures; len = ap (λ (r : List ℕ). length r) c.name_part-name.ensures.1; part = name_is a.w.now a.place a.n _ _ c.name_part-name.ensures.1 c.name_start.ensures }
