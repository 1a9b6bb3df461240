-- `read_lookup::look_in` meets its contract. The loop's invariant: what is to be answered is the answer of the chain from where the loop stands,
-- with as many headers left as the counter leaves of 65,536. Assumes nothing.
use Rattle.std.proofs.Common.{◌≡◌, ◌≤◌, ◌-◌, [], ◌∷◌}
use Rattle.read_lookup.specs.Lookup.{step_at, chain_from, lookup_by}
use Rattle.read_lookup.proofs.look_in.Given as goal

abbrev pub invariant-loop-read : goal.invariant-loop-read
invariant-loop-read l =
    let t = l.table in
    lookup_by (0 ∷ l.absent ∷ []) t.window.now t.first t.region l.name
    ≡ chain_from (step_at (0 ∷ l.absent ∷ []) t.window.now t.first t.region l.name) (65536 - l.read) l.read l.offset.0
