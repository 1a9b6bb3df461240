-- `add` meets its contract: what `judge` found is a refusal (`refused`), or what storing the entry and growing the tree take and leave (`added_is`).
use Rattle.std.proofs.Common.{arith}
use Rattle.dirtab_arena.specs.Lent.{arena_with}
use Rattle.dirtab_add.proofs.Ways.{refused, roomy, fine, has_place, goes_in, places_in, added_is, taking, refusing}
use Rattle.dirtab_add.proofs.add.Goals as goal

pub returns-in_err-place-clause-memory : goal.returns-in_err-place-clause-memory
returns-in_err-place-clause-memory c = let a = c.args in
    let A = arena_with a.tree a.columns.now a.names.now in
    (refused A a.entry _ (refusing a.tree.root a.tree.count a.names.now a.entry c.shared.ensures c.in_err-place.ensures)).1

pub store_entry-requires-clause-in_bounds : goal.store_entry-requires-clause-in_bounds
store_entry-requires-clause-in_bounds c = let a = c.args in
    let w = taking a.tree.root a.tree.count a.names.now a.entry c.shared.ensures c.in_ok-place.ensures in
    has_place (arena_with a.tree a.columns.now a.names.now) a.entry _ w

pub store_entry-requires-clause-size_bound : goal.store_entry-requires-clause-size_bound
store_entry-requires-clause-size_bound c = let a = c.args in
    let w = taking a.tree.root a.tree.count a.names.now a.entry c.shared.ensures c.in_ok-place.ensures in
    (fine (arena_with a.tree a.columns.now a.names.now) a.entry _ w).small

pub grow-root-requires-clause-count_in_bounds : goal.grow-root-requires-clause-count_in_bounds
grow-root-requires-clause-count_in_bounds c = let a = c.args in
    let w = taking a.tree.root a.tree.count a.names.now a.entry c.shared.ensures c.in_ok-place.ensures in
    places_in (arena_with a.tree a.columns.now a.names.now) a.entry _ w c.store_entry.ensures.stored

pub grow-root-requires-clause-placed : goal.grow-root-requires-clause-placed
grow-root-requires-clause-placed c = let a = c.args in
    let w = taking a.tree.root a.tree.count a.names.now a.entry c.shared.ensures c.in_ok-place.ensures in
    goes_in (arena_with a.tree a.columns.now a.names.now) a.entry _ w c.store_entry.ensures.stored

pub overflow_add-result : goal.overflow_add-result
overflow_add-result c = let a = c.args in
    let w = taking a.tree.root a.tree.count a.names.now a.entry c.shared.ensures c.in_ok-place.ensures in
    omega (arith, (roomy (arena_with a.tree a.columns.now a.names.now) a.entry _ w).small)

pub returns-clause-answer : goal.returns-clause-answer
returns-clause-answer c = let a = c.args in
    let w = taking a.tree.root a.tree.count a.names.now a.entry c.shared.ensures c.in_ok-place.ensures in
    (added_is (arena_with a.tree a.columns.now a.names.now) a.entry _ w c.store_entry.ensures.stored c.grow-root.ensures).0

pub returns-clause-memory : goal.returns-clause-memory
returns-clause-memory c = let a = c.args in
    let w = taking a.tree.root a.tree.count a.names.now a.entry c.shared.ensures c.in_ok-place.ensures in
    (added_is (arena_with a.tree a.columns.now a.names.now) a.entry _ w c.store_entry.ensures.stored c.grow-root.ensures).1
