-- `plan_tree` meets its contract: 6, an entry that is refused, or what handing out leaves.
use Rattle.std.proofs.Common.{refl, ap}
use Rattle.img_table.specs.inner.Scratch.{Places}
use Rattle.img.proofs.Planning.{sizeable_tree, roomy_tree, sized_tree, short_order, entry_refused, all_sized}
use Rattle.img.proofs.plan_tree.Goals as goal

pub returns-then-order-end-clause-planned : goal.returns-then-order-end-clause-planned
returns-then-order-end-clause-planned c = short_order _ _ _ _ c.requires.tree _ c.add_shares-end.ensures _ c.if-order-end.true

pub size_tables-requires-clause-sizeable : goal.size_tables-requires-clause-sizeable
size_tables-requires-clause-sizeable c = sizeable_tree _ c.requires.tree c.requires.exact

pub size_tables-requires-clause-roomy : goal.size_tables-requires-clause-roomy
size_tables-requires-clause-roomy c =
    roomy_tree _ c.requires.tree c.requires.exact c.requires.wide _ c.add_shares-end.ensures c.if-order-end.false

pub returns-in_err-size_tables-clause-planned : goal.returns-in_err-size_tables-clause-planned
returns-in_err-size_tables-clause-planned c =
    entry_refused _ _ _ _ c.requires.tree _ c.add_shares-end.ensures c.requires.exact c.args.sized.now refl
    c.if-order-end.false c.in_err-size_tables.field-0.0 c.from_residual.result _ c.from_residual.ensures.1
    c.in_err-size_tables.ensures.sizes

pub hand_out-requires-clause-sized : goal.hand_out-requires-clause-sized
hand_out-requires-clause-sized c =
    let t = c.size_tables in
    sized_tree _ c.requires.tree c.requires.exact c.requires.wide t.new.sized t.new.order
    (c.in_ok-size_tables.ensures.tables refl) t.auto.sized _ _ c.add_shares-end.ensures c.if-order-end.false t.auto.order
    (ap (λ (p : Places). p.size) t.ensures.places)

pub returns-clause-planned : goal.returns-clause-planned
returns-clause-planned c =
    let t = c.size_tables in
    all_sized _ _ _ _ c.requires.tree _ c.add_shares-end.ensures c.requires.exact c.args.sized.now refl c.if-order-end.false
    t.new.sized _ _ _ c.in_ok-size_tables.ensures.sizes c.hand_out.ensures.handed
