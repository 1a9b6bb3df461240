-- `hand_out` meets its contract: what can be placed is taken.
use Rattle.std.proofs.Common.{length, rules, sym}
use Rattle.avl_model.specs.Names.{Names, names_in}
use Rattle.img_model.specs.declared.Request as given
use Rattle.img_model.specs.Plan.{taking_up, rooted}
use Rattle.img_model.specs.Columns.{columns_in}
use Rattle.img_take.proofs.Turns.{re_place}
use Rattle.img.proofs.Handing.{given_is, none_handed, all_handed}
use Rattle.img.proofs.hand_out.Goals as goal

-- the names that are lent
abbrev lent_names : given.Request → Names
lent_names q = names_in q.names.bytes.now q.names.start.now q.names.len.now

pub check_tables-requires-clause-sized : goal.check_tables-requires-clause-sized
check_tables-requires-clause-sized c = (lent_names c.args.tables.request, c.requires.sized)

pub take_tables-requires-clause-sized : goal.take_tables-requires-clause-sized
take_tables-requires-clause-sized c =
    let t = c.args.tables in
    let R = columns_in t.request in
    let first = c.args.out.now.tables.now in
    let sectors = c.args.out.now.sectors.now in (
      lent_names t.request,
      (
        re_place c.requires.sized (sym c.check_tables.auto.size),
        given_is (taking_up R t.sized.now (length R.from) 0 (rooted R t.sized.now first sectors)) c.in_ok-free.free.0
            (c.in_ok-free.ensures (lent_names t.request) c.requires.sized first sectors),
      ),
    )

pub returns-in_err-free-clause-handed : goal.returns-in_err-free-clause-handed
returns-in_err-free-clause-handed c =
    let t = c.args.tables in
    let out = c.args.out.now in
    none_handed c.in_err-free.field-0.0 _ _ _ _ c.from_residual.ensures.1
    (c.in_err-free.ensures (lent_names t.request) c.requires.sized out.tables.now out.sectors.now)

pub returns-clause-handed : goal.returns-clause-handed
returns-clause-handed c =
    let t = c.args.tables in
    let out = c.args.out.now in
    all_handed c.in_ok-free.free _ _ _ _
    (c.in_ok-free.ensures (lent_names t.request) c.requires.sized out.tables.now out.sectors.now) (search rules)
    (c.take_tables.ensures (lent_names t.request) (re_place c.requires.sized (sym c.check_tables.auto.size)))
