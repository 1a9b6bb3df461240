-- `arrange` meets its contract: the sizes are filled up to the first that is too large; what building answers of the
-- entries before it is what is told of all, or the columns hold the tree of all, and its preorder is listed.
use Rattle.std.proofs.Common.{refl, length, arith}
use Rattle.avl_model.specs.Lent.{lists_of}
use Rattle.img_model.specs.Plan.{table_in}
use Rattle.img_model.specs.Columns.{share_in}
use Rattle.img_table.proofs.Treed.{to_count, tree_refused}
use Rattle.img_table.proofs.Outcomes.{passed_on, roomy, out_large, out_asks, out_whole}
use Rattle.img_table.proofs.arrange.Goals as goal

pub build-requires : goal.build-requires
build-requires c =
    let f = c.fill_sizes-count in
    roomy (share_in c.args.share) (table_in c.args.sized.now) f.new.size f.result f.ensures.answer f.ensures.sizes
    (lists_of c.args.links.now) c.args.key.now c.requires refl f.auto.size

pub returns-in_err-build-clause-arranged : goal.returns-in_err-build-clause-arranged
returns-in_err-build-clause-arranged c =
    let f = c.fill_sizes-count in
    let e = c.in_err-build.field-0.0 in
    passed_on c.from_residual.result e.cause e.entry _ c.args.order.now c.from_residual.ensures.1
    (tree_refused (share_in c.args.share) (table_in c.args.sized.now) f.new.size f.result f.ensures.answer f.ensures.sizes
    c.in_err-build.ensures.built)

pub returns-then-n-share-clause-arranged : goal.returns-then-n-share-clause-arranged
returns-then-n-share-clause-arranged c =
    let f = c.fill_sizes-count in
    out_large (share_in c.args.share) (table_in c.args.sized.now) f.new.size f.result f.ensures.answer f.ensures.sizes
    (lists_of c.build.new.links) c.in_ok-build.ensures.built c.if-n-share.true

pub list_nodes-requires-clause-fits : goal.list_nodes-requires-clause-fits
list_nodes-requires-clause-fits c =
    let f = c.fill_sizes-count in
    let low = to_count (share_in c.args.share) (table_in c.args.sized.now) f.new.size f.result f.ensures.answer
    f.ensures.sizes in
    let long = c.build.ensures.lengths in
    (omega (arith, low, c.requires.l, long.l), omega (arith, low, c.requires.r, long.r))

pub list_nodes-requires-clause-listed : goal.list_nodes-requires-clause-listed
list_nodes-requires-clause-listed c =
    let f = c.fill_sizes-count in
    let low = to_count (share_in c.args.share) (table_in c.args.sized.now) f.new.size f.result f.ensures.answer
    f.ensures.sizes in
    let long = c.build.ensures.lengths in
    out_asks (share_in c.args.share) (table_in c.args.sized.now) f.new.size f.result f.ensures.answer f.ensures.sizes
    (lists_of c.build.new.links) c.in_ok-build.ensures.built (omega (arith, low, c.requires.l, long.l))
    (omega (arith, low, c.requires.r, long.r)) (length c.args.order.now) (omega (arith, low, c.requires.o))

pub returns-clause-arranged : goal.returns-clause-arranged
returns-clause-arranged c =
    let f = c.fill_sizes-count in
    let low = to_count (share_in c.args.share) (table_in c.args.sized.now) f.new.size f.result f.ensures.answer
    f.ensures.sizes in
    let long = c.build.ensures.lengths in
    out_whole (share_in c.args.share) (table_in c.args.sized.now) f.new.size f.result f.ensures.answer f.ensures.sizes
    (lists_of c.build.new.links) c.in_ok-build.ensures.built (omega (arith, low, c.requires.l, long.l))
    (omega (arith, low, c.requires.r, long.r)) c.args.order.now _ c.requires.o c.if-n-share.false c.list_nodes.ensures
