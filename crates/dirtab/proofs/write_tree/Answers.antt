-- `write_tree` meets its contract: the preorder is listed, and the table of what is listed is written.
use Rattle.std.proofs.Common.{length}
use Rattle.dirtab_held.specs.inner.Held.{cols_in}
use Rattle.dirtab_held.proofs.Rooted.{hung, listing}
use Rattle.dirtab.proofs.write_tree.Goals as goal

pub list_held-requires : goal.list_held-requires
list_held-requires c =
    ((c.requires.0.0, hung (cols_in c.args.branches c.args.entries) c.args.branches.root c.args.count c.requires.0.0 c.requires.0.1), c.requires.1)

pub write_listed-requires : goal.write_listed-requires
write_listed-requires c = (
  c.requires.0.0,
  listing (cols_in c.args.branches c.args.entries) c.args.branches.root c.args.count c.requires.0.0 c.requires.0.1
      c.args.order.now _ c.list_held.ensures (length c.args.place.now) c.requires.2,
)

pub returns : goal.returns
returns c = record {
  answer = λ t h. c.write_listed.ensures.answer t
      (listing (cols_in c.args.branches c.args.entries) c.args.branches.root c.args.count t h c.args.order.now _ c.list_held.ensures (length c.args.place.now) c.requires.2);
  out = λ t h. c.write_listed.ensures.out t
      (listing (cols_in c.args.branches c.args.entries) c.args.branches.root c.args.count t h c.args.order.now _ c.list_held.ensures (length c.args.place.now) c.requires.2);
}
