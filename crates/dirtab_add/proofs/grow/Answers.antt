-- `grow` meets its contract: `put_in` works on the first count + 1 places, which are put back before the rest (`put_back`).
use Rattle.std.proofs.Common.{arith, ◌+◌}
use Rattle.avl_model.specs.Lists.{lists}
use Rattle.dirtab_add.proofs.Growing.{put_back}
use Rattle.dirtab_add.proofs.grow.Goals as goal

pub returns : goal.returns
returns c = let a = c.args in λ w.
    put_back (lists a.tree.root a.left.now a.right.now a.parent.now a.height.now) (a.tree.count + 1) a.tree.count a.place
    (record { l = omega arith; r = omega arith; p = omega arith; h = omega arith }) w (c.put_in.ensures w)
