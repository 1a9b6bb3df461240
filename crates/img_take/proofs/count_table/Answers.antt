-- `count_table` meets its contract.
use Rattle.std.proofs.Common.{◌≤◌, refl, arith}
use Rattle.img_model.specs.Columns.{share_in}
use Rattle.img_take.proofs.Counting.{count_asks, count_is}
use Rattle.img_take.proofs.Turns.{fill_any}
use Rattle.img_take.proofs.count_table.Goals as goal

pub fill_sizes-requires : goal.fill_sizes-requires
fill_sizes-requires c = fill_any (share_in c.args.share) c.requires.0 c.requires.1.fillable

pub count_sectors-requires : goal.count_sectors-requires
count_sectors-requires c =
    let f = c.fill_sizes in
    count_asks c.requires.1 f.new.size f.result f.ensures.answer f.ensures.sizes f.auto.size refl

pub returns : goal.returns
returns c =
    let f = c.fill_sizes in
    let low : c.args.free.0 ≤ 4294967295 = omega arith in
    λ N w. count_is w f.new.size f.result f.ensures.answer f.ensures.sizes low c.count_sectors.ensures.answer
