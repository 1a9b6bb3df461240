-- `add_shares` meets its contract.
use Rattle.std.proofs.Common.{rules, ◌≡◌, sum, ◌∙◌}
use Rattle.img_room.proofs.Adding.{sum_total}
use Rattle.img_room.proofs.add_shares.Goals as goal

pub returns : goal.returns
returns c =
    let e : c.sum.result ≡ sum c.args.share.now = search rules in e ∙ sum_total c.args.share.now
