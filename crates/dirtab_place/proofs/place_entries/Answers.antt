-- `place_entries` meets its contract: an entry that is not too far.
use Rattle.std.proofs.Common.{◌≡◌, ◌/◌, rules, length-set, arith}
use Rattle.dirtab_place.proofs.Turns.{next_end, next_places}
use Rattle.dirtab_place.proofs.place_entries.Goals as goal

pub loop-number-preserved : goal.loop-number-preserved
loop-number-preserved c =
    let link : c.number.result ≡ c.start_after-start.result / 4 = omega arith in
    record { near = search rules; long = simp length-set (search rules); ends = search next_end; places = search next_places }
