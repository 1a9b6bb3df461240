-- The limits loader: cited. Assumes nothing.
use lib.ListN.{length, take}
use Rattle.limits_rule.proofs.Marks.{marked_volume, volume_marked}
use Rattle.limits_rule.proofs.Outcomes.{outcome, outcome_one}
use Rattle.limits_rule.proofs.Numbers.{accepts, loads, nothing, known, not_29}
use Rattle.img_model.specs.Image.{request_in}
use Rattle.agree_limits.proofs.Loaded.{file_loaded}
use Rattle.claims.specs.Loaded as claimed

pub loads_exactly : claimed.LoadsExactly
loads_exactly w first path time age = record {
  accepted = loads w first path time age;
  only = accepts w first path time age;
  marked = marked_volume w first;
  marks = volume_marked w first;
  outcome = outcome w first path time age;
  outcome_one = outcome_one w first path time age;
  nothing = nothing w first path time age;
  known = known w first path time age;
  not_29 = not_29 w first path time age;
}

pub planned_loads : claimed.PlannedLoads
planned_loads A m f q w first g d s e j parts leads file =
    file_loaded (request_in A) (length m.order) (take A.directories m.tables) (take A.entries m.sectors) q.plan w first
    (record { planned = q.planned; apart = g.apart; stand = g.stand }) d s e j parts leads file
