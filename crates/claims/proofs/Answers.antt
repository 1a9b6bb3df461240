-- Which lists and images are refused what: cited. Assumes nothing.
use Rattle.agree_causes.proofs.OfList.{list_outcome, turn_outcome}
use Rattle.agree_causes.proofs.OfPlan.{plan_outcome}
use Rattle.agree_causes.proofs.One as one
use Rattle.agree_causes.proofs.Bridge as bridge
use Rattle.claims.specs.Answers.{ListAnswered, TurnAnswered, OneOutcome, PlanAnswered, OnePlan, PlanNever5, PlanThere}

pub list_answered : ListAnswered
list_answered L s m f e = list_outcome L f s m e

pub turn_answered : TurnAnswered
turn_answered L s c m f e = turn_outcome L f s c m e

pub one_outcome : OneOutcome
one_outcome L s x y a b = one.one_outcome L s a b

pub plan_answered : PlanAnswered
plan_answered A m f e = plan_outcome A m f e

pub one_plan : OnePlan
one_plan R x y a b = one.one_plan R a b

pub plan_never_5 : PlanNever5
plan_never_5 A m vs e = bridge.plan_never_5 A m vs e

pub plan_there : PlanThere
plan_there A m f e = bridge.plan_given A m f e
