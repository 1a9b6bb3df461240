-- `plan_counted` meets its contract: 11, or what planning a tree leaves.
use Rattle.img.proofs.Planning.{bad_tree}
use Rattle.img.proofs.plan_counted.Goals as goal

pub returns-then-not-is_tree-clause-planned : goal.returns-then-not-is_tree-clause-planned
returns-then-not-is_tree-clause-planned c = bad_tree _ _ _ _ _ _ c.is_tree.ensures c.if-not-is_tree.true
