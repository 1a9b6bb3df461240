-- `img_tree::is_tree` meets its contract. The loop's invariant is `Sofar` of proofs/Whole.antt: the entries of the directories below d are marked.
use Rattle.img_model.specs.Columns.{columns_in}
use Rattle.img_tree.proofs.Whole.{Sofar}
use Rattle.img_tree.proofs.is_tree.Given as goal

abbrev pub invariant-loop-d : goal.invariant-loop-d
invariant-loop-d l = Sofar (columns_in l.request) l.d l.named
