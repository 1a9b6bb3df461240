-- `find_place` meets its contract: what the search answers says where the name stands or would hang (`found`).
use Rattle.avl_model.specs.Lent.{names_of}
use Rattle.dirtab_grow.proofs.Checked.{found, seat_same}
use Rattle.dirtab_grow.proofs.find_place.Goals as goal

pub returns-in-Same : goal.returns-in-Same
returns-in-Same c = λ w. seat_same c.args.new
    (found (names_of c.args.names) c.args.new w.linked.t c.requires.name_is (c.seek.ensures w) c.in-Same.is)

pub returns-in-Free : goal.returns-in-Free
returns-in-Free c = λ w.
    found (names_of c.args.names) c.args.new w.linked.t c.requires.name_is (c.seek.ensures w) c.in-Free.is
