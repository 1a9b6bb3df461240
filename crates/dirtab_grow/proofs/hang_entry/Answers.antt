-- `hang_entry` meets its contract: the columns are such as the search (`sought_in`) and the insertion (`placed`) ask for, and hold one number more after it.
use Rattle.avl_model.specs.Lists.{lists}
use Rattle.avl_model.specs.Lent.{names_of}
use Rattle.dirtab_grow.proofs.Columns.{sought_in}
use Rattle.dirtab_grow.proofs.Hung.{out_refused, placed, out_taken}
use Rattle.dirtab_grow.proofs.hang_entry.Goals as goal

pub choose_seat-requires-clause-key_sought : goal.choose_seat-requires-clause-key_sought
choose_seat-requires-clause-key_sought c = let a = c.args in let h = c.requires.hangable in
    sought_in (lists a.root.now a.left.now a.right.now a.parent.now a.height.now) a.key.now (names_of a.names) a.new h.long
    h.growing

pub put_in-requires : goal.put_in-requires
put_in-requires c = let a = c.args in let h = c.requires.hangable in
    placed (lists a.root.now a.left.now a.right.now a.parent.now a.height.now) a.key.now (names_of a.names) a.new h.long
    c.choose_seat.result c.choose_seat.ensures c.in_ok-seat.was h.growing

pub returns-in_err-seat : goal.returns-in_err-seat
returns-in_err-seat c = λ w. let a = c.args in let h = c.requires.hangable in
    out_refused (lists a.root.now a.left.now a.right.now a.parent.now a.height.now) a.key.now (names_of a.names) a.new
    h.long c.choose_seat.result c.choose_seat.ensures c.in_err-seat.was c.from_residual.ensures.1 w

pub returns : goal.returns
returns c = λ w. let a = c.args in let h = c.requires.hangable in
    out_taken (lists a.root.now a.left.now a.right.now a.parent.now a.height.now) a.key.now (names_of a.names) a.new h.long
    c.choose_seat.result c.choose_seat.ensures c.in_ok-seat.was w h.inside h.has c.put_in.ensures
