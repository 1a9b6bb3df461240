-- `choose_seat` meets its contract: the tree that the links hold is the one that is searched (`spot_there`).
use Rattle.avl_model.specs.Lent.{names_of}
use Rattle.dirtab_grow.proofs.Checked.{key_of_name, seat_full}
use Rattle.dirtab_grow.proofs.Rightmost.{spot_there}
use Rattle.dirtab_grow.proofs.choose_seat.Goals.{then-after, else-after+in_ok-place}
use Rattle.dirtab_grow.proofs.choose_seat.Goals as goal

pub returns-then-new-ge16384 : goal.returns-then-new-ge16384
returns-then-new-ge16384 c = λ w. seat_full c.args.new {q = c.if-after.place}
    (elim c.if-after.branch [
      | then-after v ↦ rw v.place-is (spot_there c.requires.after v.if-after.true w)
      | else-after+in_ok-place v ↦ rw v.place-is (v.in_ok-place.ensures w)
    ]) c.if-new-ge16384.true

pub returns : goal.returns
returns c = λ w. (
  elim c.if-after.branch [
    | then-after v ↦ rw v.place-is (spot_there c.requires.after v.if-after.true w)
    | else-after+in_ok-place v ↦ rw v.place-is (v.in_ok-place.ensures w)
  ],
  (c.if-new-ge16384.false, key_of_name (names_of c.args.names) c.args.new c.node_name-name.ensures.named c.key_of-k.ensures),
)
