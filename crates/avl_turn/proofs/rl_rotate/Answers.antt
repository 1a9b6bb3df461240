-- `rl_rotate` meets its contract, as `l_rotate` does.
use Rattle.avl_model.specs.Lent.{lists_of}
use Rattle.avl_model.proofs.Joined.{made_of, rl_joined}
use Rattle.avl_turn.proofs.rl_rotate.Goals as goal

pub returns-clause-rotated : goal.returns-clause-rotated
returns-clause-rotated c =
    let s = c.args in
    let e = c.hang.ensures in
    let f = c.set_child.ensures in
    let g = c.set_child-2.ensures in
    let h = c.set_child-3.ensures in
    let k = c.set_child-4.ensures in
    let u = c.update_heights.ensures in
    rl_joined (lists_of s.links.now) (lists_of c.update_heights.new.links) s.a s.b s.c e.root e.left e.right e.parent
    e.height f.side f.parent g.side g.parent h.side h.parent k.side k.parent
    (made_of u.root u.left u.right u.parent u.height)
