-- `l_rotate` meets its contract: the callees' equations, joined over plain lists (`l_joined`).
use Rattle.avl_model.specs.Lent.{lists_of}
use Rattle.avl_model.proofs.Joined.{made_of, l_joined}
use Rattle.avl_turn.proofs.l_rotate.Goals as goal

pub returns-clause-rotated : goal.returns-clause-rotated
returns-clause-rotated c =
    let s = c.args in
    let e = c.hang.ensures in
    let f = c.set_child.ensures in
    let g = c.set_child-2.ensures in
    let h = c.update_heights.ensures in
    l_joined (lists_of s.links.now) (lists_of c.update_heights.new.links) s.a s.b s.c e.root e.left e.right e.parent
    e.height f.side f.parent g.side g.parent (made_of h.root h.left h.right h.parent h.height)
