-- `settle` meets its contract: the laws of `Level`, given the lists that `update_height` left with the equation for them.
use Rattle.std.proofs.Common.{arith, sym, ◌∙◌}
use Rattle.avl_model.specs.Lent.{lists_of}
use Rattle.avl_model.proofs.Joined.{made_of}
use Rattle.avl_model.proofs.Level.{right_asks, right_leaves, left_asks, left_leaves, leaf_leaves}
use Rattle.avl_model.proofs.Peak.{low_from}
use Rattle.avl_turn.proofs.settle.Goals as goal

pub update_height-requires-clause-low : goal.update_height-requires-clause-low
update_height-requires-clause-low c = λ j. omega (arith, low_from (lists_of c.args.links.now) c.args.at c.requires j)

pub turn_back-requires : goal.turn_back-requires
turn_back-requires c =
    let e = c.update_height.ensures in
    left_asks (lists_of c.args.links.now) c.args.at c.requires (lists_of c.update_height.new.links)
    (made_of e.root e.left e.right e.parent e.height) _ _ c.height_of.ensures c.height_of-2.ensures
    (sym c.tilt.ensures ∙ c.in-Left.is)

pub turn-requires : goal.turn-requires
turn-requires c =
    let e = c.update_height.ensures in
    right_asks (lists_of c.args.links.now) c.args.at c.requires (lists_of c.update_height.new.links)
    (made_of e.root e.left e.right e.parent e.height) _ _ c.height_of.ensures c.height_of-2.ensures
    (sym c.tilt.ensures ∙ c.in-Right.is)

pub returns-in-Left-clause-settled : goal.returns-in-Left-clause-settled
returns-in-Left-clause-settled c = λ w.
    let e = c.update_height.ensures in
    left_leaves (lists_of c.args.links.now) c.args.at w (lists_of c.update_height.new.links)
    (made_of e.root e.left e.right e.parent e.height) _ _ c.height_of.ensures c.height_of-2.ensures
    (sym c.tilt.ensures ∙ c.in-Left.is) c.turn_back.ensures.turned

pub returns-in-Right-clause-settled : goal.returns-in-Right-clause-settled
returns-in-Right-clause-settled c = λ w.
    let e = c.update_height.ensures in
    right_leaves (lists_of c.args.links.now) c.args.at w (lists_of c.update_height.new.links)
    (made_of e.root e.left e.right e.parent e.height) _ _ c.height_of.ensures c.height_of-2.ensures
    (sym c.tilt.ensures ∙ c.in-Right.is) c.turn.ensures.turned

pub returns-in-Leaf-clause-settled : goal.returns-in-Leaf-clause-settled
returns-in-Leaf-clause-settled c = λ w.
    let e = c.update_height.ensures in
    leaf_leaves (lists_of c.args.links.now) c.args.at w (lists_of c.update_height.new.links)
    (made_of e.root e.left e.right e.parent e.height) _ _ c.height_of.ensures c.height_of-2.ensures
    (sym c.tilt.ensures ∙ c.in-Leaf.is)
