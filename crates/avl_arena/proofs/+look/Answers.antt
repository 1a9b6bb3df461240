-- `avl_arena::look` meets its contract: the ways out of it are those of `Looked`.
use Rattle.std.proofs.Common.{◌-◌, arith, length, get_or}
use Rattle.avl_model.specs.Lent.{lists_in, names_of}
use Rattle.avl_arena.proofs.+look.Goals.{then-d-eq0-via-then-d-eq0, then-d-eq0-via-else-d-eq0+then-links-i}
use Rattle.avl_arena.proofs.Looked.{seen_zero, seen_out, not_between, not_left, not_right, not_cell, node_seen, high_small}
use Rattle.avl_arena.proofs.+look.Goals as goal

pub returns-then-d-eq0 : goal.returns-then-d-eq0
returns-then-d-eq0 t c =
    let a = c.args in
    elim c.then-d-eq0.branch [
      | then-d-eq0-via-then-d-eq0 w ↦ seen_zero (lists_in a.links.now) (names_of a.names.now) (length a.links.now.left.now) a.g.lo a.g.hi a.g.up a.at a.d w.if-d-eq0.true c.see_none.ensures
      | then-d-eq0-via-else-d-eq0+then-links-i w ↦ seen_out (lists_in a.links.now) (names_of a.names.now) (length a.links.now.left.now) a.g.lo a.g.hi a.g.up a.at a.d w.if-links-i.true c.see_none.ensures
    ]

pub returns-then-not-is_between : goal.returns-then-not-is_between
returns-then-not-is_between t c =
    let a = c.args in
    not_between (lists_in a.links.now) (names_of a.names.now) (length a.links.now.left.now) a.g.lo a.g.hi a.g.up a.at a.d
    c.if-d-eq0.false c.if-links-i.false _ c.requires.0.starts c.is_between.ensures c.if-not-is_between.true

pub returns-in_err-l : goal.returns-in_err-l
returns-in_err-l t c =
    let a = c.args in
    not_left (lists_in a.links.now) (names_of a.names.now) (length a.links.now.left.now) a.g.lo a.g.hi a.g.up a.at a.d
    c.if-d-eq0.false c.if-links-i.false c.from_residual.ensures c.in_err-l.ensures

pub returns-in_err-r : goal.returns-in_err-r
returns-in_err-r t c =
    let a = c.args in
    not_right (lists_in a.links.now) (names_of a.names.now) (length a.links.now.left.now) a.g.lo a.g.hi a.g.up a.at a.d
    c.if-d-eq0.false c.if-links-i.false c.from_residual-in_err-r.ensures c.in_err-r.ensures

pub is_cell-requires : goal.is_cell-requires
is_cell-requires t c =
    let a = c.args in
    let w = c.requires.0.long in
    let l = high_small (a.d - 1) a.links.now.left.now a.links.now.right.now (get_or a.links.now.left.now a.at 0) c.in_ok-l.ensures.2 c.in_ok-l.ensures.3 (omega arith) in
    let r = high_small (a.d - 1) a.links.now.left.now a.links.now.right.now (get_or a.links.now.right.now a.at 0) c.in_ok-r.ensures.2 c.in_ok-r.ensures.3 (omega arith) in
    (c.if-links-i.false, omega (arith, w.r), omega (arith, w.p), omega (arith, w.h), l.0, r.0)

pub join-requires : goal.join-requires
join-requires t c =
    let a = c.args in
    let l = high_small (a.d - 1) a.links.now.left.now a.links.now.right.now (get_or a.links.now.left.now a.at 0) c.in_ok-l.ensures.2 c.in_ok-l.ensures.3 (omega arith) in
    let r = high_small (a.d - 1) a.links.now.left.now a.links.now.right.now (get_or a.links.now.right.now a.at 0) c.in_ok-r.ensures.2 c.in_ok-r.ensures.3 (omega arith) in
    (l.0, r.0, l.1, r.1)

pub returns-then-is_cell : goal.returns-then-is_cell
returns-then-is_cell t c =
    let a = c.args in
    node_seen (lists_in a.links.now) (names_of a.names.now) (length a.links.now.left.now) a.g.lo a.g.hi a.g.up a.at a.d
    c.if-d-eq0.false c.if-links-i.false _ c.requires.0.starts c.is_between.ensures c.if-not-is_between.false
    {l = c.in_ok-l.l} {r = c.in_ok-r.r} c.in_ok-l.ensures c.in_ok-r.ensures c.is_cell.ensures {s = c.join.result} c.if-is_cell.true c.join.ensures

pub returns-else-is_cell : goal.returns-else-is_cell
returns-else-is_cell t c =
    let a = c.args in
    not_cell (lists_in a.links.now) (names_of a.names.now) (length a.links.now.left.now) a.g.lo a.g.hi a.g.up a.at a.d
    c.if-d-eq0.false c.if-links-i.false _ c.requires.0.starts c.is_between.ensures c.if-not-is_between.false
    {l = c.in_ok-l.l} {r = c.in_ok-r.r} c.in_ok-l.ensures c.in_ok-r.ensures c.is_cell.ensures c.if-is_cell.false
