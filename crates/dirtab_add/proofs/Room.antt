-- Room for one entry more: what the test says.
use Rattle.std.proofs.Common.{ℕ, ◌<◌, ◌≡◌, true, length, ltb, ltb-true}
use Rattle.avl_arena.proofs.Tested.{and_l, and_r}
use Rattle.dirtab_arena.specs.Arena.{Columns}
use Rattle.dirtab_add.specs.Add.{most, has_room}

-- a place more in every column
pub record Roomy (n : ℕ) (c : Columns) : Type 0 where
  pub small : n < most
  pub left : n < length c.left
  pub right : n < length c.right
  pub parent : n < length c.parent
  pub height : n < length c.height
  pub start : n < length c.start
  pub len : n < length c.len
  pub size : n < length c.size
  pub kind : n < length c.kind

pub room_of : (n : ℕ) (c : Columns) → has_room n c ≡ true → Roomy n c
unfolding has_room
room_of n c e0 =
    let e1 = and_r (ltb n most) _ e0 in
    let e2 = and_r (ltb n (length c.left)) _ e1 in
    let e3 = and_r (ltb n (length c.right)) _ e2 in
    let e4 = and_r (ltb n (length c.parent)) _ e3 in
    let e5 = and_r (ltb n (length c.height)) _ e4 in
    let e6 = and_r (ltb n (length c.start)) _ e5 in
    let e7 = and_r (ltb n (length c.len)) _ e6 in
    let e8 = and_r (ltb n (length c.size)) _ e7 in
    record {
      small = ltb-true n most (and_l _ _ e0);
      left = ltb-true n (length c.left) (and_l _ _ e1);
      right = ltb-true n (length c.right) (and_l _ _ e2);
      parent = ltb-true n (length c.parent) (and_l _ _ e3);
      height = ltb-true n (length c.height) (and_l _ _ e4);
      start = ltb-true n (length c.start) (and_l _ _ e5);
      len = ltb-true n (length c.len) (and_l _ _ e6);
      size = ltb-true n (length c.size) (and_l _ _ e7);
      kind = ltb-true n (length c.kind) e8;
    }
