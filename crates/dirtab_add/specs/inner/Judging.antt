-- What the functions of adding take of one another: what is known of an entry after some of the checks. Assumes
-- nothing.
use Rattle.std.specs.Prelude.{ℕ, ◌≡◌, ◌<◌, true, [], length, set, Result, Ok, Err}
use Rattle.units.specs.Told.{gives, refuses}
use Rattle.dirtab_entry.specs.declared.Entry as given
use Rattle.dirtab_entry.specs.Entry.{check_of, stored_size, kind_number}
use Rattle.avl_model.specs.declared.Place.{Place}
use Rattle.avl_model.specs.declared.Place.TheVariants.{Root}
use Rattle.avl_model.specs.declared.Spot.TheVariants.{Free}
use Rattle.avl_model.specs.Seek.{spot_in}
use Rattle.dirtab_arena.specs.Arena.{Columns, Arena, is_arena, tree_of}
use Rattle.dirtab_add.specs.declared.AddError.{AddError}
use Rattle.dirtab_add.specs.Add.{order_to, has_room, told, add_of}

-- the arena is one, and adding takes the entry by itself
pub record Checked (A : Arena) (e : given.Entry) : Type 0 where
  pub passes : is_arena A ≡ true
  pub taken : check_of A.bytes e ≡ gives tt

-- besides, no held entry has the name, which goes to q, and there is room
pub record Taking (A : Arena) (e : given.Entry) (q : Place) : Type 0 where
  pub checked : Checked A e
  pub free : spot_in (order_to A e) (tree_of A) Root ≡ Free q
  pub room : has_room A.count A.columns ≡ true

-- adding refuses, and x is the error for it
pub record Refusing (A : Arena) (e : given.Entry) (x : AddError) : Type 0 where
  pub number : ℕ
  pub told_is : told (Err x) ≡ refuses number []
  pub answer : add_of A e ≡ refuses number []

-- what the checks found
abbrev pub Judged : Result Place AddError → Arena → given.Entry → Type 0
Judged (Err x) A e = Refusing A e x
Judged (Ok q) A e = Taking A e q

-- the columns of the entry's own numbers have a place i
pub record HasPlace (c : Columns) (i : ℕ) : Type 0 where
  pub start : i < length c.start
  pub len : i < length c.len
  pub size : i < length c.size
  pub kind : i < length c.kind

-- the columns with the entry's own numbers at place i
abbrev pub stored_at : Columns → ℕ → given.Entry → Columns
stored_at c i e = record c {
  start = set c.start i e.start;
  len = set c.len i e.len;
  size = set c.size i (stored_size e.kind e.size);
  kind = set c.kind i (kind_number e.kind);
}
