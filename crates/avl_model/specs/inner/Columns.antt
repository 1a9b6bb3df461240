-- What an insertion answers and leaves, by where the name was found.
use Rattle.std.specs.Prelude.{ℕ}
use Rattle.std.specs.declared.cmp.Ordering.{Ordering}
use Rattle.avl_model.specs.declared.Spot.{Spot}
use Rattle.avl_model.specs.declared.Spot.TheVariants.{Same, Free}
use Rattle.avl_model.specs.declared.Place.TheVariants.{Root}
use Rattle.avl_model.specs.Lists.{Lists}
use Rattle.avl_model.specs.inner.Insert.{Inserted, Done, Duplicate}
use Rattle.avl_model.specs.Tree.{Tree, ins}
use Rattle.avl_model.specs.Names.{is_less}
use Rattle.avl_model.specs.Seek.{spot_in}
use Rattle.avl_model.specs.Columns.{written}

-- what an insertion answers, by where the name was found
abbrev pub answered : Spot → Inserted
answered (Same i) = Duplicate i
answered (Free q) = Done

-- S where the name was there, T where it was not
abbrev pub lists_by : Spot → Lists → Lists → Lists
lists_by (Same i) S T = S
lists_by (Free q) S T = T

-- the lists after `new` was to be put into the tree t that S holds; `by i` is the order of its name to that of node i
unfoldable pub after : (ℕ → Ordering) → ℕ → Tree → Lists → Lists
after by new t S = lists_by (spot_in by t Root) S (written (ins (λ i. is_less (by i)) new t) S)
