-- The key of a name: its first four bytes, raised, as one number. Assumes nothing.
use Rattle.std.specs.Prelude.{ℕ, ◌+◌, ◌*◌, ◌<◌, ◌≡◌, Bool, List, eqb, length, get_or}
use Rattle.units.specs.Told.{pick}
use Rattle.layout_name.specs.inner.Order.{raised_copy}
use Rattle.avl_model.specs.declared.Place.{Place}
use Rattle.avl_model.specs.declared.Place.TheVariants.{Root, Left, Right}
use Rattle.avl_model.specs.Tree.{none}
use Rattle.avl_model.specs.Laws.{All}
use Rattle.avl_model.specs.Names.{Names, name_at}
use Rattle.avl_model.specs.inner.Names.{Inside}
use Rattle.avl_model.specs.inner.Seek.{Linked}

-- the first four bytes as one number, the first one highest
abbrev pub key_of : List ℕ → ℕ
key_of xs = 16777216 * get_or xs 0 0 + 65536 * get_or xs 1 0 + 256 * get_or xs 2 0 + get_or xs 3 0

-- of a name
unfoldable pub key_for : List ℕ → ℕ
key_for a = key_of (raised_copy a)

-- a node has its name in its place, and the name's key in the column K
pub record Keyed (K : List ℕ) (N : Names) (i : ℕ) : Type 0 where
  pub inside : Inside N i
  pub has : i < length K
  pub key_is : get_or K i 0 ≡ key_for (name_at N i)

-- what a search by keys takes: the links hold a tree, each node with its name and its key
pub record KeySought (L R K : List ℕ) (root : ℕ) (N : Names) : Type 0 where
  pub linked : Linked L R root
  pub keyed : All (Keyed K N) linked.t

-- the place below the last node that was looked at, which may be none
abbrev pub place_from : ℕ → Bool → Place
place_from above less = pick (eqb above none) Root (pick less (Left above) (Right above))
