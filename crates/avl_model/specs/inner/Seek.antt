-- The way down to where a new node goes, and what a search takes: links that hold a tree, names that stand inside.
use Rattle.std.specs.Prelude.{ℕ, ◌≤◌, ◌<◌, ◌≡◌, Bool, true, false, List, length, get_or}
use Rattle.avl_model.specs.declared.Place.{Place}
use Rattle.avl_model.specs.declared.Place.TheVariants.{Root, Left, Right}
use Rattle.avl_model.specs.Tree.{Tree, leaf, node, none, top, ht}
use Rattle.avl_model.specs.inner.Rep.{Ctx, hole, in_l, in_r}
use Rattle.avl_model.specs.Laws.{All}
use Rattle.avl_model.specs.Names.{Names}
use Rattle.avl_model.specs.inner.Names.{Inside}

-- a way by a test
abbrev pub path_by : Bool → Ctx → Ctx → Ctx
path_by true a b = a
path_by false a b = b

-- the way down to where a new node goes, with t in the hole of k
abbrev pub path : (ℕ → Bool) → Tree → Ctx → Ctx
path less leaf k = k
path less (node l i r) k = path_by (less i) (path less l (in_l i r k)) (path less r (in_r l i k))

-- the place of the hole
abbrev pub place_in : Ctx → Place
place_in hole = Root
place_in (in_l i r k) = Left i
place_in (in_r l i k) = Right i

-- the links alone hold the tree
pub record Link2 (L R : List ℕ) (n : ℕ) (l : Tree) (i : ℕ) (r : Tree) : Type 0 where
  pub fits : i < n
  pub left : get_or L i 0 ≡ top l
  pub right : get_or R i 0 ≡ top r

-- the lists of left and right links hold the tree
abbrev pub Links : List ℕ → List ℕ → ℕ → Tree → Type 0
Links L R n leaf = Unit {0}
Links L R n (node l i r) = Link2 L R n l i r × Links L R n l × Links L R n r

-- the links hold a tree, from the root
pub record Linked (L R : List ℕ) (root : ℕ) : Type 0 where
  pub t : Tree
  pub n_is : length R ≡ length L
  pub small : length L ≤ none
  pub links : Links L R (length L) t
  pub root_is : root ≡ top t
  pub bound : ht t < 100

-- what a search by name takes: the links hold a tree, and the name of each node of the tree stands in its place
pub record Sought (L R : List ℕ) (root : ℕ) (N : Names) : Type 0 where
  pub linked : Linked L R root
  pub named : All (Inside N) linked.t
