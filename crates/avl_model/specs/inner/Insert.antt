-- What an insertion takes and leaves.
use Rattle.std.specs.Prelude.{ℕ, ◌≡◌, Bool, length}
use Rattle.std.specs.declared.cmp.Ordering.{Ordering}
use Rattle.avl_model.specs.declared.Spot.{Spot}
use Rattle.avl_model.specs.declared.Spot.TheVariants.{Same, Free}
use Rattle.avl_model.specs.declared.Place.{Place}
use Rattle.avl_model.specs.declared.Place.TheVariants.{Root}
use Rattle.avl_model.specs.Lists.{Lists}
use Rattle.avl_model.specs.Laws.{All}
use Rattle.avl_model.specs.Tree.{Tree, ins}
use Rattle.avl_model.specs.inner.Held.{Whole, Arena}
use Rattle.avl_model.specs.Names.{Names, is_less}
use Rattle.avl_model.specs.inner.Names.{Inside}
use Rattle.avl_model.specs.Seek.{spot_in}

-- what putting a node in answers: it is in, or its name is that of a node that was there
pub data Inserted : Type 0 where
  Done : Inserted
  Duplicate : ℕ → Inserted

-- an arena, and the name of each node of its tree in lent bytes; nothing is asked of the place of `new`
pub record Filled (S : Lists) (N : Names) (new : ℕ) : Type 0 where
  pub arena : Arena S new
  pub named : All (Inside N) arena.t

-- an arena, and q is the place where a name that no node has would hang; `by i` is the order of that name to that
-- of node i
pub record Placed (S : Lists) (q : Place) (new : ℕ) : Type 0 where
  pub arena : Arena S new
  pub by : ℕ → Ordering
  pub free : spot_in by arena.t Root ≡ Free q

-- a name that is there leaves all as it was, and the answer says which node has it; any other is put in
abbrev pub OutBy : Spot → Lists → Lists → (ℕ → Bool) → ℕ → Tree → Inserted → Type 0
OutBy (Same i) S T less new t r = (r ≡ Duplicate i) × (T ≡ S)
OutBy (Free q) S T less new t r = (r ≡ Done) × Whole T (length S.L) (ins less new t)

-- `by i` is the order of the name of `new` to that of node i
abbrev pub Out : Lists → Lists → (ℕ → Ordering) → ℕ → Tree → Inserted → Type 0
Out S T by new t r = OutBy (spot_in by t Root) S T (λ i. is_less (by i)) new t r
