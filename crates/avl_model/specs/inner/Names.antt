-- Names of nodes as inner functions take them: inside the bytes lent; the tree that they grow into.
use Rattle.std.specs.Prelude.{ℕ, zero, suc, ◌+◌, ◌≤◌, ◌<◌, length, get_or}
use Rattle.avl_model.specs.Tree.{Tree, leaf, ins}
use Rattle.avl_model.specs.Names.{Names, by_name, is_less}
pub use Rattle.avl_model.specs.Names.{Before}

-- the name of a node stands inside the bytes, and its number inside both columns
pub record Inside (N : Names) (i : ℕ) : Type 0 where
  pub starts : i < length N.start
  pub ends : i < length N.len
  pub fits : get_or N.start i 0 + get_or N.len i 0 ≤ length N.bytes

-- the tree of the first n nodes, put in one after the other; no two of their names are equal
abbrev pub grown : Names → ℕ → Tree
grown N zero = leaf
grown N (suc n) = ins (λ i. is_less (by_name N n i)) n (grown N n)
