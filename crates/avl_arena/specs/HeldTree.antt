-- What an arena is that holds n nodes.
use Rattle.std.specs.Prelude.{ℕ, ◌+◌, ◌≤◌, ◌<◌, ◌≡◌, length, get_or}
use Rattle.avl_model.specs.Lists.{Lists}
use Rattle.avl_model.specs.Names.{Names, Before}
use Rattle.avl_model.specs.Tree.{Tree, none, top, cnt}
use Rattle.avl_model.specs.Rep.{Rep}
use Rattle.avl_model.specs.Rep.{arr_of}
use Rattle.avl_model.specs.Laws.{Avl, Ordered, size}

-- each column has n places
pub record Places (S : Lists) (N : Names) (n : ℕ) : Type 0 where
  pub l : n ≤ length S.L
  pub r : n ≤ length S.R
  pub p : n ≤ length S.P
  pub h : n ≤ length S.H
  pub start : n ≤ length N.start
  pub len : n ≤ length N.len

-- the first n places of the columns hold the tree t: each number below n stands in it once, links, parents and
-- heights are true, it is balanced and ordered by name, and each name lies inside the lent bytes
pub record HeldTree (S : Lists) (N : Names) (n : ℕ) (t : Tree) : Type 0 where
  pub places : Places S N n
  pub root_is : S.root ≡ top t
  pub rep : Rep (arr_of S) n none t
  pub each : (j : ℕ) → j < n → cnt j t ≡ 1
  pub size_is : size t ≡ n
  pub balanced : Avl t
  pub ordered : Ordered (Before N) t
  pub named : (j : ℕ) → j < n → get_or N.start j 0 + get_or N.len j 0 ≤ length N.bytes
