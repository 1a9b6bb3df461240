-- What the functions of the arena test take of one another, and what looking through a tree finds.
use Rattle.std.specs.Prelude.{ℕ, ◌+◌, ◌≤◌, ◌<◌, ◌≡◌, Bool, true, false, length, get_or, Option, Some, None}
use Rattle.avl_model.specs.Lists.{Lists}
use Rattle.avl_model.specs.Names.{Names}
use Rattle.avl_model.specs.Tree.{Tree, top, ht}
use Rattle.avl_model.specs.inner.Held.{Long}
use Rattle.avl_model.specs.Laws.{size}
use Rattle.avl_arena.specs.declared.Seen.{Seen}

-- the name of each node lies inside the lent bytes
pub record Named (N : Names) : Type 0 where
  pub same : length N.len ≡ length N.start
  pub in_bytes : (j : ℕ) → j < length N.start → get_or N.start j 0 + get_or N.len j 0 ≤ length N.bytes

-- the same, and i is a node
abbrev pub NamedAt : Names → ℕ → Type 0
NamedAt N i = Named N × (i < length N.start)

-- columns of n places each, with names
pub record Lent (S : Lists) (N : Names) (n : ℕ) : Type 0 where
  pub long : Long n S
  pub starts : length N.start ≡ n
  pub named : Named N

-- b is whether all is right; then something is seen, and it says what the tree is
abbrev pub Judged : Option Seen → Bool → Tree → Type 0
Judged None b t = b ≡ false
Judged (Some s) b t = (b ≡ true) × (s.top ≡ top t) × (s.high ≡ ht t) × (s.size ≡ size t)
