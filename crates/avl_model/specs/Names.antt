-- The names of nodes: each by its place in lent bytes, and how two of them stand. Assumes nothing.
use Rattle.std.specs.Prelude.{ℕ, ◌≡◌, List, get_or, take, drop}
use Rattle.std.specs.declared.cmp.Ordering.{Ordering}
use Rattle.std.specs.declared.cmp.Ordering.TheVariants.{Less}
pub use Rattle.layout_name.specs.Order.{is_less}
use Rattle.name_role.specs.Roles.{given_order}

-- lent bytes, and for each node where its name starts in them and how long it is
pub record Names : Type 0 where
  pub bytes : List ℕ
  pub start : List ℕ
  pub len : List ℕ

-- bytes, starts and lengths
abbrev pub names_in : List ℕ → List ℕ → List ℕ → Names
names_in b s n = record { bytes = b; start = s; len = n }

-- the name of a node
abbrev pub name_at : Names → ℕ → List ℕ
name_at N i = take (get_or N.len i 0) (drop (get_or N.start i 0) N.bytes)

-- the order of a name to that of a node
unfoldable pub to_name : Names → List ℕ → ℕ → Ordering
to_name N a i = given_order a (name_at N i)

-- the order of the names of two nodes
abbrev pub by_name : Names → ℕ → ℕ → Ordering
by_name N i j = to_name N (name_at N i) j

-- the name of node i is before that of node j
abbrev pub Before : Names → ℕ → ℕ → Type 0
Before N i j = by_name N i j ≡ Less
