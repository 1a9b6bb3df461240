-- What each function does to the lists of numbers that it is lent. A store at a number that is no index changes
-- nothing, and `get_or .. 0` reads 0 there, so that none of these asks whether a child is there.
use Rattle.std.specs.Prelude.{ℕ, List}

-- the root and the four lists
pub record Lists : Type 0 where
  pub root : ℕ
  pub L : List ℕ
  pub R : List ℕ
  pub P : List ℕ
  pub H : List ℕ

-- the root and the lists left, right, parent and height
abbrev pub lists : ℕ → List ℕ → List ℕ → List ℕ → List ℕ → Lists
lists t l r p h = record { root = t; L = l; R = r; P = p; H = h }
