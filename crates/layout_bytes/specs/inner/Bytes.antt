-- Bytes put over others in a list.
use Rattle.std.specs.Prelude.{ℕ, ◌+◌, List, ◌++◌, length, take, drop}

-- d with s in the place of as many of its bytes, from place `at` on
unfoldable pub put_at : List ℕ → ℕ → List ℕ → List ℕ
put_at d at s = take at d ++ (s ++ drop (at + length s) d)
