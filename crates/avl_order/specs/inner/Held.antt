-- What a link takes on the stack.
use Rattle.std.specs.Prelude.{ℕ, Bool, true, false, eqb}
use Rattle.avl_model.specs.Tree.{none}

abbrev pub held_if : Bool → ℕ
held_if true = 0
held_if false = 1

-- one place, and none where the link is to no node
unfoldable pub held_by : ℕ → ℕ
held_by x = held_if (eqb x none)
