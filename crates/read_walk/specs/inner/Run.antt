-- What the loop of a walk leaves, for the contracts inside the crate. Assumes nothing.
use Rattle.std.specs.Prelude.{ℕ, zero, suc, ◌+◌, ◌≤◌, ◌≡◌, List, [], ◌∷◌, length, get_or, take}
use Rattle.std.specs.Prelude.{Result}
use Rattle.std.specs.Result.{result_unwrap_or}
use Rattle.units.specs.Told.{Told, gives, refuses}
use Rattle.read_walk.specs.declared.WalkError.{WalkError}
use Rattle.read_walk.specs.Walk.{push, counted, told}

-- the stack that the first places of the scratch hold, the last of them on top
unfoldable pub stack_of : List ℕ → ℕ → List ℕ
stack_of s zero = []
stack_of s (suc t) = get_or s t 0 ∷ stack_of s t

-- a link put on the stack that a scratch holds: the scratch and the height after, of those before
pub record Pushed (absent : List ℕ) (k : ℕ) (s : List ℕ) (top : ℕ) (after : List ℕ) (height-after : ℕ) : Type 0 where
  pub stack : stack_of after height-after ≡ push absent k (stack_of s top)
  pub height : height-after ≤ top + 1
  pub kept : length after ≡ length s

-- the places that an answer keeps of the list: those of the offsets listed; none after a refusal
abbrev pub kept_of : {E : Type 0} → Result ℕ E → ℕ
kept_of answer = result_unwrap_or answer 0

-- what a walk lists; nothing after a refusal
abbrev pub listed_of : Told (List ℕ) → List ℕ
listed_of (gives xs) = xs
listed_of (refuses k vs) = []

-- the answer is the walk's, and the places that it keeps hold what the walk lists
pub record Runs (walk : Told (List ℕ)) (answer : Result ℕ WalkError) (list : List ℕ) : Type 0 where
  pub is : told answer ≡ counted walk
  pub listed : take (kept_of answer) list ≡ listed_of walk
  pub within : kept_of answer ≤ length list
