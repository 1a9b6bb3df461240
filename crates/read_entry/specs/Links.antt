-- Which links are absent. The walk has one set, and a lookup one of two, by its rule: a link of 255 is absent under
-- rule one, a link of 65,535 under rule two and for the walk, 0 for all. What is said of links is said over a set, and
-- an answer under a rule is the answer by its set. Assumes nothing.
use Rattle.std.specs.Prelude.{ℕ, ◌*◌, Bool, true, false, List, [], ◌∷◌, eqb, Some, None, Option as Maybe}
use Rattle.std.proofs.Math.Option.{Option, some, none}
use Rattle.units.specs.Told.{Told, refuses, pick}
use Rattle.units.specs.declared.Offset.{Offset}

-- a number is in a set
unfoldable pub is_in : ℕ → List ℕ → Bool
is_in k [] = false
is_in k (x ∷ xs) = pick (eqb k x) true (is_in k xs)

-- the links that are absent under a lookup's rule one, and those that are for the walk
abbrev pub one_absent : List ℕ
one_absent = 0 ∷ 255 ∷ []

abbrev pub walk_absent : List ℕ
walk_absent = 0 ∷ 65535 ∷ []

-- the links that are absent under the rule of a number: 1 is rule one, 2 is rule two, which has the walk's set, and no
-- other number is a rule's
unfoldable pub absent_under : ℕ → Option (List ℕ)
absent_under rule = pick (eqb rule 1) (some one_absent) (pick (eqb rule 2) (some walk_absent) none)

-- an answer with the links that are absent under a rule, or 29 where there is no such rule
abbrev pub under_rule : {A : Type 0} → Option (List ℕ) → (List ℕ → Told A) → Told A
under_rule (some absent) next = next absent
under_rule none next = refuses 29 []

-- where a link leads: an absent one nowhere, any other to its offset, four times the link
unfoldable pub offset_by : List ℕ → ℕ → Option ℕ
offset_by absent k = pick (is_in k absent) none (some (4 * k))

-- what following a link answers
abbrev pub followed : Maybe Offset → Option ℕ
followed (Some o) = some o.0
followed None = none
