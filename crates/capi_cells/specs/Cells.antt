-- What a call leaves in the cells that are lent for the values of its answer. (The number that it returns is
-- `number_of` of the answer.) A cell for which the answer has no value is unchanged. Assumes nothing.
use Rattle.std.specs.Prelude.{ℕ, ◌+◌, min, List, [], ◌∷◌, length}
use Rattle.std.proofs.Math.Option.{Option, some, none}
use Rattle.units.specs.Told.{Told, gives, refuses, pick}
use Rattle.read_entry.specs.Links.{is_in}

-- for a part of what is given
abbrev pub of_given : {A B : Type 0} → (A → B) → Told A → B → B
of_given part (gives x) old = part x
of_given part (refuses k vs) old = old

-- the same where an answer may give nothing: and whether it gives something, as 1 or 0
abbrev pub of_some : {A B : Type 0} → (A → B) → Told (Option A) → B → B
of_some part (gives (some x)) old = part x
of_some part (gives none) old = old
of_some part (refuses k vs) old = old

abbrev pub is_some : {A : Type 0} → Option A → ℕ
is_some (some x) = 1
is_some none = 0

-- for the value that a refusal with one of these numbers carries
abbrev pub first_or : ℕ → List ℕ → ℕ
first_or old [] = old
first_or old (v ∷ vs) = v

abbrev pub of_refusal : {A : Type 0} → List ℕ → Told A → ℕ → ℕ
of_refusal numbers (gives x) old = old
of_refusal numbers (refuses k vs) old = pick (is_in k numbers) (first_or old vs) old

-- the refusals that carry the offset of an entry: those of the readers, and with them those of the strict check
abbrev pub at_offset : List ℕ
at_offset = 23 ∷ 24 ∷ []

abbrev pub at_fault : List ℕ
at_fault = 23 ∷ 24 ∷ 30 ∷ 31 ∷ 32 ∷ []

-- the refusal that carries the number of headers read
abbrev pub after_headers : List ℕ
after_headers = 22 ∷ []

-- where the name of an entry starts in a window, or the window's end
abbrev pub start_of_name : List ℕ → ℕ → ℕ
start_of_name w place = min (place + 14) (length w)
