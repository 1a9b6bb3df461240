-- What the number of a rule names.
use Rattle.std.specs.Prelude.{ℕ, List, [], ◌∷◌, Result, Ok, Err}
use Rattle.std.proofs.Math.Option.{Option, some, none}
use Rattle.read_lookup.specs.declared.Rule.{Rule}
use Rattle.read_lookup.specs.declared.Rule.TheVariants.{One, Two}
use Rattle.read_lookup.specs.declared.BadRule.{BadRule}

-- the link that is absent under a rule, beside 0
abbrev pub absent_link : Rule → ℕ
absent_link One = 255
absent_link Two = 65535

-- what each answer for the number of a rule stands for: its absent links, 0 and another
abbrev pub ruling : Result Rule BadRule → Option (List ℕ)
ruling (Ok rule) = some (0 ∷ absent_link rule ∷ [])
ruling (Err e) = none
