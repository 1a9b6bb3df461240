-- A flag kept over the bytes of a name says whether one is bad. Assumes nothing.
use Rattle.std.proofs.Common.{◌≡◌, refl, ◌∙◌, ℕ, Bool, true, false, ◌||◌, List, [], ◌∷◌, ltb, eqb}
use Rattle.std.specs.List.{fold}
use Rattle.units.specs.Told.{pick}
use Rattle.dirtab_entry.specs.Entry.{any_bad}

-- the flag after a byte more
abbrev pub either : Bool → ℕ → Bool
either bad x = (bad || eqb x 0) || ltb 127 x

either_either : (a b d e : Bool) → pick ((a || b) || d) true e ≡ pick a true (pick (pick b true d) true e)
either_either true b d e = refl
either_either false true d e = refl
either_either false false d e = refl

either_false : (b : Bool) → pick b true false ≡ b
either_false true = refl
either_false false = refl

kept : (s : List ℕ) (bad : Bool) → fold either bad s ≡ pick bad true (any_bad s)
unfolding any_bad
kept [] bad = search either_false
kept (x ∷ s) bad = kept s (either bad x) ∙ either_either bad (eqb x 0) (ltb 127 x) (any_bad s)

pub is_any_bad : (s : List ℕ) (r : Bool) → r ≡ fold either false s → r ≡ any_bad s
is_any_bad s r e = e ∙ kept s false
