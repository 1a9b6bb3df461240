-- `read_lookup::is_bad_sought` meets its contract: a name is bad exactly where `any` finds a byte above 127. Assumes nothing.
use Rattle.std.proofs.Common.{◌≡◌, ℕ, Bool, true, false, ltb, List, [], ◌∷◌, ◌||◌, refl, sym, ◌∙◌, rules, tests}
use Rattle.std.specs.List.{list_any}
use Rattle.std.proofs.lemmas.Iterator.{YieldsList-from_slice}
use Rattle.std.proofs.lemmas.Iterator.Search.{any_from_yields_List}
use Rattle.units.specs.Told.{pick}
use Rattle.name_role.specs.Roles.{bad_sought}
use Rattle.read_lookup.proofs.is_bad_sought.Goals as goal

by_test : (b p q : Bool) → p ≡ q → (b || p) ≡ pick b true q
by_test true p q e = refl
by_test false p q e = e

any_is_bad : (xs : List ℕ) → list_any (ltb 127) xs ≡ bad_sought xs
unfolding bad_sought
any_is_bad [] = refl
any_is_bad (x ∷ xs) = by_test (ltb 127 x) (list_any (ltb 127) xs) (bad_sought xs) (any_is_bad xs)

pub returns : goal.returns
returns c =
    any_from_yields_List (ltb 127) _ _ _ c.any.ensures.ran (YieldsList-from_slice c.args.s.now cc) (λ x b q k. search (rules, tests))
    ∙ any_is_bad c.args.s.now
