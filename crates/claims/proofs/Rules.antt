-- The two rules of a lookup and of a path: cited. Assumes nothing.
use Prim.Native.Nat.{ℕ}
use native.Mathlib.Omega.{arith}
use mathlib.Core.Path.{◌≡◌, sym, ap, ◌∙◌}
use mathlib.Core.Logic.{inl, inr}
use mathlib.Core.List.{List, [], ◌∷◌}
use Rattle.units.specs.Told.{Told, refuses}
use Rattle.read_entry.specs.Links.{one_absent, walk_absent}
use Rattle.read_entry.proofs.Rules.{ByRule}
use Rattle.read_lookup.proofs.Rules.{lookup_by_rule}
use Rattle.read_lookup.proofs.Numbers.{OfLookup, lookup_refuses}
use Rattle.read_lookup.proofs.Cases.{first, of_size}
use Rattle.lookup_way.proofs.Cases.{at_262140, found_at_262140, lost_at_262140}
use Rattle.read_path.proofs.Rules.{path_by_rule}
use Rattle.read_path.proofs.Numbers.{OfPath, path-refuses}
use Rattle.claims.specs.Rules.{RulesOf, Rules}

-- neither a lookup nor a path by links answers 29
not_of_lookup : OfLookup 29 → ⊥
not_of_lookup (inl e) = omega arith
not_of_lookup (inr e) = omega (arith, e.1)

not_of_path : OfPath 29 → ⊥
not_of_path (inl e) = omega arith
not_of_path (inr e) = omega (arith, e.1)

-- so of a number that is a rule's the answer is not 29
rules_of : {A : Type 0} (under : ℕ → Told A) (by : List ℕ → Told A) → ByRule under by → ((absent vs : List ℕ) → by absent ≡ refuses 29 vs → ⊥) → RulesOf under by
rules_of under by r never = record {
  one = r.rule_one;
  two = r.rule_two;
  other = r.bad_rule;
  no_other = λ rule vs e. (
    (λ q. never one_absent vs (sym (ap under q ∙ r.rule_one) ∙ e)),
    (λ q. never walk_absent vs (sym (ap under q ∙ r.rule_two) ∙ e)),
  );
}

pub rules : Rules
rules = record {
  lookups = λ w first t name.
      rules_of _ _ (lookup_by_rule w first t name) (λ absent vs e. not_of_lookup (lookup_refuses absent w first t name 29 vs e));
  paths = λ w first t p.
      rules_of _ _ (path_by_rule w first t p) (λ absent vs e. not_of_path (path-refuses absent w first t p 29 vs e));
  one_alone = record { window = at_262140; first = first; table = of_size 262141; name = 97 ∷ []; found = _; under_one = found_at_262140; under_two = lost_at_262140 };
}
