-- The numbers that are a rule's: 1 and 2, and no other; and what is answered under a rule. Assumes nothing.
use Prim.Native.Nat.{ℕ}
use mathlib.Core.Path.{◌≡◌, refl}
use mathlib.Core.List.{List, []}
use mathlib.Core.Option.{some, none}
use borrow.Author.Tests.{ne_eqb}
use Rattle.units.specs.Told.{Told, refuses}
use Rattle.read_entry.specs.Links.{one_absent, walk_absent, absent_under, under_rule}

-- rule one and rule two
pub one : absent_under 1 ≡ some one_absent
unfolding absent_under
one = refl

pub two : absent_under 2 ≡ some walk_absent
unfolding absent_under
two = refl

-- computed of two others, and of all
zero : absent_under 0 ≡ none
unfolding absent_under
zero = refl

three : absent_under 3 ≡ none
unfolding absent_under
three = refl

pub no_rule : (rule : ℕ) → (rule ≡ 1 → ⊥) → (rule ≡ 2 → ⊥) → absent_under rule ≡ none
unfolding absent_under
no_rule rule a b = rw (ne_eqb rule 1 a, ne_eqb rule 2 b)

-- WHATEVER IS ANSWERED BY A SET of absent links: `answer rule` is the answer under the rule of a number, `by absent` that by a set
pub record ByRule {A : Type 0} (answer : ℕ → Told A) (by : List ℕ → Told A) : Type 0 where
  -- under the rule of a number that is a rule's
  pub under : (rule : ℕ) (absent : List ℕ) → absent_under rule ≡ some absent → answer rule ≡ by absent
  -- rule one takes 0 and 255 for absent, rule two what the walk does
  pub rule_one : answer 1 ≡ by one_absent
  pub rule_two : answer 2 ≡ by walk_absent
  -- 29 where no rule has the number
  pub bad_rule : (rule : ℕ) → (rule ≡ 1 → ⊥) → (rule ≡ 2 → ⊥) → answer rule ≡ refuses 29 []

pub by-rule : {A : Type 0} (by : List ℕ → Told A) → ByRule (λ rule. under_rule (absent_under rule) by) by
by-rule by = record {
  under = λ rule absent e. rw e;
  rule_one = rw one;
  rule_two = rw two;
  bad_rule = λ rule a b. rw (no_rule rule a b);
}
