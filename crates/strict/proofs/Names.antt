-- Names and their order, as the code has them. Assumes nothing.
use Prim.Native.Nat.{ℕ, ◌*◌, ◌/◌, ◌%◌}
use mathlib.Core.Path.{◌≡◌, refl, ap, ◌∙◌}
use mathlib.Core.Bool.{Bool, true, false, ◌&&◌}
use mathlib.Core.List.{List}
use borrow.Author.Tests.{eq-eqb, ne_eqb}
use Rattle.units.specs.declared.Region.{Region}
use Rattle.units.specs.declared.Sector.{Sector}
use Rattle.std.specs.declared.cmp.Ordering.{Ordering}
use Rattle.std.specs.declared.cmp.Ordering.TheVariants.{Less, Equal, Greater}
use Rattle.std.specs.Ordering.{is_lt}
use Rattle.name_role.specs.Roles.{stored_order}
use Rattle.name_role.proofs.Roles.{Compared, stored_compared}
use Rattle.read_entry.specs.Entry.{read_at}
use Rattle.strict_rule.specs.Strict.{name_by, is_less, is_under, is_over, every, ordered}
use Rattle.strict.specs.inner.Run.{bound_of, visit_of}

-- whether an order is less, in the library's word and in this repository's
same_test : (r : Ordering) → is_lt r ≡ is_less r
same_test Less = refl
same_test Equal = refl
same_test Greater = refl

-- what comparing two stored names tells: the order r, and whether it is less
told_less : (a b : List ℕ) (r : Ordering) → Compared r a b → (t : Bool) → t ≡ is_lt r → t ≡ is_less (stored_order a b)
told_less a b r compared t e = e ∙ same_test r ∙ ap is_less (stored_compared a b compared)

-- a test at one offset alone
alone : (b : Bool) → b ≡ (b && true)
alone true = refl
alone false = refl

-- a name, against those of the bounds of a visit
module _ (w : List ℕ) (first : Sector) (t : Region) (name : List ℕ) where
  abbrev Under : ℕ → Bool → Type 0
  Under k r = r ≡ every (is_under w (read_at w first t) name) (bound_of k)

  abbrev Over : ℕ → Bool → Type 0
  Over k r = r ≡ every (is_over w (read_at w first t) name) (bound_of k)

  module _ (k : ℕ) where
    pub no_under : k ≡ 65535 → Under k true
    unfolding every
    no_under e = rw (eq-eqb _ _ e)

    pub no_over : k ≡ 65535 → Over k true
    unfolding every
    no_over e = rw (eq-eqb _ _ e)

    -- the other name, r the order that is told and b whether it is less
    module _ (other : List ℕ) (is-other : (k ≡ 65535 → ⊥) × (other ≡ name_by w (read_at w first t (4 * k)))) (r : Ordering) (b : Bool) (is-b : b ≡ is_lt r) where
      pub under_is : Compared r name other → Under k b
      unfolding every
      under_is compared = rw (ne_eqb _ _ is-other.0, ← is-other.1) (told_less name other r compared b is-b ∙ alone (is_less (stored_order name other)))

      pub over_is : Compared r other name → Over k b
      unfolding every
      over_is compared = rw (ne_eqb _ _ is-other.0, ← is-other.1) (told_less other name r compared b is-b ∙ alone (is_less (stored_order other name)))

  -- both bounds of the visit
  module _ (c under : ℕ) (is_under_lem : under ≡ c / 65536 % 65536) where
    abbrev Asked : Bool → Type 0
    Asked r = r ≡ ordered w (read_at w first t) (visit_of c) name

    pub not_under : Under under false → Asked false
    unfolding ordered
    not_under u = rw (← is_under_lem, ← u)

    pub both_bounds : Under under true → (over : ℕ) → over ≡ c / 4294967296 % 65536 → (r : Bool) → Over over r → Asked r
    unfolding ordered
    both_bounds u over e r o = rw (← is_under_lem, ← e, ← u) o
