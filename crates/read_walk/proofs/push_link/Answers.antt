-- `read_walk::push_link` meets its contract: a store at the stack's height leaves the stack below it, and puts the offset on top. Assumes nothing.
use Prim.Native.Nat.{ℕ, ◌+◌, ◌*◌, ◌<◌}
use mathlib.Core.Path.{◌≡◌, refl, sym, ap, ◌∙◌}
use mathlib.Core.List.{List}
use mathlib.Core.Logic.{◌⊎◌, inl, inr}
use native.Mathlib.Omega.{arith}
use borrow.Author.Tests.{eq-eqb, ne_eqb}
use lib.ListN.{length, set, length-set}
use Rattle.units.specs.declared.Link.{Link}
use Rattle.units.specs.declared.Offset.{Offset}
use Rattle.read_entry.specs.Links.{is_in, walk_absent}
use Rattle.read_walk.specs.Walk.{push}
use Rattle.read_walk.specs.inner.Run.{Pushed}
use Rattle.read_walk.proofs.Stack.{stack_push}
use Rattle.read_walk.proofs.push_link.Goals as goal

module _ (s : List ℕ) (top k : ℕ) (l : Link) (k-is : k ≡ l.0) where
  zero_link : k ≡ 0 → Pushed walk_absent l.0 s top s top
  unfolding push is_in
  zero_link e = record { stack = rw (← k-is, eq-eqb _ _ e); height = omega arith; kept = refl }

  module _ (not_zero : k ≡ 0 → ⊥) where
    ones_link : k ≡ 65535 → Pushed walk_absent l.0 s top s top
    unfolding push is_in
    ones_link e = record { stack = rw (← k-is, ne_eqb _ _ not_zero, eq-eqb _ _ e); height = omega arith; kept = refl }

    link : top < length s → (k ≡ 65535 → ⊥) → (p : Offset) (o : ℕ) → p.0 ≡ 4 * l.0 → o ≡ p.0 → (r : ℕ) → r ≡ top + 1 → Pushed walk_absent l.0 s top (set s top o) r
    unfolding push is_in
    link h m p o e f r d = record {
      stack = let at : o ≡ 4 * k = f ∙ e ∙ ap (λ (n : ℕ). 4 * n) (sym k-is) in rw (← k-is, ne_eqb _ _ not_zero, ne_eqb _ _ m, d, ← at) (stack_push s top o h);
      height = omega arith;
      kept = length-set s top o;
    }

  pub absent_link : (k ≡ 0) ⊎ ((k ≡ 0 → ⊥) × (k ≡ 65535)) → Pushed walk_absent l.0 s top s top
  absent_link (inl e) = zero_link e
  absent_link (inr e) = ones_link e.0 e.1

pub returns-then-n-eq0 : goal.returns-then-n-eq0
returns-then-n-eq0 c = absent_link _ _ _ _ c.number-n.ensures c.then-n-eq0.either

pub returns : goal.returns
returns c = search link
