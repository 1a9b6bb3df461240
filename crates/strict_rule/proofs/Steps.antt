-- The check's definition, step by step: what `strict_from` is at an empty stack, and at a stack with a visit on top,
-- however the children are put on the stack. Assumes nothing.
use Prim.Native.Nat.{ℕ, zero, suc}
use mathlib.Core.Path.{◌≡◌, refl, sym, ap, ◌∙◌}
use mathlib.Core.Bool.{Bool, true, false}
use mathlib.Core.List.{List, [], ◌∷◌, ◌++◌}
use mathlib.Core.Option.{Option, some, none}
use native.Mathlib.Omega.{arith}
use lib.Dec.{eqb, eqb-suc-zero}
use Rattle.units.specs.Told.{Told, gives, refuses}
use Rattle.read_entry.specs.declared.Placed.{Placed}
use Rattle.read_entry.specs.Links.{is_in}
use Rattle.read_walk.specs.Walk.{before}
use Rattle.strict_rule.specs.Strict.{Visit, end_of, name_in, placed, ordered, judged, if_good, to_entry, verdict_at, strict_from}

-- no fault: none of the four tests finds one
pub record NoFault (shared full well right : Bool) : Type 0 where
  pub new : shared ≡ false
  pub room : full ≡ false
  pub in_place : well ≡ true
  pub in_order : right ≡ true

pub no_fault : (s full p q : Bool) (o : ℕ) → judged s full p q o ≡ gives tt → NoFault s full p q
no_fault true full p q o e = let z : ◌≡◌ {A = ℕ} 0 1 = cc in absurd (omega arith)
no_fault false true p q o e = let z : ◌≡◌ {A = ℕ} 0 1 = cc in absurd (omega arith)
no_fault false false true true o e = record { new = refl; room = refl; in_place = refl; in_order = refl }
no_fault false false true false o e = let z : ◌≡◌ {A = ℕ} 0 1 = cc in absurd (omega arith)
no_fault false false false q o e = let z : ◌≡◌ {A = ℕ} 0 1 = cc in absurd (omega arith)

module _ (w : List ℕ) (f : ℕ → Told (Option Placed)) (size : ℕ) (seen : List ℕ) where
  -- what a verdict of no fault says
  pub verdict_good : (full : Bool) (v : Visit) (x : Placed) → verdict_at w f size seen full v x ≡ gives tt →
      NoFault (is_in v.offset seen) full (placed f size v.offset (end_of x.header v.offset) seen) (ordered w f v (name_in w x))
  unfolding verdict_at
  verdict_good full v x e =
      no_fault (is_in v.offset seen) full (placed f size v.offset (end_of x.header v.offset) seen) (ordered w f v (name_in w x)) v.offset e

  pub good_verdict : (v : Visit) (x : Placed) → is_in v.offset seen ≡ false → placed f size v.offset (end_of x.header v.offset) seen ≡ true →
      ordered w f v (name_in w x) ≡ true → verdict_at w f size seen false v x ≡ gives tt
  unfolding verdict_at
  good_verdict v x a b c = rw (a, b, c)

module _ (below : Visit → Placed → List Visit → List Visit) (w : List ℕ) (f : ℕ → Told (Option Placed)) (size : ℕ) (seen : List ℕ) where
  pub check_none : (room : ℕ) → strict_from below w f size room seen [] ≡ gives []
  unfolding strict_from to_entry
  check_none zero = refl
  check_none (suc room) = refl

  module _ (v : Visit) (stack : List Visit) where
    pub check_nothing : (room : ℕ) → f v.offset ≡ gives none → strict_from below w f size room seen (v ∷ stack) ≡ strict_from below w f size room seen stack
    unfolding strict_from to_entry
    check_nothing zero e = rw e
    check_nothing (suc room) e = rw e

    pub check_refused : (room k : ℕ) (vs : List ℕ) → f v.offset ≡ refuses k vs → strict_from below w f size room seen (v ∷ stack) ≡ refuses k vs
    unfolding strict_from to_entry
    check_refused zero k vs e = rw e
    check_refused (suc room) k vs e = rw e

    module _ (x : Placed) (reads : f v.offset ≡ gives (some x)) where
      pub check_full : strict_from below w f size zero seen (v ∷ stack) ≡ if_good (verdict_at w f size seen true v x) (refuses 26 [])
      unfolding strict_from to_entry
      check_full = rw reads

      pub check_room : (room : ℕ) → strict_from below w f size (suc room) seen (v ∷ stack)
          ≡ if_good (verdict_at w f size seen false v x)
          (before (v.offset ∷ []) (strict_from below w f size room (seen ++ (v.offset ∷ [])) (below v x stack)))
      unfolding strict_from to_entry
      check_room room = rw reads

      -- the verdict put in for its name
      after : (room : ℕ) (u : Told (Unit {0})) → verdict_at w f size seen false v x ≡ u → strict_from below w f size (suc room) seen (v ∷ stack)
          ≡ if_good u (before (v.offset ∷ []) (strict_from below w f size room (seen ++ (v.offset ∷ [])) (below v x stack)))
      after room u e = check_room room
          ∙ ap (λ (a : Told (Unit {0})). if_good a (before (v.offset ∷ []) (strict_from below w f size room (seen ++ (v.offset ∷ [])) (below v x stack)))) e

      pub check_bad : (room k : ℕ) (vs : List ℕ) → verdict_at w f size seen (eqb room 0) v x ≡ refuses k vs → strict_from below w f size room seen (v ∷ stack) ≡ refuses k vs
      check_bad zero k vs e = check_full ∙ ap (λ (u : Told (Unit {0})). if_good u (refuses 26 [])) e
      check_bad (suc room) k vs e = after room (refuses k vs) (ap (λ (b : Bool). verdict_at w f size seen b v x) (sym (eqb-suc-zero room)) ∙ e)

      pub check_entry_lem : (room : ℕ) → verdict_at w f size seen false v x ≡ gives tt → strict_from below w f size (suc room) seen (v ∷ stack)
          ≡ before (v.offset ∷ []) (strict_from below w f size room (seen ++ (v.offset ∷ [])) (below v x stack))
      check_entry_lem room e = after room (gives tt) e
