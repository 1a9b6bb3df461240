-- The walk's definition, step by step: what `walk_from` is at an empty stack, and at a stack with an offset on top. Over every set of absent links.
-- Assumes nothing.
use Prim.Native.Nat.{ℕ, zero, suc}
use mathlib.Core.Path.{◌≡◌, refl, sym, ap}
use mathlib.Core.List.{List, [], ◌∷◌, ◌++◌, append_assoc}
use mathlib.Core.Option.{Option, some, none}
use Rattle.units.specs.Told.{Told, gives, refuses}
use Rattle.read_entry.specs.declared.Placed.{Placed}
use Rattle.read_walk.specs.Walk.{before, push, to_entry, walk_from}

pub before_none : (x : Told (List ℕ)) → before [] x ≡ x
before_none (gives xs) = refl
before_none (refuses k vs) = refl

pub before-before : (xs ys : List ℕ) (x : Told (List ℕ)) → before xs (before ys x) ≡ before (xs ++ ys) x
before-before xs ys (gives zs) = ap gives (sym (append_assoc xs ys zs))
before-before xs ys (refuses k vs) = refl

module _ (absent : List ℕ) (f : ℕ → Told (Option Placed)) where
  pub walk_none : (room : ℕ) → walk_from absent f room [] ≡ gives []
  unfolding walk_from to_entry
  walk_none zero = refl
  walk_none (suc room) = refl

  module _ (o : ℕ) (stack : List ℕ) where
    pub walk_nothing : (room : ℕ) → f o ≡ gives none → walk_from absent f room (o ∷ stack) ≡ walk_from absent f room stack
    unfolding walk_from to_entry
    walk_nothing zero e = rw e
    walk_nothing (suc room) e = rw e

    pub walk_refused : (room k : ℕ) (vs : List ℕ) → f o ≡ refuses k vs → walk_from absent f room (o ∷ stack) ≡ refuses k vs
    unfolding walk_from to_entry
    walk_refused zero k vs e = rw e
    walk_refused (suc room) k vs e = rw e

    pub walk_full : (x : Placed) → f o ≡ gives (some x) → walk_from absent f zero (o ∷ stack) ≡ refuses 26 []
    unfolding walk_from to_entry
    walk_full x e = rw e

    pub walk_entry : (room : ℕ) (x : Placed) → f o ≡ gives (some x) →
        walk_from absent f (suc room) (o ∷ stack)
        ≡ before (o ∷ []) (walk_from absent f room (push absent x.header.left.0 (push absent x.header.right.0 stack)))
    unfolding walk_from to_entry
    walk_entry room x e = rw e
