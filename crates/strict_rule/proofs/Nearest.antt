-- THE NEAREST BOUNDS SUFFICE: by them the check gives the same answer as by those of all entries above, refusals and
-- their offsets included. Assumes nothing.
-- Each entry above a place was within the bounds above it when it was listed, so that a name within the nearest bound
-- of a side is within all of that side.
use Prim.Native.Nat.{ℕ, zero, suc, ◌*◌}
use mathlib.Core.Path.{◌≡◌, refl, sym, ap, ap₂, ◌∙◌}
use mathlib.Core.Bool.{Bool, true, false, ◌&&◌}
use mathlib.Core.List.{List, [], ◌∷◌, ◌++◌, map}
use mathlib.Core.Option.{Option, some, none}
use native.Mathlib.Omega.{arith}
use lib.ListN.{take}
use lib.Seq.{take-take}
use Rattle.units.specs.Told.{Told, gives, refuses, pick}
use Rattle.name_role.proofs.Roles.{stored_trans}
use Rattle.read_entry.specs.declared.Placed.{Placed}
use Rattle.read_entry.specs.Links.{is_in, walk_absent}
use Rattle.read_walk.specs.Walk.{before}
use Rattle.strict_rule.specs.Strict.{Visit, visit_left, visit_right, root, push, entered, end_of, name_in, name_by, placed, is_less, is_under, is_over, every, ordered, judged, if_good, by_read, to_entry, verdict_at, strict_from}
use Rattle.strict_rule.specs.inner.Nearest.{nearest, entered_nearest}
use Rattle.strict_rule.proofs.Bounds.{is_less_says, under_says, over_says, every_more, order_says}
use Rattle.strict_rule.proofs.Steps.{verdict_good}

-- a further test that the first one implies says nothing more
implied : (a b : Bool) → (a ≡ true → b ≡ true) → (a && true) ≡ (a && b)
implied true b h = sym (h refl)
implied false b h = refl

-- two answers that are the same after a good verdict
if_good_lem : (u : Told (Unit {0})) (x y : Told (List ℕ)) → (u ≡ gives tt → x ≡ y) → if_good u x ≡ if_good u y
if_good_lem (gives u) x y h = h refl
if_good_lem (refuses k vs) x y h = refl

by_read_lem : (r : Told (Option Placed)) (enter into : Placed → Told (List ℕ)) (x y : Told (List ℕ))
    → ((z : Placed) → r ≡ gives (some z) → enter z ≡ into z) → x ≡ y → by_read r enter x ≡ by_read r into y
by_read_lem (gives (some z)) enter into x y h e = h z refl
by_read_lem (gives none) enter into x y h e = e
by_read_lem (refuses k vs) enter into x y h e = refl

-- the stack, with the nearest bounds alone
nearest_pushed : (k : ℕ) (v : Visit) (stack : List Visit) → push k (nearest v) (map nearest stack) ≡ map nearest (push k v stack)
unfolding push
nearest_pushed k v stack = by (is_in k walk_absent)
  where
    by : (b : Bool) → pick b (map nearest stack) (nearest v ∷ map nearest stack) ≡ map nearest (pick b stack (v ∷ stack))
    by true = refl
    by false = refl

nearest-entered : (v : Visit) (x : Placed) (stack : List Visit) → entered_nearest (nearest v) x (map nearest stack) ≡ map nearest (entered v x stack)
nearest-entered v x stack =
    let l : ℕ = x.header.left.0 in
    let r : ℕ = x.header.right.0 in
    let left : nearest (visit_left l (nearest v)) ≡ nearest (visit_left l v) =
    ap (λ (os : List ℕ). record { offset = 4 * l; under = v.offset ∷ []; over = os }) (take-take 1 1 v.over (omega arith)) in
    let right : nearest (visit_right r (nearest v)) ≡ nearest (visit_right r v) =
    ap (λ (os : List ℕ). record { offset = 4 * r; under = os; over = v.offset ∷ [] }) (take-take 1 1 v.under (omega arith)) in
    ap₂ (λ (a b : Visit). push l a (push r b (map nearest stack))) left right
    ∙ ap (push l (nearest (visit_left l v))) (nearest_pushed r (visit_right r v) stack)
    ∙ nearest_pushed l (visit_left l v) (push r (visit_right r v) stack)

module _ (w : List ℕ) (f : ℕ → Told (Option Placed)) (size : ℕ) where
  -- of a visit's bounds on each side the nearest says of every name what all of them say
  record Tight (v : Visit) : Type 0 where
    under : (name : List ℕ) → every (is_under w f name) (take 1 v.under) ≡ every (is_under w f name) v.under
    over : (name : List ℕ) → every (is_over w f name) (take 1 v.over) ≡ every (is_over w f name) v.over

  abbrev AllTight : List Visit → Type 0
  AllTight [] = Unit {0}
  AllTight (v ∷ stack) = Tight v × AllTight stack

  same_verdict : (v : Visit) → Tight v → (seen : List ℕ) (full : Bool) (x : Placed) → verdict_at w f size seen full (nearest v) x ≡ verdict_at w f size seen full v x
  unfolding verdict_at ordered
  same_verdict v g seen full x =
      ap (λ (right : Bool). judged (is_in v.offset seen) full (placed f size v.offset (end_of x.header v.offset) seen) right v.offset)
      (ap₂ ◌&&◌ (g.under (name_in w x)) (g.over (name_in w x)))

  -- at an entry x that is itself as its visit asks
  module _ (v : Visit) (g : Tight v) (x : Placed) (there : f v.offset ≡ gives (some x)) (within : ordered w f v (name_in w x) ≡ true) where
    -- a name less than the entry's is less than those that the entry's is less than; and greater
    under_all : (name : List ℕ) → is_under w f name v.offset ≡ true → every (is_under w f name) v.under ≡ true
    under_all name h = every_more (is_under w f (name_in w x)) (is_under w f name) v.under
        (λ o e. ap is_less (stored_trans name (name_in w x) (name_by w (f o)) (under_says w f v.offset x there name h) (is_less_says _ e)))
        (order_says w f v (name_in w x) within).0

    over_all : (name : List ℕ) → is_over w f name v.offset ≡ true → every (is_over w f name) v.over ≡ true
    over_all name h = every_more (is_over w f (name_in w x)) (is_over w f name) v.over
        (λ o e. ap is_less (stored_trans (name_by w (f o)) (name_in w x) name (is_less_says _ e) (over_says w f v.offset x there name h)))
        (order_says w f v (name_in w x) within).1

    left_tight : (k : ℕ) → Tight (visit_left k v)
    unfolding every
    left_tight k = record {
      under = λ name. implied (is_under w f name v.offset) (every (is_under w f name) v.under) (under_all name);
      over = g.over;
    }

    right_tight : (k : ℕ) → Tight (visit_right k v)
    unfolding every
    right_tight k = record {
      under = g.under;
      over = λ name. implied (is_over w f name v.offset) (every (is_over w f name) v.over) (over_all name);
    }

  push_tight : (k : ℕ) (v : Visit) (stack : List Visit) → Tight v → AllTight stack → AllTight (push k v stack)
  unfolding push
  push_tight k v stack g h = by (is_in k walk_absent)
    where
      by : (b : Bool) → AllTight (pick b stack (v ∷ stack))
      by true = h
      by false = (g, h)

  entered_tight : (v : Visit) (x : Placed) (stack : List Visit) → Tight v → AllTight stack → f v.offset ≡ gives (some x) → ordered w f v (name_in w x) ≡ true
      → AllTight (entered v x stack)
  entered_tight v x stack g h there within =
      push_tight _ _ _ (left_tight v g x there within _) (push_tight _ _ stack (right_tight v g x there within _) h)

  -- down both stacks to the next entry
  same_to_entry : (enter into : Visit → Placed → List Visit → Told (List ℕ))
      → ((v : Visit) (x : Placed) (stack : List Visit) → Tight v → AllTight stack → f v.offset ≡ gives (some x) → enter (nearest v) x (map nearest stack) ≡ into v x stack)
      → (stack : List Visit) → AllTight stack → to_entry f enter (map nearest stack) ≡ to_entry f into stack
  unfolding to_entry
  same_to_entry enter into same [] h = refl
  same_to_entry enter into same (v ∷ stack) h =
      by_read_lem (f v.offset) _ _ _ _ (λ x e. same v x stack h.0 h.1 e) (same_to_entry enter into same stack h.1)

  same_check : (room : ℕ) (seen : List ℕ) (stack : List Visit) → AllTight stack
      → strict_from entered_nearest w f size room seen (map nearest stack) ≡ strict_from entered w f size room seen stack
  unfolding strict_from
  same_check zero seen = same_to_entry _ _ (λ v x stack g h e. ap (λ (u : Told (Unit {0})). if_good u (refuses 26 [])) (same_verdict v g seen true x))
  same_check (suc room) seen = same_to_entry _ _ (λ v x stack g h e.
      let o : ℕ = v.offset in
      let sn : List ℕ = seen ++ (o ∷ []) in
      ap (λ (u : Told (Unit {0})). if_good u (before (o ∷ []) (strict_from entered_nearest w f size room sn (entered_nearest (nearest v) x (map nearest stack))))) (same_verdict v g seen false x)
      ∙ if_good_lem (verdict_at w f size seen false v x) _ _ (λ good.
      ap (λ (st : List Visit). before (o ∷ []) (strict_from entered_nearest w f size room sn st)) (nearest-entered v x stack)
      ∙ ap (before (o ∷ [])) (same_check room sn (entered v x stack) (entered_tight v x stack g h e (verdict_good w f size seen false v x good).in_order))))

-- THE CHECK BY THE NEAREST BOUNDS IS THE CHECK BY ALL, from the root, whatever is read
pub nearest_suffice : (w : List ℕ) (f : ℕ → Told (Option Placed)) (size room : ℕ)
    → strict_from entered_nearest w f size room [] (root ∷ []) ≡ strict_from entered w f size room [] (root ∷ [])
nearest_suffice w f size room = same_check w f size room [] (root ∷ []) (record { under = λ name. refl; over = λ name. refl }, tt)
