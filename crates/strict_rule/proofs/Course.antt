-- A check that gives a list, as a tree of its steps: the same for every list that is long enough; and the walk takes
-- the same steps. Assumes nothing.
use Prim.Native.Nat.{ℕ, zero, suc, ◌*◌, ◌≤◌}
use mathlib.Core.Path.{◌≡◌, refl, sym, ap, subst, ◌∙◌}
use mathlib.Core.Bool.{Bool, true, false}
use mathlib.Core.List.{List, [], ◌∷◌, ◌++◌, map}
use mathlib.Core.Option.{Option, some, none}
use native.Mathlib.Omega.{arith}
use lib.ListN.{length}
use Rattle.units.specs.Told.{Told, gives, refuses, pick}
use Rattle.read_entry.specs.declared.Placed.{Placed}
use Rattle.read_entry.specs.Links.{is_in, walk_absent}
use Rattle.read_walk.specs.Walk.{before}
use Rattle.read_walk.specs.Walk as walk
use Rattle.strict_rule.specs.Strict.{Visit, visit_left, visit_right, push, entered, end_of, name_in, placed, ordered, if_good, verdict_at, strict_from}
use Rattle.strict_rule.proofs.Steps.{NoFault, verdict_good, good_verdict, check_none, check_nothing, check_refused, check_full, check_room, check_entry_lem}
use Rattle.strict_rule.proofs.Way.{before-gives, Way, ended, passed, listed}

-- a verdict of no fault, and what follows
if_good_lem : (u : Told (Unit {0})) (y : Told (List ℕ)) (xs : List ℕ) → if_good u y ≡ gives xs → (u ≡ gives tt) × (y ≡ gives xs)
if_good_lem (gives u) y xs e = (refl, e)
if_good_lem (refuses k vs) y xs e = let z : ◌≡◌ {A = ℕ} 0 1 = cc in absurd (omega arith)

module _ (w : List ℕ) (f : ℕ → Told (Option Placed)) (size : ℕ) where
  -- the tests of an entry x at a visit v find no fault, after those seen
  abbrev pub Sound : List ℕ → Visit → Placed → Type 0
  Sound seen v x = NoFault (is_in v.offset seen) false (placed f size v.offset (end_of x.header v.offset) seen) (ordered w f v (name_in w x))

  -- the check of a stack, after those seen, lists xs
  pub data Course : List ℕ → List Visit → List ℕ → Type 0 where
    over : (seen : List ℕ) → Course seen [] []
    skipped : (seen : List ℕ) (v : Visit) (stack : List Visit) (xs : List ℕ) → f v.offset ≡ gives none → Course seen stack xs → Course seen (v ∷ stack) xs
    taken : (seen : List ℕ) (v : Visit) (stack : List Visit) (xs : List ℕ) (x : Placed) → f v.offset ≡ gives (some x) → Sound seen v x →
        Course (seen ++ (v.offset ∷ [])) (entered v x stack) xs → Course seen (v ∷ stack) (v.offset ∷ xs)

  sound_verdict : (seen : List ℕ) (v : Visit) (x : Placed) → Sound seen v x → verdict_at w f size seen false v x ≡ gives tt
  sound_verdict seen v x s = good_verdict w f size seen v x s.new s.in_place s.in_order

  pub of_course : {seen : List ℕ} {stack : List Visit} {xs : List ℕ} → Course seen stack xs → (room : ℕ) → length xs ≤ room → strict_from entered w f size room seen stack ≡ gives xs
  of_course (over seen) room h = check_none entered w f size seen room
  of_course (skipped seen v stack xs e c) room h = check_nothing entered w f size seen v stack room e ∙ of_course c room h
  of_course (taken seen v stack xs x e s c) zero h = absurd (omega arith)
  of_course (taken seen v stack xs x e s c) (suc room) h =
      check_entry_lem entered w f size seen v stack x e room (sound_verdict seen v x s) ∙ ap (before (v.offset ∷ [])) (of_course c room (omega arith))

  abbrev Checks : ℕ → List ℕ → List Visit → List ℕ → Type 0
  Checks room seen stack xs = Course seen stack xs × (length xs ≤ room)

  given_none : (room : ℕ) (seen xs : List ℕ) → strict_from entered w f size room seen [] ≡ gives xs → Checks room seen [] xs
  given_none room seen xs e =
      let z : [] ≡ xs = (let y : ◌≡◌ {A = Told (List ℕ)} (gives []) (gives xs) = sym (check_none entered w f size seen room) ∙ e in cc) in
      subst (Checks room seen []) z (over seen, omega arith)

  module _ (seen : List ℕ) (v : Visit) (stack : List Visit) (xs : List ℕ) where
    given_refusal : (room k : ℕ) (vs : List ℕ) → f v.offset ≡ refuses k vs → strict_from entered w f size room seen (v ∷ stack) ≡ gives xs → ⊥
    given_refusal room k vs e g =
        let y : ◌≡◌ {A = Told (List ℕ)} (refuses k vs) (gives xs) = sym (check_refused entered w f size seen v stack room k vs e) ∙ g in
        let z : ◌≡◌ {A = ℕ} 0 1 = cc in omega arith

    given_full : (x : Placed) → f v.offset ≡ gives (some x) → strict_from entered w f size zero seen (v ∷ stack) ≡ gives xs → ⊥
    given_full x e g =
        let y : ◌≡◌ {A = Told (List ℕ)} (refuses 26 []) (gives xs) = (if_good_lem (verdict_at w f size seen true v x) (refuses 26 []) xs (sym (check_full entered w f size seen v stack x e) ∙ g)).1 in
        let z : ◌≡◌ {A = ℕ} 0 1 = cc in omega arith

    given_nothing : (room : ℕ) → f v.offset ≡ gives none → (strict_from entered w f size room seen stack ≡ gives xs → Checks room seen stack xs) →
        strict_from entered w f size room seen (v ∷ stack) ≡ gives xs → Checks room seen (v ∷ stack) xs
    given_nothing room e down g =
        let d : Checks room seen stack xs = down (sym (check_nothing entered w f size seen v stack room e) ∙ g) in
        (skipped seen v stack xs e d.0, d.1)

    given_full_by : (r : Told (Option Placed)) → f v.offset ≡ r → (strict_from entered w f size zero seen stack ≡ gives xs → Checks zero seen stack xs) →
        strict_from entered w f size zero seen (v ∷ stack) ≡ gives xs → Checks zero seen (v ∷ stack) xs
    given_full_by (gives (some x)) e down g = absurd (given_full x e g)
    given_full_by (gives none) e down g = given_nothing zero e down g
    given_full_by (refuses k vs) e down g = absurd (given_refusal zero k vs e g)

    given_room_by : (room : ℕ) → ((sn : List ℕ) (st : List Visit) (ys : List ℕ) → strict_from entered w f size room sn st ≡ gives ys → Checks room sn st ys) →
        (r : Told (Option Placed)) → f v.offset ≡ r → (strict_from entered w f size (suc room) seen stack ≡ gives xs → Checks (suc room) seen stack xs) →
        strict_from entered w f size (suc room) seen (v ∷ stack) ≡ gives xs → Checks (suc room) seen (v ∷ stack) xs
    given_room_by room less (gives (some x)) e down g =
        let sn : List ℕ = seen ++ (v.offset ∷ []) in
        let st : List Visit = entered v x stack in
        let u : (verdict_at w f size seen false v x ≡ gives tt) × (before (v.offset ∷ []) (strict_from entered w f size room sn st) ≡ gives xs) =
        if_good_lem (verdict_at w f size seen false v x) (before (v.offset ∷ []) (strict_from entered w f size room sn st)) xs (sym (check_room entered w f size seen v stack x e room) ∙ g) in
        let b : (ys : List ℕ) × (strict_from entered w f size room sn st ≡ gives ys) × (v.offset ∷ ys ≡ xs) = before-gives v.offset (strict_from entered w f size room sn st) xs u.1 in
        let d : Checks room sn st b.0 = less sn st b.0 b.1 in
        subst (Checks (suc room) seen (v ∷ stack)) b.2
        (taken seen v stack b.0 x e (verdict_good w f size seen false v x u.0) d.0, (let l : length b.0 ≤ room = d.1 in omega arith))
    given_room_by room less (gives none) e down g = given_nothing (suc room) e down g
    given_room_by room less (refuses k vs) e down g = absurd (given_refusal (suc room) k vs e g)

  full_course : (seen : List ℕ) (stack : List Visit) (xs : List ℕ) → strict_from entered w f size zero seen stack ≡ gives xs → Checks zero seen stack xs
  full_course seen [] xs g = given_none zero seen xs g
  full_course seen (v ∷ stack) xs g = given_full_by seen v stack xs (f v.offset) refl (full_course seen stack xs) g

  room_course : (room : ℕ) → ((sn : List ℕ) (st : List Visit) (ys : List ℕ) → strict_from entered w f size room sn st ≡ gives ys → Checks room sn st ys) →
      (seen : List ℕ) (stack : List Visit) (xs : List ℕ) → strict_from entered w f size (suc room) seen stack ≡ gives xs → Checks (suc room) seen stack xs
  room_course room less seen [] xs g = given_none (suc room) seen xs g
  room_course room less seen (v ∷ stack) xs g = given_room_by seen v stack xs room less (f v.offset) refl (room_course room less seen stack xs) g

  pub course_of : (room : ℕ) (seen : List ℕ) (stack : List Visit) (xs : List ℕ) → strict_from entered w f size room seen stack ≡ gives xs → Course seen stack xs × (length xs ≤ room)
  course_of zero seen stack xs g = full_course seen stack xs g
  course_of (suc room) seen stack xs g = room_course room (course_of room) seen stack xs g

  -- the offsets of a stack of visits
  abbrev pub offsets : List Visit → List ℕ
  offsets = map (λ (v : Visit). v.offset)

  picked : (b : Bool) (v : Visit) (k : ℕ) (stack : List Visit) → v.offset ≡ 4 * k → offsets (pick b stack (v ∷ stack)) ≡ pick b (offsets stack) (4 * k ∷ offsets stack)
  picked true v k stack e = refl
  picked false v k stack e = ap (λ (o : ℕ). o ∷ offsets stack) e

  pushed : (k : ℕ) (v : Visit) (stack : List Visit) → v.offset ≡ 4 * k → offsets (push k v stack) ≡ walk.push walk_absent k (offsets stack)
  unfolding push walk.push
  pushed k v stack e = picked (is_in k walk_absent) v k stack e

  pub same_stack : (v : Visit) (x : Placed) (stack : List Visit) →
      offsets (entered v x stack) ≡ walk.push walk_absent x.header.left.0 (walk.push walk_absent x.header.right.0 (offsets stack))
  same_stack v x stack =
      pushed x.header.left.0 (visit_left x.header.left.0 v) (push x.header.right.0 (visit_right x.header.right.0 v) stack) refl
      ∙ ap (walk.push walk_absent x.header.left.0) (pushed x.header.right.0 (visit_right x.header.right.0 v) stack refl)

  -- the walk takes the same steps
  pub course_way : {seen : List ℕ} {stack : List Visit} {xs : List ℕ} → Course seen stack xs → Way f (offsets stack) xs
  course_way (over seen) = ended
  course_way (skipped seen v stack xs e c) = passed v.offset (offsets stack) xs e (course_way c)
  course_way (taken seen v stack xs x e s c) = listed v.offset (offsets stack) xs x e (subst (λ (st : List ℕ). Way f st xs) (same_stack v x stack) (course_way c))
