-- The walk of a stack that gives a list, as a tree of its steps: the same for every list that is long enough. Assumes nothing.
use Prim.Native.Nat.{ℕ, zero, suc, ◌≤◌}
use mathlib.Core.Path.{◌≡◌, refl, sym, ap, subst, ◌∙◌}
use mathlib.Core.List.{List, [], ◌∷◌}
use mathlib.Core.Option.{Option, some, none}
use native.Mathlib.Omega.{arith}
use lib.ListN.{length}
use Rattle.units.specs.Told.{Told, gives, refuses}
use Rattle.read_entry.specs.declared.Placed.{Placed}
use Rattle.read_entry.specs.Links.{walk_absent}
use Rattle.read_walk.specs.Walk.{before, push, walk_from}
use Rattle.read_walk.proofs.Steps.{walk_none, walk_nothing, walk_refused, walk_full, walk_entry}

-- what a list with one before it gives
pub before-gives : (o : ℕ) (y : Told (List ℕ)) (xs : List ℕ) → before (o ∷ []) y ≡ gives xs → (ys : List ℕ) × (y ≡ gives ys) × (o ∷ ys ≡ xs)
before-gives o (gives ys) xs e = (ys, refl, (let z : o ∷ ys ≡ xs = cc in z))
before-gives o (refuses k vs) xs e = let z : ◌≡◌ {A = ℕ} 0 1 = cc in absurd (omega arith)

module _ (f : ℕ → Told (Option Placed)) where
  -- the walk of a stack lists xs
  pub data Way : List ℕ → List ℕ → Type 0 where
    ended : Way [] []
    passed : (o : ℕ) (stack xs : List ℕ) → f o ≡ gives none → Way stack xs → Way (o ∷ stack) xs
    listed : (o : ℕ) (stack xs : List ℕ) (x : Placed) → f o ≡ gives (some x) →
        Way (push walk_absent x.header.left.0 (push walk_absent x.header.right.0 stack)) xs → Way (o ∷ stack) (o ∷ xs)

  -- so it gives xs, whatever the room that is enough
  pub of_way : {stack xs : List ℕ} → Way stack xs → (room : ℕ) → length xs ≤ room → walk_from walk_absent f room stack ≡ gives xs
  of_way ended room h = walk_none walk_absent f room
  of_way (passed o stack xs e way) room h = walk_nothing walk_absent f o stack room e ∙ of_way way room h
  of_way (listed o stack xs x e way) zero h = absurd (omega arith)
  of_way (listed o stack xs x e way) (suc room) h = walk_entry walk_absent f o stack room x e ∙ ap (before (o ∷ [])) (of_way way room (omega arith))

  -- a walk that gives xs: its steps, and that they have room
  abbrev Walks : ℕ → List ℕ → List ℕ → Type 0
  Walks room stack xs = Way stack xs × (length xs ≤ room)

  given_none : (room : ℕ) (xs : List ℕ) → walk_from walk_absent f room [] ≡ gives xs → Walks room [] xs
  given_none room xs e =
      let z : [] ≡ xs = (let y : ◌≡◌ {A = Told (List ℕ)} (gives []) (gives xs) = sym (walk_none walk_absent f room) ∙ e in cc) in
      subst (Walks room []) z (ended, omega arith)

  module _ (o : ℕ) (stack xs : List ℕ) where
    given_refusal : (room k : ℕ) (vs : List ℕ) → f o ≡ refuses k vs → walk_from walk_absent f room (o ∷ stack) ≡ gives xs → ⊥
    given_refusal room k vs e g =
        let y : ◌≡◌ {A = Told (List ℕ)} (refuses k vs) (gives xs) = sym (walk_refused walk_absent f o stack room k vs e) ∙ g in
        let z : ◌≡◌ {A = ℕ} 0 1 = cc in omega arith

    given_full : (x : Placed) → f o ≡ gives (some x) → walk_from walk_absent f zero (o ∷ stack) ≡ gives xs → ⊥
    given_full x e g =
        let y : ◌≡◌ {A = Told (List ℕ)} (refuses 26 []) (gives xs) = sym (walk_full walk_absent f o stack x e) ∙ g in
        let z : ◌≡◌ {A = ℕ} 0 1 = cc in omega arith

    given_full_by : (r : Told (Option Placed)) → f o ≡ r → (walk_from walk_absent f zero stack ≡ gives xs → Walks zero stack xs) →
        walk_from walk_absent f zero (o ∷ stack) ≡ gives xs → Walks zero (o ∷ stack) xs
    given_full_by (gives (some x)) e down g = absurd (given_full x e g)
    given_full_by (gives none) e down g = let d : Walks zero stack xs = down (sym (walk_nothing walk_absent f o stack zero e) ∙ g) in (passed o stack xs e d.0, d.1)
    given_full_by (refuses k vs) e down g = absurd (given_refusal zero k vs e g)

    given_room_by : (room : ℕ) → ((st ys : List ℕ) → walk_from walk_absent f room st ≡ gives ys → Walks room st ys) →
        (r : Told (Option Placed)) → f o ≡ r → (walk_from walk_absent f (suc room) stack ≡ gives xs → Walks (suc room) stack xs) →
        walk_from walk_absent f (suc room) (o ∷ stack) ≡ gives xs → Walks (suc room) (o ∷ stack) xs
    given_room_by room less (gives (some x)) e down g =
        let st : List ℕ = push walk_absent x.header.left.0 (push walk_absent x.header.right.0 stack) in
        let b : (ys : List ℕ) × (walk_from walk_absent f room st ≡ gives ys) × (o ∷ ys ≡ xs) =
        before-gives o (walk_from walk_absent f room st) xs (sym (walk_entry walk_absent f o stack room x e) ∙ g) in
        let d : Walks room st b.0 = less st b.0 b.1 in
        subst (Walks (suc room) (o ∷ stack)) b.2 (listed o stack b.0 x e d.0, (let l : length b.0 ≤ room = d.1 in omega arith))
    given_room_by room less (gives none) e down g =
        let d : Walks (suc room) stack xs = down (sym (walk_nothing walk_absent f o stack (suc room) e) ∙ g) in (passed o stack xs e d.0, d.1)
    given_room_by room less (refuses k vs) e down g = absurd (given_refusal (suc room) k vs e g)

  full_way : (stack xs : List ℕ) → walk_from walk_absent f zero stack ≡ gives xs → Walks zero stack xs
  full_way [] xs g = given_none zero xs g
  full_way (o ∷ stack) xs g = given_full_by o stack xs (f o) refl (full_way stack xs) g

  room_way : (room : ℕ) → ((st ys : List ℕ) → walk_from walk_absent f room st ≡ gives ys → Walks room st ys) →
      (stack xs : List ℕ) → walk_from walk_absent f (suc room) stack ≡ gives xs → Walks (suc room) stack xs
  room_way room less [] xs g = given_none (suc room) xs g
  room_way room less (o ∷ stack) xs g = given_room_by o stack xs room less (f o) refl (room_way room less stack xs) g

  pub way_of : (room : ℕ) (stack xs : List ℕ) → walk_from walk_absent f room stack ≡ gives xs → Way stack xs × (length xs ≤ room)
  way_of zero stack xs g = full_way stack xs g
  way_of (suc room) stack xs g = room_way room (way_of room) stack xs g
