-- One turn of the walk's loop, over plain lists and numbers: each way out of it, and each way round. Assumes nothing.
use Prim.Native.Nat.{ℕ, suc, ◌+◌, ◌-◌, ◌≤◌, ◌<◌}
use mathlib.Core.Path.{◌≡◌, refl, sym, ap, ◌∙◌}
use mathlib.Core.List.{List, [], ◌∷◌, append-nil}
use mathlib.Core.Bool.{true, false}
use mathlib.Core.Option.{Option, some}
use Rattle.std.specs.Prelude.{Result, Ok, Err, Some, None, IsErr, IsErrAnd}
use native.Mathlib.Omega.{arith}
use native.Mathlib.Nat.{sub-zero}
use native.Mathlib.Numerals.{add-one}
use lib.ListN.{length, get_or, take, set, length-set}
use lib.Seq.{take-suc-set, length-take-le, get_or-set_same}
use Rattle.units.specs.Told.{Told, gives, refuses}
use Rattle.units.specs.declared.Sector.{Sector}
use Rattle.units.specs.declared.Offset.{Offset}
use Rattle.units.specs.declared.Region.{Region}
use Rattle.read_entry.specs.declared.ReadError.{ReadError}
use Rattle.read_entry.specs.Entry.{read_at, number_in, offset_in}
use Rattle.read_entry.specs.declared.Placed.{Placed}
use Rattle.read_entry.specs.Entry as entry-said
use Rattle.read_entry.specs.Links.{walk_absent}
use Rattle.read_walk.specs.declared.WalkError.{WalkError}
use Rattle.read_walk.specs.declared.WalkError.TheVariants as walk_error
use Rattle.read_walk.specs.Walk.{before, push, walk_from, counted, told}
use Rattle.read_walk.specs.inner.Run.{stack_of, Pushed, Runs}
use Rattle.read_walk.proofs.Stack.{stack_pop}
use Rattle.read_walk.proofs.Steps.{before_none, before-before, walk_none, walk_nothing, walk_refused, walk_full, walk_entry}

abbrev pub walk_on : List ℕ → Sector → Region → ℕ → List ℕ → Told (List ℕ)
walk_on w first t = walk_from walk_absent (read_at w first t)

-- the loop's invariant: x, the whole walk, is what is listed and then the walk of the stack
pub record State (w : List ℕ) (first : Sector) (t : Region) (x : Told (List ℕ)) (room places : ℕ) (list scratch : List ℕ) (top n : ℕ) : Type 0 where
  pub to_do : x ≡ before (take n list) (walk_on w first t (room - n) (stack_of scratch top))
  pub room_left : n ≤ room
  pub low : top ≤ n + 1
  pub list_kept : length list ≡ room
  pub scratch_kept : length scratch ≡ places
  pub fits : room < places

-- a way out with a refusal, which keeps nothing of the list
refused : (x : Told (List ℕ)) (a : WalkError) (list : List ℕ) (k : ℕ) (vs : List ℕ) → x ≡ refuses k vs → told (Err a) ≡ refuses k vs → Runs x (Err a) list
refused x a list k vs e ta = record { is = ta ∙ sym (ap counted e); listed = rw e; within = omega arith }

module _ (w : List ℕ) (first : Sector) (t : Region) (x : Told (List ℕ)) (room places : ℕ) (list scratch : List ℕ) (top n : ℕ)
    (s : State w first t x room places list scratch top n) where
  pub done : top ≤ 0 → Runs x (Ok n) list
  unfolding stack_of
  done h =
      let z : top ≡ 0 = omega arith in
      let e : x ≡ gives (take n list) = s.to_do ∙ rw (z, walk_none walk_absent (read_at w first t) (room - n), append-nil) in
      record {
        is = sym (ap counted e ∙ ap gives (length-take-le n list (omega (arith, s.room_left, s.list_kept))));
        listed = rw e;
        within = omega (arith, s.room_left, s.list_kept);
      }

  module _ (more : 0 < top) where
    abbrev o : ℕ
    o = get_or scratch (top - 1) 0

    -- the top of the stack
    popped : x ≡ before (take n list) (walk_on w first t (room - n) (o ∷ stack_of scratch (top - 1)))
    popped = s.to_do ∙ ap (λ (st : List ℕ). before (take n list) (walk_on w first t (room - n) st)) (stack_pop scratch top more)

    -- what is read there, as the code has it, at the offset p: r is what is told of it
    module _ (p : Offset) (p-is : p.0 ≡ o) where
      found : {r : Told (Option Placed)} → r ≡ read_at w first t p.0 → read_at w first t o ≡ r
      found e = sym (e ∙ ap (read_at w first t) p-is)

      -- a refusal ends the walk
      pub unread : (e : ReadError) → entry-said.told (Err e) ≡ read_at w first t p.0 → (a : Result ℕ WalkError)
          → IsErr a × IsErrAnd a (λ (b : WalkError). b ≡ walk_error.Read e) → Runs x a list
      unread e r (Ok n) h = absurd (not_ok h.0)
        where
          not_ok : false ≡ true → ⊥
          not_ok e = let z : ◌≡◌ {A = ℕ} 0 1 = cc in omega arith
      unread e r (Err a) h =
          refused x a list (number_in e) ((offset_in e).0 ∷ [])
          (popped ∙ rw (walk_refused walk_absent (read_at w first t) o (stack_of scratch (top - 1)) (room - n) (number_in e) ((offset_in e).0 ∷ []) (found r))) (rw h.1)

      pub nothing : entry-said.told (Ok None) ≡ read_at w first t p.0 → (u : ℕ) → u ≡ top - 1 → State w first t x room places list scratch u n
      nothing r u d = record {
        to_do = rw d (popped ∙ ap (before (take n list)) (walk_nothing walk_absent (read_at w first t) o (stack_of scratch (top - 1)) (room - n) (found r)));
        room_left = s.room_left;
        low = omega (arith, s.low);
        list_kept = s.list_kept;
        scratch_kept = s.scratch_kept;
        fits = s.fits;
      }

      module _ (y : Placed) (r : entry-said.told (Ok (Some y)) ≡ read_at w first t p.0) where
        entry_at : read_at w first t o ≡ gives (some y)
        entry_at = found r

        pub full : length list ≤ n → Runs x (Err walk_error.WalkFull) list
        full k =
            let z : room - n ≡ 0 = omega (arith, s.list_kept) in
            refused x walk_error.WalkFull list 26 []
            (popped ∙ rw (z, walk_full walk_absent (read_at w first t) o (stack_of scratch (top - 1)) y entry_at)) refl

        module _ (has_room : n < length list) where
          entered : x ≡ before (take (n + 1) (set list n o)) (walk_on w first t (room - (n + 1)) (push walk_absent y.header.left.0 (push walk_absent y.header.right.0 (stack_of scratch (top - 1)))))
          entered =
              let z : room - n ≡ suc (room - (n + 1)) = omega (arith, s.list_kept) in
              popped
              ∙ rw (z, walk_entry walk_absent (read_at w first t) o (stack_of scratch (top - 1)) (room - (n + 1)) y entry_at)
              (before-before (take n list) (o ∷ []) (walk_on w first t (room - (n + 1)) (push walk_absent y.header.left.0 (push walk_absent y.header.right.0 (stack_of scratch (top - 1)))))
              ∙ rw (add-one n, take-suc-set list n o has_room))

          pub entry : (s₁ : List ℕ) (t₁ : ℕ) → Pushed walk_absent y.header.right.0 scratch (top - 1) s₁ t₁ → (s₂ : List ℕ) (t₂ : ℕ) → Pushed walk_absent y.header.left.0 s₁ t₁ s₂ t₂ →
              (m : ℕ) → m ≡ n + 1 → State w first t x room places (set list n o) s₂ t₂ m
          entry s₁ t₁ p s₂ t₂ q m d = record {
            to_do = rw (d, q.stack, p.stack) entered;
            room_left = omega (arith, s.list_kept);
            low = omega (arith, s.low, p.height, q.height);
            list_kept = length-set list n o ∙ s.list_kept;
            scratch_kept = q.kept ∙ p.kept ∙ s.scratch_kept;
            fits = s.fits;
          }

-- where the loop begins: the scratch s₀ with 0 stored in its first place
pub starts : (w : List ℕ) (first : Sector) (t : Region) (list s₀ : List ℕ) → length list < length s₀ →
    State w first t (walk_on w first t (length list) (0 ∷ [])) (length list) (length (set s₀ 0 0)) list (set s₀ 0 0) 1 0
unfolding stack_of
starts w first t list s₀ h = record {
  to_do = rw (sub-zero, get_or-set_same s₀ 0 0 0 (omega arith)) (sym (before_none (walk_on w first t (length list) (0 ∷ []))));
  room_left = omega arith;
  low = omega arith;
  list_kept = refl;
  scratch_kept = refl;
  fits = rw length-set h;
}

-- the scratch is as long as it came
pub same_scratch : (w : List ℕ) (first : Sector) (t : Region) (x : Told (List ℕ)) (room : ℕ) (list scratch s₀ : List ℕ) (top n : ℕ) →
    State w first t x room (length (set s₀ 0 0)) list scratch top n → length scratch ≡ length s₀
same_scratch w first t x room list scratch s₀ top n s = s.scratch_kept ∙ length-set s₀ 0 0
