-- The ways out of putting an entry in. Assumes nothing.
use Rattle.std.proofs.Common.{ℕ, ◌+◌, ◌<◌, arith, ◌≡◌, subst, List, [], ◌∷◌, length, set, Result, Ok, Err, IsErrAnd}
use Rattle.std.proofs.lemmas.Result.{err_from_is_err_and}
use Rattle.units.specs.Told.{Told, gives, refuses}
use Rattle.dirtab_entry.specs.declared.Cause.{Cause}
use Rattle.dirtab_entry.specs.Entry.{cause_number}
use Rattle.avl_model.specs.declared.Place.TheVariants.{Root}
use Rattle.avl_model.specs.declared.Spot.{Spot}
use Rattle.avl_model.specs.Tree.{Tree, ins}
use Rattle.avl_model.specs.Lists.{Lists}
use Rattle.avl_model.specs.Names.{Names, by_name, is_less}
use Rattle.avl_model.specs.inner.Names.{Inside}
use Rattle.avl_model.specs.inner.Held.{Long, Whole}
use Rattle.avl_model.specs.Seek.{spot_in}
use Rattle.avl_keyed.specs.inner.Key.{KeySought}
use Rattle.avl_model.specs.inner.Insert.{Placed}
use Rattle.dirtab_grow.specs.declared.Seat.{Seat}
use Rattle.dirtab_grow.specs.inner.Growing.{step_of, Growing, Seated, Stepped}
use Rattle.dirtab_grow.proofs.Checked.{seat_free}
use Rattle.dirtab_grow.proofs.Columns.{sought_in, arena_in_lem, grown_more, keyed_more}

-- a refusal says nothing of the columns
pub refused_step : {c : Cause} {u : Told (Unit {0})} {s : Spot} {i : ℕ} {S : Lists} {K : List ℕ} {N : Names} {t : Tree}
    → ((x : Told Tree) → refuses (cause_number c) (i ∷ []) ≡ step_of u s i x) → Stepped (Err c) u s i S K N t
refused_step {c} f = record { answer = f; taken = λ e. never e; keyed = λ e. never e }
  where
    never : {X : Type 0} → ◌≡◌ {A = Result (Unit {0}) Cause} (Err c) (Ok tt) → X
    never e = let z : ◌≡◌ {A = ℕ} 0 1 = cc in absurd (omega arith)

module _ (S : Lists) (K : List ℕ) (N : Names) (new : ℕ) (long : Long (new + 1) S) where
  abbrev spot : Tree → Spot
  spot t = spot_in (by_name N new) t Root

  abbrev more : Tree → Tree
  more t = ins (λ i. is_less (by_name N new i)) new t

  module _ (r : Result Seat Cause) (f : (v : KeySought S.L S.R K S.root N) → Seated r N (spot v.linked.t) new) where
    seated : (w : Growing S K N new) → Seated r N (spot w.t) new
    unfolding sought_in
    seated w = f (sought_in S K N new long w)

    -- what a `?` makes of a refusal
    pub out_refused : {c : Cause} → r ≡ Err c → {v : Result (Unit {0}) Cause} → IsErrAnd v (λ e. e ≡ c) → {T : Lists} {J : List ℕ} (w : Growing S K N new)
        → Stepped v (gives tt) (spot w.t) new T J N (more w.t)
    out_refused e {v} f w = let h = err_from_is_err_and v f in
        rw (h.1, h.2) (refused_step (subst (λ (a : Result Seat Cause). Seated a N (spot w.t) new) e (seated w)))

    module _ {a : Seat} (e : r ≡ Ok a) (w : Growing S K N new) where
      pub at : Seated (Ok a) N (spot w.t) new
      at = subst (λ (v : Result Seat Cause). Seated v N (spot w.t) new) e (seated w)

      unfoldable pub placed : Placed S a.place new
      unfolding arena_in_lem
      placed = record { arena = arena_in_lem S K N new long w; by = by_name N new; free = at.0 }

      pub out_taken : {T : Lists} → Inside N new → new < length K → ((v : Placed S a.place new) → Whole T (length S.L) (ins (λ i. is_less (v.by i)) new v.arena.t))
          → Stepped (Ok tt) (gives tt) (spot w.t) new T (set K new a.key) N (more w.t)
      unfolding placed arena_in_lem
      out_taken {T} h n g = record {
        answer = seat_free new at.0 at.1.0;
        taken = λ _. grown_more S K N new long w T (λ i. is_less (by_name N new i)) h at.1.0 (g placed);
        keyed = λ _. keyed_more S K N new long w (λ i. is_less (by_name N new i)) a.key h n at.1.1;
      }
