-- The strict check of a table in its own part of a window, as a table of sector 0 in a window that starts with sector 0, is the check in the window.
-- Assumes nothing.
use Prim.Native.Nat.{ℕ, zero, suc, ◌≤◌}
use mathlib.Core.Path.{◌≡◌, refl, sym, ap, ap₂, subst, ◌∙◌}
use mathlib.Core.Bool.{Bool, true, false, ◌&&◌}
use mathlib.Core.List.{List, [], ◌∷◌, ◌++◌}
use mathlib.Core.Option.{Option, some, none}
use lib.ListN.{length, drop}
use Rattle.units.specs.Told.{Told, gives, refuses}
use Rattle.units.specs.declared.Sector.{Sector}
use Rattle.units.specs.declared.Region.{Region}
use Rattle.name_role.specs.Roles.{stored_order}
use Rattle.read_entry.specs.declared.Placed.{Placed}
use Rattle.read_entry.specs.Entry.{read_at, name_of}
use Rattle.read_entry.specs.declared.Table.{Table}
use Rattle.read_entry.specs.inner.Part.{placed_on, moved, IsNarrowed}
use Rattle.read_entry.proofs.Moved.{read_moved, name_moved, read_nothing, Starts, inside, outside, starts}
use Rattle.read_walk.specs.Walk.{before}
use Rattle.std.specs.Prelude.{Result}
use Rattle.strict_rule.specs.declared.CheckError.{CheckError}
use Rattle.strict_rule.specs.Strict.{Visit, root, entered, end_of, end_by, name_by, is_less, is_under, is_over, every, apart, placed, ordered, verdict_at, if_good, by_read, to_entry, strict_from}
use Rattle.strict_rule.specs.inner.Nearest.{entered_nearest}
use Rattle.strict.specs.inner.Run.{Begins, run_of, Runs}
use Rattle.strict_rule.proofs.Steps.{check_refused}
use Rattle.strict_rule.proofs.Nearest.{nearest_suffice}

end_alike : (b : ℕ) (r : Told (Option Placed)) (o : ℕ) → end_by (moved b r) o ≡ end_by r o
end_alike b (gives (some x)) o = refl
end_alike b (gives none) o = refl
end_alike b (refuses k vs) o = refl

name_alike : (w : List ℕ) (b : ℕ) → b ≤ length w → (r : Told (Option Placed)) → name_by w (moved b r) ≡ name_by (drop b w) r
name_alike w b held (gives (some x)) = name_moved w b held x.place x.header.name_len
name_alike w b held (gives none) = refl
name_alike w b held (refuses k vs) = refl

read_by : (b : ℕ) (r : Told (Option Placed)) (enter other : Placed → Told (List ℕ)) (rest rest₂ : Told (List ℕ)) → ((x : Placed) → enter (placed_on b x) ≡ other x) → rest ≡ rest₂ →
    by_read (moved b r) enter rest ≡ by_read r other rest₂
read_by b (gives (some x)) enter other rest rest₂ e d = e x
read_by b (gives none) enter other rest rest₂ e d = d
read_by b (refuses k vs) enter other rest rest₂ e d = refl

-- two tests that are alike at each offset
every_alike : (p q : ℕ → Bool) → ((o : ℕ) → p o ≡ q o) → (os : List ℕ) → every p os ≡ every q os
unfolding every
every_alike p q e [] = refl
every_alike p q e (o ∷ os) = ap₂ ◌&&◌ (e o) (every_alike p q e os)

-- f finds in the window what g finds in the part, with places counted from b on
module _ (w : List ℕ) (b : ℕ) (held : b ≤ length w) (f g : ℕ → Told (Option Placed)) (alike : (o : ℕ) → f o ≡ moved b (g o)) where
  apart_alike : (o e : ℕ) (seen : List ℕ) → apart f o e seen ≡ apart g o e seen
  unfolding apart
  apart_alike o e [] = refl
  apart_alike o e (x ∷ xs) = rw (alike x, end_alike b (g x) x, apart_alike o e xs)

  named_alike : (o : ℕ) → name_by w (f o) ≡ name_by (drop b w) (g o)
  named_alike o = ap (name_by w) (alike o) ∙ name_alike w b held (g o)

  ordered_alike : (v : Visit) (name : List ℕ) → ordered w f v name ≡ ordered (drop b w) g v name
  unfolding ordered
  ordered_alike v name = ap₂ ◌&&◌
      (every_alike (is_under w f name) (is_under (drop b w) g name) (λ o. ap (λ (n : List ℕ). is_less (stored_order name n)) (named_alike o)) v.under)
      (every_alike (is_over w f name) (is_over (drop b w) g name) (λ o. ap (λ (n : List ℕ). is_less (stored_order n name)) (named_alike o)) v.over)

  placed_alike : (size o e : ℕ) (seen : List ℕ) → placed f size o e seen ≡ placed g size o e seen
  unfolding placed
  placed_alike size o e seen = rw (apart_alike o e seen)

  verdict_alike : (size : ℕ) (seen : List ℕ) (full : Bool) (v : Visit) (x : Placed) → verdict_at w f size seen full v (placed_on b x) ≡ verdict_at (drop b w) g size seen full v x
  unfolding verdict_at
  verdict_alike size seen full v x =
      rw (
        placed_alike size v.offset (end_of x.header v.offset) seen,
        name_moved w b held x.place x.header.name_len,
        ordered_alike v (name_of (drop b w) x.place x.header.name_len),
      )

  to_entry_lem : (enter other : Visit → Placed → List Visit → Told (List ℕ)) → ((v : Visit) (x : Placed) (rest : List Visit) → enter v (placed_on b x) rest ≡ other v x rest) →
      (stack : List Visit) → to_entry f enter stack ≡ to_entry g other stack
  unfolding to_entry
  to_entry_lem enter other e [] = refl
  to_entry_lem enter other e (v ∷ stack) =
      rw (alike v.offset)
      (read_by b (g v.offset) (λ x. enter v x stack) (λ x. other v x stack) (to_entry f enter stack) (to_entry g other stack) (λ x. e v x stack) (to_entry_lem enter other e stack))

  check_alike : (size room : ℕ) (seen : List ℕ) (stack : List Visit) → strict_from entered_nearest w f size room seen stack ≡ strict_from entered_nearest (drop b w) g size room seen stack
  unfolding strict_from
  check_alike size zero seen stack =
      to_entry_lem (λ v x rest. if_good (verdict_at w f size seen true v x) (refuses 26 [])) (λ v x rest. if_good (verdict_at (drop b w) g size seen true v x) (refuses 26 []))
      (λ v x rest. ap (λ (z : Told (Unit {0})). if_good z (refuses 26 [])) (verdict_alike size seen true v x)) stack
  check_alike size (suc room) seen stack =
      to_entry_lem
      (λ v x rest. if_good (verdict_at w f size seen false v x) (before (v.offset ∷ []) (strict_from entered_nearest w f size room (seen ++ (v.offset ∷ [])) (entered_nearest v x rest))))
      (λ v x rest. if_good (verdict_at (drop b w) g size seen false v x) (before (v.offset ∷ []) (strict_from entered_nearest (drop b w) g size room (seen ++ (v.offset ∷ [])) (entered_nearest v x rest))))
      (λ v x rest.
      ap₂ if_good (verdict_alike size seen false v x) (ap (before (v.offset ∷ [])) (check_alike size room (seen ++ (v.offset ∷ [])) (entered_nearest v x rest)))) stack

-- f and u: the first sector and the table for the part alone
module _ (w : List ℕ) (first : Sector) (t : Region) (some_size : t.size ≡ 0 → ⊥) (f : Sector) (u : Region) (f-is : f.0 ≡ 0) (u-is : u.sector.0 ≡ 0) (same : u.size ≡ t.size) where
  check_by : (room : ℕ) (part : List ℕ) → Starts w first t part → run_of part f u room ≡ run_of w first t room
  check_by room part (inside b begins held is base) =
      rw is
      (ap (λ (n : ℕ). strict_from entered_nearest (drop b w) (read_at (drop b w) f u) n room [] (root ∷ [])) same
      ∙ sym (check_alike w b held (read_at w first t) (read_at (drop b w) f u) (read_moved w first t f u f-is u-is same b begins held) t.size room [] (root ∷ [])))
  check_by room part (outside is refused-there) =
      rw is
      (check_refused entered_nearest [] (read_at [] f u) u.size [] root [] room 24 (0 ∷ []) (read_nothing w first t f u f-is u-is same some_size)
      ∙ sym (check_refused entered_nearest w (read_at w first t) t.size [] root [] room 24 (0 ∷ []) (refused-there some_size)))

-- the loop over the table in its own part with nearest bounds, as the code has it, is the check of the window
pub runs_moved : (t u : Table) → (t.region.size ≡ 0 → ⊥) → IsNarrowed t u → (room : ℕ) (r : Result ℕ CheckError) (list : List ℕ)
    → Runs (run_of u.window.now u.first u.region room) r list
    → Runs (strict_from entered t.window.now (read_at t.window.now t.first t.region) t.region.size room [] (root ∷ [])) r list
runs_moved t u some_size n room r list runs =
    let w = t.window.now in
    subst (λ (x : Told (List ℕ)). Runs x r list)
    (check_by w t.first t.region some_size u.first u.region n.1 n.2 n.3 room u.window.now (starts w t.first t.region u.window.now n.0)
    ∙ nearest_suffice w (read_at w t.first t.region) t.region.size room) runs

-- and it starts where the window does
pub begins_there : (t u : Table) → IsNarrowed t u → Begins u.first u.region
begins_there t u n = record { window = n.1; table = n.2 }
