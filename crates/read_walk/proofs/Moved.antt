-- A walk of a table in its own part of a window, as a table of sector 0 in a window that starts with sector 0, is the walk in the window. Assumes nothing.
use Prim.Native.Nat.{ℕ, zero, suc}
use mathlib.Core.Path.{◌≡◌, refl, sym, ap, subst, ◌∙◌}
use mathlib.Core.List.{List, [], ◌∷◌}
use mathlib.Core.Option.{Option, some, none}
use lib.ListN.{drop}
use Rattle.units.specs.Told.{Told, gives, refuses}
use Rattle.units.specs.declared.Sector.{Sector}
use Rattle.units.specs.declared.Region.{Region}
use Rattle.layout_node.specs.declared.Header.{Header}
use Rattle.read_entry.specs.declared.Placed.{Placed}
use Rattle.read_entry.specs.Entry.{read_at}
use Rattle.read_entry.specs.Links.{walk_absent}
use Rattle.read_entry.specs.declared.Table.{Table}
use Rattle.read_entry.specs.inner.Part.{moved, IsNarrowed}
use Rattle.read_entry.proofs.Moved.{read_moved, read_nothing, Starts, inside, outside, starts}
use Rattle.std.specs.Prelude.{Result}
use Rattle.read_walk.specs.declared.WalkError.{WalkError}
use Rattle.read_walk.specs.Walk.{before, push, by_read, to_entry, walk_from}
use Rattle.read_walk.specs.inner.Run.{Runs}
use Rattle.read_walk.proofs.Steps.{walk_refused}
use Rattle.read_walk.proofs.Turn.{walk_on}

read_by : (b : ℕ) (r : Told (Option Placed)) (enter other : Header → Told (List ℕ)) (rest rest₂ : Told (List ℕ)) → ((h : Header) → enter h ≡ other h) → rest ≡ rest₂ →
    by_read (moved b r) enter rest ≡ by_read r other rest₂
read_by b (gives (some x)) enter other rest rest₂ e d = e x.header
read_by b (gives none) enter other rest rest₂ e d = d
read_by b (refuses k vs) enter other rest rest₂ e d = refl

-- f finds what g finds, with places counted from b on: no place matters to a walk
module _ (b : ℕ) (f g : ℕ → Told (Option Placed)) (alike : (o : ℕ) → f o ≡ moved b (g o)) where
  to_entry_lem : (enter other : ℕ → Header → List ℕ → Told (List ℕ)) → ((o : ℕ) (h : Header) (rest : List ℕ) → enter o h rest ≡ other o h rest) →
      (stack : List ℕ) → to_entry f enter stack ≡ to_entry g other stack
  unfolding to_entry
  to_entry_lem enter other e [] = refl
  to_entry_lem enter other e (o ∷ stack) =
      rw (alike o)
      (read_by b (g o) (λ h. enter o h stack) (λ h. other o h stack) (to_entry f enter stack) (to_entry g other stack) (λ h. e o h stack) (to_entry_lem enter other e stack))

  walk_alike : (absent : List ℕ) (room : ℕ) (stack : List ℕ) → walk_from absent f room stack ≡ walk_from absent g room stack
  unfolding walk_from
  walk_alike absent zero stack = to_entry_lem (λ o h rest. refuses 26 []) (λ o h rest. refuses 26 []) (λ o h rest. refl) stack
  walk_alike absent (suc room) stack =
      to_entry_lem (λ o h rest. before (o ∷ []) (walk_from absent f room (push absent h.left.0 (push absent h.right.0 rest))))
      (λ o h rest. before (o ∷ []) (walk_from absent g room (push absent h.left.0 (push absent h.right.0 rest))))
      (λ o h rest. ap (before (o ∷ [])) (walk_alike absent room (push absent h.left.0 (push absent h.right.0 rest)))) stack

-- f and u: the first sector and the table for the part alone
module _ (w : List ℕ) (first : Sector) (t : Region) (some_size : t.size ≡ 0 → ⊥) (f : Sector) (u : Region) (f-is : f.0 ≡ 0) (u-is : u.sector.0 ≡ 0) (same : u.size ≡ t.size) where
  walk_by : (room : ℕ) (part : List ℕ) → Starts w first t part → walk_on part f u room (0 ∷ []) ≡ walk_on w first t room (0 ∷ [])
  walk_by room part (inside b begins held is base) =
      rw is (sym (walk_alike b (read_at w first t) (read_at (drop b w) f u) (read_moved w first t f u f-is u-is same b begins held) walk_absent room (0 ∷ [])))
  walk_by room part (outside is refused-there) =
      rw is
      (walk_refused walk_absent (read_at [] f u) 0 [] room 24 (0 ∷ []) (read_nothing w first t f u f-is u-is same some_size)
      ∙ sym (walk_refused walk_absent (read_at w first t) 0 [] room 24 (0 ∷ []) (refused-there some_size)))

-- the loop over the table in its own part, as the code has it, is the loop over the window
pub runs_moved : (t u : Table) → (t.region.size ≡ 0 → ⊥) → IsNarrowed t u → (room : ℕ) (r : Result ℕ WalkError) (list : List ℕ)
    → Runs (walk_on u.window.now u.first u.region room (0 ∷ [])) r list → Runs (walk_on t.window.now t.first t.region room (0 ∷ [])) r list
runs_moved t u some_size n room r list runs =
    let w = t.window.now in
    subst (λ (x : Told (List ℕ)). Runs x r list)
    (walk_by w t.first t.region some_size u.first u.region n.1 n.2 n.3 room u.window.now (starts w t.first t.region u.window.now n.0)) runs
