-- A CHAIN THAT NEVER ENDS reads a second header, so that its table has a size. Assumes nothing.
use Prim.Native.Nat.{ℕ, ◌*◌, ◌-◌}
use native.Mathlib.Omega.{arith}
use mathlib.Core.Path.{◌≡◌, sym, ap, ◌∙◌}
use mathlib.Core.List.{List, [], ◌∷◌}
use mathlib.Core.Option.{some, none}
use lib.Dec.{leb, ltb}
use Rattle.units.specs.Told.{refuses, pick}
use Rattle.units.specs.declared.Sector.{Sector}
use Rattle.units.specs.declared.Region.{Region}
use Rattle.read_entry.specs.Entry.{read_here, read_at}
use Rattle.read_entry.proofs.Located.{byte_of, read_by_tests}
use Rattle.read_lookup.specs.Lookup.{Leads, refused, by_read, step_at}
use Rattle.read_lookup.specs.Chain.{goes, offset_from, Endless}

module _ (absent w : List ℕ) (first : Sector) (t : Region) (name : List ℕ) (empty : t.size ≡ 0) where
  outside : read_at w first t 0 ≡ refuses 23 (0 ∷ [])
  outside =
      read_by_tests w first t 0
      ∙ ap (λ (n : ℕ). pick (leb n 0) (refuses 23 (0 ∷ [])) (pick (ltb (byte_of t 0) (2048 * first.0)) (refuses 24 (0 ∷ [])) (read_here w (byte_of t 0 - 2048 * first.0) 0))) empty

  stops : step_at absent w first t name 0 ≡ refused 23 (0 ∷ [])
  unfolding step_at
  stops = ap (by_read absent w name) outside

  ends : offset_from (step_at absent w first t name) 1 0 ≡ none
  unfolding offset_from
  ends = ap (λ (l : Leads). goes l (λ p. some p)) stops

  pub empty_ends : Endless (step_at absent w first t name) 0 → ⊥
  empty_ends e =
      let q : none ≡ some (e.read 1) = sym ends ∙ e.reads 1 in
      let z : ◌≡◌ {A = ℕ} 0 1 = cc in
      omega arith
