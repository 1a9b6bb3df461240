-- Which numbers a lookup refuses with: 2, and from 21 to 25, for every set of absent links; so 29 is of the rule alone. Assumes nothing.
use Prim.Native.Nat.{ℕ, zero, suc, ◌+◌, ◌<◌}
use mathlib.Core.Path.{◌≡◌, refl}
use mathlib.Core.Bool.{Bool, true, false}
use mathlib.Core.Logic.{◌⊎◌, inl, inr}
use mathlib.Core.List.{List, []}
use native.Mathlib.Omega.{arith}
use lib.Dec.{eqb}
use Rattle.units.specs.Told.{Told, refuses, pick}
use Rattle.units.specs.declared.Sector.{Sector}
use Rattle.units.specs.declared.Region.{Region}
use Rattle.name_role.specs.Roles.{bad_sought}
use Rattle.read_lookup.specs.Lookup.{Leads, found, missing, refused, onward, Finding, step_at, ending, most, chain_from, lookup_by}
use Rattle.read_lookup.proofs.Chains.{Reading}
use Rattle.read_lookup.proofs.Laws.{step_reads}

-- 2, or 21 to 25
abbrev pub OfLookup : ℕ → Type 0
OfLookup k = (k ≡ 2) ⊎ ((20 < k) × (k < 26))

module _ (f : ℕ → Leads) (reading : (o : ℕ) → Reading (f o)) (k : ℕ) (vs : List ℕ) where
  ends_by : (s : Leads) → Reading s → (o n : ℕ) (next : ℕ → Told Finding) → ((p : ℕ) → next p ≡ refuses k vs → (20 < k) × (k < 26)) → ending s o n next ≡ refuses k vs → (20 < k) × (k < 26)
  ends_by (found x) r o n next IH e = let z : ◌≡◌ {A = ℕ} 0 1 = cc in absurd (omega arith)
  ends_by missing r o n next IH e = let q : 22 ≡ k = cc in (omega arith, omega arith)
  ends_by (refused c us) r o n next IH e = let q : c ≡ k = cc in let b = r c us refl in (omega (arith, b.0), omega (arith, b.1))
  ends_by (onward p) r o n next IH e = IH p e

  chain_refuses : (m n o : ℕ) → chain_from f m n o ≡ refuses k vs → (20 < k) × (k < 26)
  unfolding chain_from
  chain_refuses zero n o e = let q : 25 ≡ k = cc in (omega arith, omega arith)
  chain_refuses (suc m) n o e = ends_by (f o) (reading o) o (n + 1) (λ p. chain_from f m (n + 1) p) (λ p. chain_refuses m (n + 1) p) e

by_tests : (a b : Bool) (x : Told Finding) (k : ℕ) (vs : List ℕ) → (x ≡ refuses k vs → (20 < k) × (k < 26)) → pick a (refuses 2 []) (pick b (refuses 21 []) x) ≡ refuses k vs → OfLookup k
by_tests true b x k vs f e = let q : k ≡ 2 = cc in inl q
by_tests false true x k vs f e = let q : 21 ≡ k = cc in inr (omega arith, omega arith)
by_tests false false x k vs f e = inr (f e)

pub lookup_refuses : (absent w : List ℕ) (first : Sector) (t : Region) (name : List ℕ) (k : ℕ) (vs : List ℕ) → lookup_by absent w first t name ≡ refuses k vs → OfLookup k
unfolding lookup_by
lookup_refuses absent w first t name k vs e =
    let f : ℕ → Leads = step_at absent w first t name in
    by_tests (bad_sought name) (eqb t.size 0) (chain_from f most 0 0) k vs (chain_refuses f (step_reads absent w first t name) k vs most 0 0) e
