-- Which numbers a path refuses with: 2, and from 21 to 28 but 26, for every set of absent links; so 29 is of the rule alone. Assumes nothing.
use Prim.Native.Nat.{ℕ, ◌<◌}
use mathlib.Core.Path.{◌≡◌, refl}
use mathlib.Core.Bool.{Bool, true, false}
use mathlib.Core.Logic.{◌⊎◌, inl, inr}
use mathlib.Core.List.{List, [], ◌∷◌}
use native.Mathlib.Omega.{arith}
use lib.Dec.{eqb}
use borrow.Author.Tests.{eqb-true}
use Rattle.units.specs.Told.{Told, gives, refuses, pick}
use Rattle.units.specs.declared.Sector.{Sector}
use Rattle.units.specs.declared.Region.{Region}
use Rattle.name_role.specs.Roles.{bad_sought}
use Rattle.layout_node.specs.Header.{is_directory}
use Rattle.read_entry.specs.Entry.{Placed}
use Rattle.read_lookup.specs.Lookup.{Finding, lookup_by}
use Rattle.read_lookup.proofs.Numbers.{OfLookup, lookup_refuses}
use Rattle.read_path.specs.Path.{trim, split, unended, last_of, into, stops, turn_of, onward, parts_from, path_by}

-- 2, or 21 to 28, and not 26
abbrev pub OfPath : ℕ → Type 0
OfPath k = (k ≡ 2) ⊎ ((20 < k) × (k < 29) × (k ≡ 26 → ⊥))

of_lookup : (k : ℕ) → OfLookup k → OfPath k
of_lookup k (inl e) = inl e
of_lookup k (inr e) = inr (e.0, omega (arith, e.1), (λ q. omega (arith, e.1, q)))

-- the last part has the number of its lookup
last_by : (b : Bool) (j : ℕ) (us : List ℕ) (k : ℕ) (vs : List ℕ) → (b ≡ true → j ≡ 22) → ◌≡◌ {A = Told Placed} (pick b (refuses 22 []) (refuses j us)) (refuses k vs) → j ≡ k
last_by true j us k vs f e = let q : 22 ≡ k = cc in omega (arith, f refl)
last_by false j us k vs f e = cc

last_refuses : (x : Told Finding) (k : ℕ) (vs : List ℕ) → ((j : ℕ) (us : List ℕ) → x ≡ refuses j us → OfLookup j) → last_of x ≡ refuses k vs → OfPath k
last_refuses (gives a) k vs f e = let z : ◌≡◌ {A = ℕ} 0 1 = cc in absurd (omega arith)
last_refuses (refuses j us) k vs f e = let q : j ≡ k = last_by (eqb j 22) j us k vs (eqb-true j 22) e in rw q at (of_lookup j (f j us refl))

-- a part before it too, or has 27
directory_by : (b : Bool) (t : Region) (next : Region → Told Placed) (k : ℕ) (vs : List ℕ) → ((u : Region) → next u ≡ refuses k vs → OfPath k)
    → onward (pick b (into t) (stops (refuses 27 []))) next ≡ refuses k vs → OfPath k
directory_by true t next k vs f e = f t e
directory_by false t next k vs f e = let q : 27 ≡ k = cc in inr (omega arith, omega arith, (λ z. omega arith))

turn_refuses : (x : Told Finding) (next : Region → Told Placed) (k : ℕ) (vs : List ℕ) → ((j : ℕ) (us : List ℕ) → x ≡ refuses j us → OfLookup j)
    → ((u : Region) → next u ≡ refuses k vs → OfPath k) → onward (turn_of x) next ≡ refuses k vs → OfPath k
turn_refuses (gives a) next k vs f g e = directory_by (is_directory a.entry.header) _ next k vs g e
turn_refuses (refuses j us) next k vs f g e = last_refuses (refuses j us) k vs f e

parts_refuse : (absent w : List ℕ) (first : Sector) (t : Region) (ps : List (List ℕ)) (k : ℕ) (vs : List ℕ) → parts_from absent w first t ps ≡ refuses k vs → OfPath k
unfolding parts_from
parts_refuse absent w first t [] k vs e = let q : 28 ≡ k = cc in inr (omega arith, omega arith, (λ z. omega arith))
parts_refuse absent w first t (p ∷ []) k vs e = last_refuses (lookup_by absent w first t p) k vs (lookup_refuses absent w first t p) e
parts_refuse absent w first t (p ∷ q ∷ ps) k vs e =
    turn_refuses (lookup_by absent w first t p) (λ u. parts_from absent w first u (q ∷ ps)) k vs (lookup_refuses absent w first t p) (λ u. parts_refuse absent w first u (q ∷ ps) k vs) e

bad_by : (b : Bool) (x : Told Placed) (k : ℕ) (vs : List ℕ) → (x ≡ refuses k vs → OfPath k) → pick b (refuses 2 []) x ≡ refuses k vs → OfPath k
bad_by true x k vs f e = let q : k ≡ 2 = cc in inl q
bad_by false x k vs f e = f e

pub path-refuses : (absent w : List ℕ) (first : Sector) (t : Region) (path : List ℕ) (k : ℕ) (vs : List ℕ) → path_by absent w first t path ≡ refuses k vs → OfPath k
unfolding path_by
path-refuses absent w first t path k vs e = bad_by (bad_sought path) _ k vs (parts_refuse absent w first t (unended (split (trim path))) k vs) e
