-- The ways from entry to entry along links that are read, and what a lookup answers along one. Assumes nothing.
use Rattle.std.specs.Prelude.{ℕ, ◌+◌, ◌*◌, ◌≡◌, true, false}
use mathlib.Core.List.{List, [], ◌∷◌, Memᴰ}
use Rattle.std.proofs.Math.Option.{Option, some}
use Rattle.units.specs.Told.{Told, gives, refuses, pick}
use Rattle.read_entry.specs.Entry.{Placed}
use Rattle.read_entry.specs.Links.{is_in}
use Rattle.read_lookup.specs.Lookup.{Finding}

-- from one offset to another along links that are read: the links followed. `f o` is what is read at offset o
pub data Along (f : ℕ → Told (Option Placed)) : ℕ → ℕ → List ℕ → Type 0 where
  there : {o : ℕ} → Along f o o []
  left : {o p : ℕ} {x : Placed} {ks : List ℕ} → f o ≡ gives (some x) → Along f (4 * x.header.left.0) p ks
      → Along f o p (x.header.left.0 ∷ ks)
  right : {o p : ℕ} {x : Placed} {ks : List ℕ} → f o ≡ gives (some x) → Along f (4 * x.header.right.0) p ks
      → Along f o p (x.header.right.0 ∷ ks)

-- none of these links is 0 or 65,535
abbrev pub Real : List ℕ → Type 0
Real ks = (k : ℕ) → Memᴰ k ks → (k ≡ 0 → ⊥) × (k ≡ 65535 → ⊥)

-- none of these links is in a set of absent ones
abbrev pub Clear : List ℕ → List ℕ → Type 0
Clear absent ks = (k : ℕ) → Memᴰ k ks → is_in k absent ≡ false

-- some of these links is in it
pub record Cut (absent ks : List ℕ) : Type 0 where
  pub link : ℕ
  pub among : Memᴰ link ks
  pub taken : is_in link absent ≡ true

-- what a lookup of an entry's name answers, with n headers read, where it has these links to follow to it: the
-- entry and its offset, unless one of them is taken for absent; then 22, with the headers read before it
abbrev pub answer_along : List ℕ → Placed → ℕ → ℕ → List ℕ → Told Finding
answer_along absent x o n [] = gives (record { entry = x; offset = o; headers = n })
answer_along absent x o n (k ∷ ks) = pick (is_in k absent) (refuses 22 (n ∷ [])) (answer_along absent x o (n + 1) ks)
