-- A lookup step by step, for every set of absent links: what it answers at a link, at an entry, at a header that is no entry, and from the start. Assumes nothing.
use Prim.Native.Nat.{ℕ, suc, ◌+◌, ◌*◌}
use mathlib.Core.Path.{◌≡◌, refl}
use mathlib.Core.Bool.{Bool, true, false}
use mathlib.Core.List.{List, [], ◌∷◌}
use mathlib.Core.Option.{some, none}
use borrow.Author.Tests.{ne_eqb}
use Rattle.units.specs.Told.{Told, gives, refuses, pick}
use Rattle.units.specs.declared.Sector.{Sector}
use Rattle.units.specs.declared.Region.{Region}
use Rattle.std.specs.declared.cmp.Ordering.{Ordering}
use Rattle.name_role.specs.Roles.{sought_order, bad_sought}
use Rattle.read_entry.specs.Entry.{Placed, read_at, name_of}
use Rattle.read_entry.specs.Links.{is_in}
use Rattle.read_lookup.specs.Lookup.{missing, onward, by_link, by_order, step_at, Finding, ending, most, chain_from, lookup_by}

-- a link that is taken for absent ends the chain, another goes on
by_link_lem : (b : Bool) (o n p : ℕ) (onto : ℕ → Told Finding) → ending (pick b missing (onward p)) o n onto ≡ pick b (refuses 22 (n ∷ [])) (onto p)
by_link_lem true o n p onto = refl
by_link_lem false o n p onto = refl

module _ (absent w : List ℕ) (first : Sector) (t : Region) (name : List ℕ) where
  -- what is answered from offset o on, with n headers read and at most m to read
  abbrev pub chain : ℕ → ℕ → ℕ → Told Finding
  chain m n o = chain_from (step_at absent w first t name) m n o

  -- .. and at a link k of the entry at o, the last that was read
  abbrev pub follow : ℕ → ℕ → ℕ → ℕ → Told Finding
  follow m n o k = ending (by_link absent k) o n (λ p. chain m n p)

  pub follow_is : (m n o k : ℕ) → follow m n o k ≡ pick (is_in k absent) (refuses 22 (n ∷ [])) (chain m n (4 * k))
  unfolding by_link
  follow_is m n o k = by_link_lem (is_in k absent) o n (4 * k) (λ p. chain m n p)

  step_entry : (o : ℕ) (x : Placed) → read_at w first t o ≡ gives (some x) → step_at absent w first t name o ≡ by_order absent x (sought_order name (name_of w x.place x.header.name_len))
  unfolding step_at
  step_entry o x e = rw e

  -- at an entry, by the order of the names
  pub chain_entry : (o m n : ℕ) (x : Placed) (c : Ordering) → read_at w first t o ≡ gives (some x) → sought_order name (name_of w x.place x.header.name_len) ≡ c
      → chain (suc m) n o ≡ ending (by_order absent x c) o (n + 1) (λ p. chain m (n + 1) p)
  unfolding chain_from
  chain_entry o m n x c e q = rw (step_entry o x e, q)

  step_blank : (o : ℕ) → read_at w first t o ≡ gives none → step_at absent w first t name o ≡ missing
  unfolding step_at
  step_blank o e = rw e

  -- at a header that is no entry
  pub chain_blank : (o m n : ℕ) → read_at w first t o ≡ gives none → chain (suc m) n o ≡ refuses 22 ((n + 1) ∷ [])
  unfolding chain_from
  chain_blank o m n e = rw (step_blank o e)

  -- the whole lookup, once the name and the size are let through
  pub lookup_is : bad_sought name ≡ false → (t.size ≡ 0 → ⊥) → lookup_by absent w first t name ≡ chain most 0 0
  unfolding lookup_by
  lookup_is low some_size = rw (low, ne_eqb _ _ some_size)
