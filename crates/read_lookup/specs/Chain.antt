-- What is said of a chain, without its bound: which offsets it reads, when it never ends, how long it is. Assumes
-- nothing.
use Rattle.std.specs.Prelude.{ℕ, zero, suc, ◌<◌, ◌≡◌, List, [], ◌∷◌, eqb}
use Rattle.std.proofs.Math.Option.{Option, some, none}
use Rattle.units.specs.Told.{Told, gives, refuses, pick}
use Rattle.read_lookup.specs.Lookup.{Leads, found, missing, refused, onward, Finding}

-- the offset of the i-th header, counted from 0, that a chain from offset o on reads, where it reads so many. This
-- is the Rust's chain, which may never end
abbrev pub goes : Leads → (ℕ → Option ℕ) → Option ℕ
goes (found x) next = none
goes missing next = none
goes (refused k vs) next = none
goes (onward p) next = next p

unfoldable pub offset_from : (ℕ → Leads) → ℕ → ℕ → Option ℕ
offset_from f zero o = some o
offset_from f (suc i) o = goes (f o) (λ p. offset_from f i p)

-- a chain never ends
pub record Endless (f : ℕ → Leads) (o : ℕ) : Type 0 where
  pub read : ℕ → ℕ
  pub reads : (i : ℕ) → offset_from f i o ≡ some (read i)

-- a chain reads an offset a second time
pub record ReadsAgain (f : ℕ → Leads) (o : ℕ) : Type 0 where
  pub first : ℕ
  pub second : ℕ
  pub later : first < second
  pub offset : ℕ
  pub at_first : offset_from f first o ≡ some offset
  pub at_second : offset_from f second o ≡ some offset

-- a chain's length, the number of headers that it reads: it reads those below n, and no more
pub record LengthIs (f : ℕ → Leads) (o n : ℕ) : Type 0 where
  pub reads : (i : ℕ) → i < n → (p : ℕ) × (offset_from f i o ≡ some p)
  pub ends : offset_from f n o ≡ none

-- the number of headers that an answer carries, where it carries one: an entry found, or 22
abbrev pub first_in : List ℕ → Option ℕ
first_in [] = none
first_in (n ∷ vs) = some n

abbrev pub count_of : Told Finding → Option ℕ
count_of (gives x) = some x.headers
count_of (refuses k vs) = pick (eqb k 22) (first_in vs) none
