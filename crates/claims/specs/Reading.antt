-- WHAT 25, A COUNT AND THE STRICT CHECK MEAN, of what `look_up` and `check_table` are proved to answer: r is any
-- answer that the contract allows. Assumes nothing.
use Rattle.std.specs.Prelude.{ℕ, ◌-◌, ◌≤◌, ◌<◌, ◌≡◌, false, List, ◌++◌, length, get_or, replicate, Result, Err}
use Rattle.std.proofs.Math.Option.{some}
use Rattle.units.specs.Told.{gives}
use Rattle.units.specs.declared.Sector.{Sector}
use Rattle.units.specs.declared.Region.{Region}
use Rattle.name_role.specs.Roles.{bad_sought}
use Rattle.read_entry.specs.Links.{absent_under}
use Rattle.read_lookup.specs.declared.Found.{Found}
use Rattle.read_lookup.specs.declared.LookupError.{LookupError}
use Rattle.read_lookup.specs.declared.LookupError.TheVariants as error
use Rattle.read_lookup.specs.Lookup as lookup
use Rattle.read_lookup.specs.Lookup.{step_at, lookup_of}
use Rattle.read_lookup.specs.Chain.{Endless, ReadsAgain, LengthIs, count_of}
use Rattle.strict_rule.specs.Strict as checking
use Rattle.strict_rule.specs.Accepts.{Accepts}

-- what a lookup of the code answers
abbrev pub Looked : Type 0
Looked = Result Found LookupError

-- 25 EXACTLY WHERE THE CHAIN NEVER ENDS, which is exactly where it would read an offset again: the chain along links
-- of which those in `absent` are taken for absent. (29 and 2 come before it; a chain in a table of size 0, which is 21,
-- ends.) w is a list of bytes: each element is below 256, as those of a `&[u8]` are (claims_bytes)
pub record Looped (absent w : List ℕ) (first : Sector) (t : Region) (name : List ℕ) (r : Looked) : Type 0 where
  pub never_ends : r ≡ Err error.Looped → Endless (step_at absent w first t name) 0
  pub reads_again : r ≡ Err error.Looped → ReadsAgain (step_at absent w first t name) 0
  pub let_through : r ≡ Err error.Looped → bad_sought name ≡ false
  pub where_endless : bad_sought name ≡ false → Endless (step_at absent w first t name) 0 → r ≡ Err error.Looped
  pub where_again : bad_sought name ≡ false → ReadsAgain (step_at absent w first t name) 0 → r ≡ Err error.Looped

-- under either rule, with its absent links
abbrev pub LoopedExactly : Type 0
LoopedExactly = (w : List ℕ) → ((i : ℕ) → get_or w i 0 < 256) → (first : Sector) (t : Region) (name : List ℕ)
    (rule : ℕ) (absent : List ℕ) → absent_under rule ≡ some absent
    → (r : Looked) → lookup.told r ≡ lookup_of rule w first t name → Looped absent w first t name r

-- THE COUNT that an answer carries is the length of the chain, under either rule
abbrev pub Counted : Type 0
Counted = (w : List ℕ) (first : Sector) (t : Region) (name : List ℕ) (rule : ℕ) (absent : List ℕ)
    → absent_under rule ≡ some absent → (r : Looked) → lookup.told r ≡ lookup_of rule w first t name
    → (n : ℕ) → count_of (lookup.told r) ≡ some n → LengthIs (step_at absent w first t name) 0 n

-- THE STRICT CHECK ACCEPTS EXACTLY the tables of the rule: where it answers a number, the table whose walk lists xs
-- keeps the rule, and the list has xs and then zeros; and where a table keeps the rule, and the list has room for
-- its entries, it answers their number
pub record Strict (w : List ℕ) (first : Sector) (t : Region) (list scratch : List ℕ) : Type 0 where
  pub accepted : (k : ℕ) → checking.strict_answer w first t (length list) (length scratch) ≡ gives k
      → (xs : List ℕ) × (Accepts w first t xs × ((length xs ≡ k)
      × (checking.list_after w first t list (length scratch) ≡ xs ++ replicate (length list - k) 0)))
  pub accepts : (xs : List ℕ) → Accepts w first t xs → length xs ≤ length list → length list < length scratch
      → checking.strict_answer w first t (length list) (length scratch) ≡ gives (length xs)

abbrev pub StrictExactly : Type 0
StrictExactly = (w : List ℕ) (first : Sector) (t : Region) (list scratch : List ℕ) → Strict w first t list scratch
