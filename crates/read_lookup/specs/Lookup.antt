-- What a lookup answers: it follows a chain of entries, from offset 0 on, by the order of the sought name to each
-- entry's. Assumes nothing. The chain is cut at 65,536 headers, since there are no more offsets that a link can
-- name: a chain that reaches so many reads some offset twice, and so never ends, and no other does
-- (proofs/Laws.antt).
use Rattle.std.specs.Prelude.{ℕ, zero, suc, ◌+◌, ◌*◌, List, [], ◌∷◌, eqb, Result, Ok, Err}
use Rattle.std.proofs.Math.Option.{Option, some, none}
use Rattle.units.specs.Told.{Told, gives, refuses, pick}
use Rattle.units.specs.declared.Sector.{Sector}
use Rattle.units.specs.declared.Region.{Region}
use Rattle.std.specs.declared.cmp.Ordering.{Ordering}
use Rattle.std.specs.declared.cmp.Ordering.TheVariants.{Less, Equal, Greater}
use Rattle.name_role.specs.Roles.{sought_order, bad_sought}
use Rattle.read_entry.specs.Entry.{Placed, read_at, name_of}
use Rattle.read_entry.specs.Entry as reading
use Rattle.read_entry.specs.Links.{is_in, absent_under, under_rule}
use Rattle.read_lookup.specs.declared.Found.{Found}
use Rattle.read_lookup.specs.declared.LookupError.{LookupError}
use Rattle.read_lookup.specs.declared.LookupError.TheVariants as error

-- what the header at one offset leads to: the entry sought, nothing, a refusal, or the next offset
pub data Leads : Type 0 where
  found : Placed → Leads
  missing : Leads
  refused : ℕ → List ℕ → Leads
  onward : ℕ → Leads

-- by a link: an absent one leads nowhere, any other to its offset, four times the link
unfoldable pub by_link : List ℕ → ℕ → Leads
by_link absent k = pick (is_in k absent) missing (onward (4 * k))

-- a lesser name is left, a greater one right
abbrev pub by_order : List ℕ → Placed → Ordering → Leads
by_order absent x Less = by_link absent x.header.left.0
by_order absent x Equal = found x
by_order absent x Greater = by_link absent x.header.right.0

abbrev pub by_read : List ℕ → List ℕ → List ℕ → Told (Option Placed) → Leads
by_read absent w name (gives (some x)) =
    by_order absent x (sought_order name (name_of w x.place x.header.name_len))
by_read absent w name (gives none) = missing
by_read absent w name (refuses k vs) = refused k vs

-- one step of a lookup: the header at an offset
unfoldable pub step_at : List ℕ → List ℕ → Sector → Region → List ℕ → ℕ → Leads
step_at absent w first t name o = by_read absent w name (read_at w first t o)

-- what is given: the entry, its offset in the table, and the number of headers read
pub record Finding : Type 0 where
  pub entry : Placed
  pub offset : ℕ
  pub headers : ℕ

-- the answer after the header at offset o, the n-th that was read, if the chain ends there
abbrev pub ending : Leads → ℕ → ℕ → (ℕ → Told Finding) → Told Finding
ending (found x) o n next = gives (record { entry = x; offset = o; headers = n })
ending missing o n next = refuses 22 (n ∷ [])
ending (refused k vs) o n next = refuses k vs
ending (onward p) o n next = next p

-- no chain that ends reads more headers: there are no more offsets that a link can name
abbrev pub most : ℕ
most = 65536

-- a chain of at most k more headers, from an offset on, with n headers read
unfoldable pub chain_from : (ℕ → Leads) → ℕ → ℕ → ℕ → Told Finding
chain_from f zero n o = refuses 25 []
chain_from f (suc k) n o = ending (f o) o (n + 1) (λ p. chain_from f k (n + 1) p)

-- the answer of a lookup that takes these links for absent: 2, then 21, then what the chain from offset 0 gives
unfoldable pub lookup_by : List ℕ → List ℕ → Sector → Region → List ℕ → Told Finding
lookup_by absent w first t name =
    pick (bad_sought name) (refuses 2 [])
    (pick (eqb t.size 0) (refuses 21 [])
    (chain_from (step_at absent w first t name) most 0 0))

-- the answer of a lookup under the rule of a number: 29, then as by the rule's links
unfoldable pub lookup_of : ℕ → List ℕ → Sector → Region → List ℕ → Told Finding
lookup_of rule w first t name = under_rule (absent_under rule) (λ absent. lookup_by absent w first t name)

-- what each answer of the code stands for
abbrev pub told : Result Found LookupError → Told Finding
told (Ok f) = gives (record { entry = f.entry; offset = f.offset.0; headers = f.headers })
told (Err error.BadRule) = refuses 29 []
told (Err error.BadByte) = refuses 2 []
told (Err error.DirectoryEmpty) = refuses 21 []
told (Err (error.DoesNotExist n)) = refuses 22 (n ∷ [])
told (Err (error.Read e)) = reading.refused e
told (Err error.Looped) = refuses 25 []
