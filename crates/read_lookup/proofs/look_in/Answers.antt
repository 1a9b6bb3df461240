-- `read_lookup::look_in` meets its contract: each return of a turn is what the chain answers at the header that the turn reads. Assumes nothing.
use Rattle.std.proofs.Common.{◌≡◌, ℕ, zero, suc, ◌+◌, ◌-◌, ◌*◌, ◌≤◌, ◌<◌, Bool, true, false, List, [], ◌∷◌, refl, sym, ap, ◌∙◌, eqb, arith, Result, Ok, Err, Some, None, Option as Maybe}
use Rattle.std.proofs.Math.Option.{Option, some, none}
use Rattle.std.specs.Result.{IsErrAnd}
use Rattle.std.specs.declared.cmp.Ordering.{Ordering}
use Rattle.std.specs.declared.cmp.Ordering.TheVariants.{Less, Equal, Greater}
use borrow.Author.Tests.{ne_eqb}
use Rattle.units.specs.Told.{gives, refuses, pick}
use Rattle.units.specs.declared.Sector.{Sector}
use Rattle.units.specs.declared.Offset.{Offset}
use Rattle.units.specs.declared.Region.{Region}
use Rattle.units.specs.declared.Link.{Link}
use Rattle.name_role.specs.Roles.{bad_sought}
use Rattle.name_role.proofs.Roles.{Compared, sought_compared}
use Rattle.read_entry.specs.declared.ReadError.{ReadError}
use Rattle.read_entry.specs.Entry.{Placed, refused, read_at, name_of}
use Rattle.read_entry.specs.Entry as reading-of
use Rattle.read_entry.specs.Links.{is_in, offset_by}
use Rattle.read_lookup.specs.declared.Found.{Found}
use Rattle.read_lookup.specs.declared.LookupError.{LookupError}
use Rattle.read_lookup.specs.declared.LookupError.TheVariants as error
use Rattle.read_lookup.specs.Lookup.{Leads, found, missing, refused as refused-step, onward, by_link, by_order, by_read, step_at, ending, most, chain_from, lookup_by, told}
use Rattle.read_lookup.proofs.look_in.Goals as goal
use Rattle.read_lookup.proofs.look_in.Goals.{in-Less, in-Greater}

-- one header more
turn : (f : ℕ → Leads) (m n o : ℕ) → n < m → chain_from f (m - n) n o ≡ ending (f o) o (n + 1) (λ p. chain_from f (m - (n + 1)) (n + 1) p)
unfolding chain_from
turn f m n o h = let e : m - n ≡ suc (m - (n + 1)) = omega arith in rw e

-- no header more
stop : (f : ℕ → Leads) (m n o : ℕ) → m ≤ n → chain_from f (m - n) n o ≡ refuses 25 []
unfolding chain_from
stop f m n o h = let e : m - n ≡ zero = omega arith in rw e

-- where a link leads
led : Option ℕ → Leads
led (some o) = onward o
led none = missing

led_by : (b : Bool) (o : ℕ) → pick b missing (onward o) ≡ led (pick b none (some o))
unfolding led
led_by true o = refl
led_by false o = refl

by_offset : (absent : List ℕ) (k : ℕ) → by_link absent k ≡ led (offset_by absent k)
unfolding by_link offset_by
by_offset absent k = led_by (is_in k absent) (4 * k)

module _ (w : List ℕ) (first : Sector) (t : Region) (name : List ℕ) (absent : ℕ) where
  bad : true ≡ bad_sought name → refuses 2 [] ≡ lookup_by (0 ∷ absent ∷ []) w first t name
  unfolding lookup_by
  bad e = rw (← e)

  module _ (low : false ≡ bad_sought name) where
    empty : t.size ≡ 0 → refuses 21 [] ≡ lookup_by (0 ∷ absent ∷ []) w first t name
    unfolding lookup_by
    empty z = rw (← low, z)

    begins : (t.size ≡ 0 → ⊥) → (o : Offset) → o.0 ≡ 0 → lookup_by (0 ∷ absent ∷ []) w first t name ≡ chain_from (step_at (0 ∷ absent ∷ []) w first t name) 65536 0 o.0
    unfolding lookup_by
    begins z o is = rw (← low, ne_eqb _ _ z, is)

  -- a turn of the loop
  module _ (n : ℕ) (o : Offset) (so_far : lookup_by (0 ∷ absent ∷ []) w first t name ≡ chain_from (step_at (0 ∷ absent ∷ []) w first t name) (65536 - n) n o.0) where
    at_end : 65536 ≤ n → refuses 25 [] ≡ lookup_by (0 ∷ absent ∷ []) w first t name
    at_end h = sym (so_far ∙ stop (step_at (0 ∷ absent ∷ []) w first t name) 65536 n o.0 h)

    module _ (more : n < 65536) where
      ends : (s : Leads) → s ≡ step_at (0 ∷ absent ∷ []) w first t name o.0 → lookup_by (0 ∷ absent ∷ []) w first t name
          ≡ ending s o.0 (n + 1) (λ p. chain_from (step_at (0 ∷ absent ∷ []) w first t name) (65536 - (n + 1)) (n + 1) p)
      ends s e = so_far ∙ turn (step_at (0 ∷ absent ∷ []) w first t name) 65536 n o.0 more ∙ rw e

      unread : (e : ReadError) → refused e ≡ read_at w first t o.0 → (r : Result Found LookupError) → IsErrAnd r (λ v. v ≡ error.Read e) → told r ≡ lookup_by (0 ∷ absent ∷ []) w first t name
      unread e reading (Ok f) is = elim is [ ]
      unread e reading (Err v) is = rw is (sym (ends (by_read (0 ∷ absent ∷ []) w name (refused e)) (unfold step_at in rw (← reading))))

      -- what is read: no entry, or one
      module _ (r : Maybe Placed) (reading : reading-of.told (Ok r) ≡ read_at w first t o.0) where
        blank : r ≡ None → refuses 22 ((n + 1) ∷ []) ≡ lookup_by (0 ∷ absent ∷ []) w first t name
        blank is = sym (ends missing (unfold step_at in rw (← reading, is)))

        module _ (x : Placed) (is : r ≡ Some x) (part : List ℕ) (named : part ≡ name_of w x.place x.header.name_len) where
          ordered : (p : Ordering) → Compared p name part → by_order (0 ∷ absent ∷ []) x p ≡ step_at (0 ∷ absent ∷ []) w first t name o.0
          unfolding step_at
          ordered p compared = rw (← reading, is, ← named, ← sought_compared name part compared)

          same : Compared Equal name part → gives (record { entry = x; offset = o.0; headers = n + 1 }) ≡ lookup_by (0 ∷ absent ∷ []) w first t name
          same compared = sym (ends (found x) (ordered Equal compared))

          -- the link on the name's side
          leftward : (link : Link) → Compared Less name part → link ≡ x.header.left → by_link (0 ∷ absent ∷ []) link.0 ≡ step_at (0 ∷ absent ∷ []) w first t name o.0
          leftward link compared at = rw at (ordered Less compared)

          rightward : (link : Link) → Compared Greater name part → link ≡ x.header.right → by_link (0 ∷ absent ∷ []) link.0 ≡ step_at (0 ∷ absent ∷ []) w first t name o.0
          rightward link compared at = rw at (ordered Greater compared)

      module _ (link : Link) (led-by : by_link (0 ∷ absent ∷ []) link.0 ≡ step_at (0 ∷ absent ∷ []) w first t name o.0) where
        nowhere : none ≡ offset_by (0 ∷ absent ∷ []) link.0 → refuses 22 ((n + 1) ∷ []) ≡ lookup_by (0 ∷ absent ∷ []) w first t name
        unfolding led
        nowhere e = sym (ends missing (ap led e ∙ sym (by_offset (0 ∷ absent ∷ []) link.0) ∙ led-by))

        goes_on : (next : Offset) → some next.0 ≡ offset_by (0 ∷ absent ∷ []) link.0 →
            lookup_by (0 ∷ absent ∷ []) w first t name ≡ chain_from (step_at (0 ∷ absent ∷ []) w first t name) (65536 - (n + 1)) (n + 1) next.0
        unfolding led
        goes_on next e = ends (onward next.0) (ap led e ∙ sym (by_offset (0 ∷ absent ∷ []) link.0) ∙ led-by)

pub returns-then-is_bad_sought : goal.returns-then-is_bad_sought
returns-then-is_bad_sought c = bad _ _ _ _ _ c.if-is_bad_sought.ensures

pub returns-then-table-eq0 : goal.returns-then-table-eq0
returns-then-table-eq0 c = empty _ _ _ _ _ c.if-is_bad_sought.ensures c.if-table-eq0.true

pub loop-read-init : goal.loop-read-init
loop-read-init c = begins _ _ _ _ _ c.if-is_bad_sought.ensures c.if-table-eq0.false _ c.new-offset.ensures

pub returns-in_err-entry : goal.returns-in_err-entry
returns-in_err-entry c = unread _ _ _ _ _ _ _ c.loop-read.invariant c.loop-read-test.true _ c.in_err-entry.ensures _ c.from_residual.ensures.1

pub returns-in_default : goal.returns-in_default
returns-in_default c = blank _ _ _ _ _ _ _ c.loop-read.invariant c.loop-read-test.true _ c.in_ok-entry.ensures c.in_default.is

pub returns-in-Equal : goal.returns-in-Equal
returns-in-Equal c = same _ _ _ _ _ _ _ c.loop-read.invariant c.loop-read-test.true _ c.in_ok-entry.ensures _ c.in-Some.is _ c.name_in.ensures.1 c.in-Equal.ensures

pub returns-in_default-follow : goal.returns-in_default-follow
returns-in_default-follow c =
    nowhere _ _ _ _ _ _ _ c.loop-read.invariant c.loop-read-test.true _
    (elim c.match-compare.branch [
      | in-Less w ↦ leftward _ _ _ _ _ _ _ c.loop-read.invariant c.loop-read-test.true _ c.in_ok-entry.ensures _ c.in-Some.is _ c.name_in.ensures.1 _ w.in-Less.ensures w.link-is
      | in-Greater w ↦ rightward _ _ _ _ _ _ _ c.loop-read.invariant c.loop-read-test.true _ c.in_ok-entry.ensures _ c.in-Some.is _ c.name_in.ensures.1 _ w.in-Greater.ensures w.link-is
    ])
    c.in_default-follow.ensures

pub loop-read-preserved : goal.loop-read-preserved
loop-read-preserved c =
    goes_on _ _ _ _ _ _ _ c.loop-read.invariant c.loop-read-test.true _
    (elim c.match-compare.branch [
      | in-Less w ↦ leftward _ _ _ _ _ _ _ c.loop-read.invariant c.loop-read-test.true _ c.in_ok-entry.ensures _ c.in-Some.is _ c.name_in.ensures.1 _ w.in-Less.ensures w.link-is
      | in-Greater w ↦ rightward _ _ _ _ _ _ _ c.loop-read.invariant c.loop-read-test.true _ c.in_ok-entry.ensures _ c.in-Some.is _ c.name_in.ensures.1 _ w.in-Greater.ensures w.link-is
    ])
    _ c.in-Some-follow.ensures

pub returns : goal.returns
returns c = at_end _ _ _ _ _ _ _ c.loop-read.invariant c.loop-read-test.false
