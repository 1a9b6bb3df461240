-- A lookup in a table's own part of a window, as a table of sector 0 in a window that starts with sector 0, is the lookup in the window, with the entry's place
-- counted from the part's start. Assumes nothing.
use Rattle.std.proofs.Common.{◌≡◌, ℕ, zero, suc, ◌+◌, ◌-◌, ◌*◌, ◌≤◌, Bool, true, false, List, [], ◌∷◌, length, drop, length-drop, eqb, add_comm, refl, sym, ap, ◌∙◌, arith, Result, Ok, Err}
use Rattle.std.proofs.Math.Option.{Option, some, none}
use Rattle.std.specs.Result.{IsErrAnd}
use borrow.Author.Tests.{eqb-false}
use Rattle.units.specs.Told.{Told, gives, refuses, pick}
use Rattle.units.specs.declared.Sector.{Sector}
use Rattle.units.specs.declared.Offset.{Offset}
use Rattle.units.specs.declared.Region.{Region}
use Rattle.std.specs.declared.cmp.Ordering.{Ordering}
use Rattle.std.specs.declared.cmp.Ordering.TheVariants.{Less, Equal, Greater}
use Rattle.name_role.specs.Roles.{sought_order, bad_sought}
use Rattle.layout_node.specs.declared.Header.{Header}
use Rattle.read_entry.specs.Entry.{Placed, read_at, name_of}
use Rattle.read_entry.specs.Links.{is_in}
use Rattle.read_entry.specs.declared.Table.{Table}
use Rattle.read_entry.specs.inner.Part.{part_of, placed_on, moved, IsNarrowed}
use Rattle.read_entry.proofs.Fit.{entry_held}
use Rattle.read_entry.proofs.Moved.{read_moved, name_moved, read_nothing, Starts, inside, outside, starts}
use Rattle.read_lookup.specs.declared.Found.{Found}
use Rattle.read_lookup.specs.declared.LookupError.{LookupError}
use Rattle.read_lookup.specs.declared.LookupError.TheVariants as error
use Rattle.read_lookup.specs.Lookup.{Leads, found, missing, refused, onward, Finding, by_link, by_order, by_read, step_at, ending, most, chain_from, lookup_by, told}
use Rattle.read_lookup.proofs.Laws.{found_stands}

-- where a step leads, and an answer, with places counted from b on
abbrev pub moved_step : ℕ → Leads → Leads
moved_step b (found x) = found (placed_on b x)
moved_step b missing = missing
moved_step b (refused k vs) = refused k vs
moved_step b (onward p) = onward p

abbrev pub moved_answer : ℕ → Told Finding → Told Finding
moved_answer b (gives x) = gives (record { entry = placed_on b x.entry; offset = x.offset; headers = x.headers })
moved_answer b (refuses k vs) = refuses k vs

link_moved : (b : ℕ) (c : Bool) (k : ℕ) → pick c missing (onward (4 * k)) ≡ moved_step b (pick c missing (onward (4 * k)))
link_moved b true k = refl
link_moved b false k = refl

order_moved : (b : ℕ) (absent : List ℕ) (x : Placed) (c : Ordering) → by_order absent (placed_on b x) c ≡ moved_step b (by_order absent x c)
unfolding by_link
order_moved b absent x Less = link_moved b (is_in x.header.left.0 absent) x.header.left.0
order_moved b absent x Equal = refl
order_moved b absent x Greater = link_moved b (is_in x.header.right.0 absent) x.header.right.0

module _ (absent w : List ℕ) (name : List ℕ) (b : ℕ) (held : b ≤ length w) where
  read_step_moved : (r : Told (Option Placed)) → by_read absent w name (moved b r) ≡ moved_step b (by_read absent (drop b w) name r)
  read_step_moved (gives (some x)) =
      rw (name_moved w b held x.place x.header.name_len) (order_moved b absent x (sought_order name (name_of (drop b w) x.place x.header.name_len)))
  read_step_moved (gives none) = refl
  read_step_moved (refuses k vs) = refl

ending_moved : (b : ℕ) (s : Leads) (o n : ℕ) (next other : ℕ → Told Finding) → ((p : ℕ) → next p ≡ moved_answer b (other p)) →
    ending (moved_step b s) o n next ≡ moved_answer b (ending s o n other)
ending_moved b (found x) o n next other e = refl
ending_moved b missing o n next other e = refl
ending_moved b (refused k vs) o n next other e = refl
ending_moved b (onward p) o n next other e = e p

chain_moved : (b : ℕ) (f g : ℕ → Leads) → ((o : ℕ) → f o ≡ moved_step b (g o)) → (k n o : ℕ) → chain_from f k n o ≡ moved_answer b (chain_from g k n o)
unfolding chain_from
chain_moved b f g e zero n o = refl
chain_moved b f g e (suc k) n o =
    rw (e o) (ending_moved b (g o) o (n + 1) (λ p. chain_from f k (n + 1) p) (λ p. chain_from g k (n + 1) p) (λ p. chain_moved b f g e k (n + 1) p))

chain_refused : (f : ℕ → Leads) (m n o k : ℕ) (vs : List ℕ) → f o ≡ refused k vs → chain_from f (suc m) n o ≡ refuses k vs
unfolding chain_from
chain_refused f m n o k vs e = rw e

step_refused : (absent w : List ℕ) (first : Sector) (t : Region) (name : List ℕ) (o k : ℕ) (vs : List ℕ) → read_at w first t o ≡ refuses k vs → step_at absent w first t name o ≡ refused k vs
unfolding step_at
step_refused absent w first t name o k vs e = rw e

picks_moved : (b : ℕ) (p q s : Bool) → s ≡ q → (x y : Told Finding) → (q ≡ false → x ≡ moved_answer b y) →
    pick p (refuses 2 []) (pick q (refuses 21 []) x) ≡ moved_answer b (pick p (refuses 2 []) (pick s (refuses 21 []) y))
picks_moved b true q s d x y e = refl
picks_moved b false true s d x y e = rw d
picks_moved b false false s d x y e = rw d (e refl)

-- f and u: the first sector and the table for the part alone
module _ (absent w : List ℕ) (first : Sector) (t : Region) (name : List ℕ) (f : Sector) (u : Region) (f-is : f.0 ≡ 0) (u-is : u.sector.0 ≡ 0) (same : u.size ≡ t.size) where
  step_moved : (b : ℕ) → b + 2048 * first.0 ≡ 2048 * t.sector.0 → b ≤ length w → (o : ℕ) → step_at absent w first t name o ≡ moved_step b (step_at absent (drop b w) f u name o)
  unfolding step_at
  step_moved b begins held o = rw (read_moved w first t f u f-is u-is same b begins held o) (read_step_moved absent w name b held (read_at (drop b w) f u o))

  from_inside : (b : ℕ) → b + 2048 * first.0 ≡ 2048 * t.sector.0 → b ≤ length w → lookup_by absent w first t name ≡ moved_answer b (lookup_by absent (drop b w) f u name)
  unfolding lookup_by
  from_inside b begins held =
      let over : ℕ → Leads = step_at absent w first t name in
      let in_part : ℕ → Leads = step_at absent (drop b w) f u name in
      picks_moved b (bad_sought name) (eqb t.size 0) (eqb u.size 0) (ap (λ (n : ℕ). eqb n 0) same) (chain_from over most 0 0) (chain_from in_part most 0 0)
      (λ z. chain_moved b over in_part (step_moved b begins held) most 0 0)

  from_outside : (b : ℕ) → ((t.size ≡ 0 → ⊥) → read_at w first t 0 ≡ refuses 24 (0 ∷ [])) → lookup_by absent w first t name ≡ moved_answer b (lookup_by absent [] f u name)
  unfolding lookup_by
  from_outside b refused-there =
      let over : ℕ → Leads = step_at absent w first t name in
      let in_part : ℕ → Leads = step_at absent [] f u name in
      picks_moved b (bad_sought name) (eqb t.size 0) (eqb u.size 0) (ap (λ (n : ℕ). eqb n 0) same) (chain_from over most 0 0) (chain_from in_part most 0 0)
      (λ z.
      let d : t.size ≡ 0 → ⊥ = eqb-false t.size 0 z in
      chain_refused over 65535 0 0 24 (0 ∷ []) (step_refused absent w first t name 0 24 (0 ∷ []) (refused-there d))
      ∙ sym (ap (moved_answer b) (chain_refused in_part 65535 0 0 24 (0 ∷ []) (step_refused absent [] f u name 0 24 (0 ∷ []) (read_nothing w first t f u f-is u-is same d)))))

  moved_by : (part : List ℕ) → Starts w first t part → lookup_by absent w first t name ≡ moved_answer (length w - length part) (lookup_by absent part f u name)
  moved_by part (inside b begins held is base) = rw (← base, is) (from_inside b begins held)
  moved_by part (outside is refused-there) = rw is (from_outside (length w - 0) refused-there)

  -- the law
  pub lookup_moved : (part : List ℕ) → part ≡ part_of w first t → lookup_by absent w first t name ≡ moved_answer (length w - length part) (lookup_by absent part f u name)
  lookup_moved part e = moved_by part (starts w first t part e)

part_short_by : (w : List ℕ) (first : Sector) (t : Region) (part : List ℕ) → Starts w first t part → length part ≤ length w
part_short_by w first t part (inside b begins held is base) = let l : length (drop b w) ≡ length w - b = length-drop b w in rw is (omega arith)
part_short_by w first t part (outside is refused-there) = rw is (omega arith)

-- the part is no longer than the window
pub part_short : (t u : Table) → IsNarrowed t u → length u.window.now ≤ length t.window.now
part_short t u narrowed = part_short_by t.window.now t.first t.region u.window.now (starts t.window.now t.first t.region u.window.now narrowed.0)

-- a refusal stays
same_refusal : (b : ℕ) (e : LookupError) → told (Err e) ≡ moved_answer b (told (Err e))
same_refusal b error.BadRule = refl
same_refusal b error.BadByte = refl
same_refusal b error.DirectoryEmpty = refl
same_refusal b (error.DoesNotExist n) = refl
same_refusal b (error.Read e) = refl
same_refusal b error.Looped = refl

-- the answer in the part, as the code has it, and the answer for the window
module _ (absent : List ℕ) (t u : Table) (narrowed : IsNarrowed t u) (name : List ℕ) where
  abbrev over : Told Finding
  over = lookup_by absent t.window.now t.first t.region name

  abbrev within : Told Finding
  within = lookup_by absent u.window.now u.first u.region name

  whole : moved_answer (length t.window.now - length u.window.now) within ≡ over
  whole = sym (lookup_moved absent t.window.now t.first t.region name u.first u.region narrowed.1 narrowed.2 narrowed.3 u.window.now narrowed.0)

  module _ (x : Found) (found-there : told (Ok x) ≡ within) where
    -- an entry that is found stands in the part
    pub place_held : x.entry.place + 14 ≤ length u.window.now
    place_held =
        entry_held u.window.now u.first u.region x.offset.0 x.entry
        (found_stands absent u.window.now u.first u.region name (record { entry = x.entry; offset = x.offset.0; headers = x.headers }) (sym found-there)).0

    -- and in the window, its place is counted from the part's start
    pub found_over : gives (record {
      entry = record { header = x.entry.header; place = x.entry.place + (length t.window.now - length u.window.now) };
      offset = x.offset.0;
      headers = x.headers;
    }) ≡ over
    found_over = rw (add_comm x.entry.place (length t.window.now - length u.window.now)) (ap (moved_answer (length t.window.now - length u.window.now)) found-there ∙ whole)

  -- a refusal in the part is the window's
  pub refused_over : (e : LookupError) → told (Err e) ≡ within → (r : Result Found LookupError) → IsErrAnd r (λ v. v ≡ e) → told r ≡ over
  refused_over e refused-there (Ok f) is = elim is [ ]
  refused_over e refused-there (Err v) is = rw is (same_refusal (length t.window.now - length u.window.now) e ∙ ap (moved_answer (length t.window.now - length u.window.now)) refused-there ∙ whole)
