-- How many entries a tree has: its offsets are four times links that the walk follows, each listed once, so at most 65,535. Assumes nothing.
use Prim.Native.Nat.{ℕ, ◌*◌, ◌/◌, ◌≤◌, ◌<◌}
use mathlib.Core.Path.{◌≡◌, refl}
use mathlib.Core.Bool.{Bool, true, false}
use mathlib.Core.List.{List, Memᴰ}
use mathlib.Core.Option.{Option, some, none}
use native.Mathlib.Omega.{arith}
use native.Mathlib.Decide.{dec_lt}
use lib.ListN.{length, get_or}
use Rattle.units.specs.Told.{pick}
use Rattle.units.specs.declared.Sector.{Sector}
use Rattle.units.specs.declared.Region.{Region}
use Rattle.read_entry.specs.Entry.{read_at}
use Rattle.read_entry.specs.Links.{is_in, walk_absent}
use Rattle.read_entry.proofs.Fit.{Bytes, left_fits, right_fits}
use Rattle.read_lookup.proofs.Pigeonhole.{Two, pigeonhole}
use Rattle.lookup_way.proofs.Sets.{followed}
use Rattle.strict_rule.proofs.Accepted.{at_mem}
use Rattle.table_shape.specs.Shape.{Shape, preorder, Every, place_by, Hangs, nowhere, blank, entry}
use Rattle.table_shape.proofs.Trees.{of_listed}

-- no number stands at two places of a list
abbrev pub Once : List ℕ → Type 0
Once xs = (i j : ℕ) → i < length xs → j < length xs → get_or xs i 0 ≡ get_or xs j 0 → i ≡ j

-- an offset is four times a link that the walk follows, or 0
abbrev Linked : ℕ → Type 0
Linked o = (k : ℕ) × (k < 65535) × (o ≡ 4 * k)

-- a list of those, each once, has at most so many
few_by : (xs : List ℕ) → ((o : ℕ) → Memᴰ o xs → Linked o) → Once xs → Dec (65535 < length xs) → length xs ≤ 65535
few_by xs linked once (no h) = omega arith
few_by xs linked once (yes h) =
    let at : (i : ℕ) → i < length xs → Linked (get_or xs i 0) = λ i l. linked (get_or xs i 0) (at_mem xs i l) in
    let two : Two (λ i. get_or xs i 0 / 4) 65535 = pigeonhole 65535 (λ i. get_or xs i 0 / 4) (λ i l. let k = at i (omega arith) in omega (arith, k.1, k.2)) in
    let i : ℕ = two.i in
    let j : ℕ = two.j in
    let a = at i (omega (arith, two.before, two.within)) in
    let b = at j (omega (arith, two.within)) in
    let e : i ≡ j = once i j (omega (arith, two.before, two.within)) (omega (arith, two.within)) (omega (arith, two.same, a.2, b.2)) in
    absurd (omega (arith, two.before))

-- where a link leads
abbrev LinkedPlace : Option ℕ → Type 0
LinkedPlace none = Unit {0}
LinkedPlace (some o) = Linked o

linked_by : (k : ℕ) → k < 65536 → LinkedPlace (place_by k)
linked_by k h = by (is_in k walk_absent) refl
  where
    by : (b : Bool) → is_in k walk_absent ≡ b → LinkedPlace (pick b none (some (4 * k)))
    by true e = tt
    by false e = let n : (k ≡ 65535 → ⊥) = (followed k e).1 in (k, omega arith, refl)

module _ (w : List ℕ) (first : Sector) (t : Region) (bytes : Bytes w) where
  all_linked : {place : Option ℕ} {s : Shape} → Hangs (read_at w first t) place s → LinkedPlace place → Every (λ o x. Linked o) s
  all_linked nowhere h = tt
  all_linked (blank e) h = tt
  all_linked (entry {o = o} {x = x} e a b) h = (
    h,
    all_linked a (linked_by x.header.left.0 (left_fits w first t o bytes x e)),
    all_linked b (linked_by x.header.right.0 (right_fits w first t o bytes x e)),
  )

  pub few : (s : Shape) → Hangs (read_at w first t) (some 0) s → Once (preorder s) → length (preorder s) ≤ 65535
  few s hangs once =
      few_by (preorder s) (λ o m. (of_listed (λ p y. Linked p) s o (all_linked hangs (0, omega arith, refl)) m).1) once (dec_lt 65535 (length (preorder s)))
