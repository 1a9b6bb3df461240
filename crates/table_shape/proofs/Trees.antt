-- Laws of the trees themselves: what is said of every entry, how deep a tree is, and which entries a tree has that hangs at a place. Assumes nothing.
use Prim.Native.Nat.{ℕ, suc, ◌*◌, ◌≤◌, max}
use mathlib.Core.Path.{◌≡◌, refl, sym, subst}
use mathlib.Core.Bool.{Bool, true, false}
use mathlib.Core.Logic.{◌⊎◌, inl, inr}
use mathlib.Core.List.Memᴰ
use mathlib.Core.List.{List, [], ◌∷◌, ◌++◌, Memᴰ}
use mathlib.Core.Option.{Option, some, none}
use native.Mathlib.Omega.{arith}
use borrow.Author.Tests.{le-leb}
use lib.ListN.{length, length-append}
use Rattle.units.specs.Told.{Told, gives, refuses, pick}
use Rattle.units.specs.declared.Sector.{Sector}
use Rattle.units.specs.declared.Region.{Region}
use Rattle.read_entry.specs.declared.Placed.{Placed}
use Rattle.read_entry.specs.Entry.{read_at}
use Rattle.read_entry.specs.Links.{is_in, walk_absent}
use Rattle.read_entry.proofs.Located.{read_by_tests}
use Rattle.strict_rule.specs.Accepts.{Reach, here, by_left, by_right}
use Rattle.table_shape.specs.Shape.{Shape, leaf, node, preorder, Every, place_by, Hangs, nowhere, blank, entry}

-- how many entries there are at most one below the other
abbrev pub depth : Shape → ℕ
depth leaf = 0
depth (node l o x r) = suc (max (depth l) (depth r))

-- EVERY ENTRY: what follows from one property, and from two
pub every_map : (P Q : ℕ → Placed → Type 0) (s : Shape) → ((o : ℕ) (x : Placed) → P o x → Q o x) → Every P s → Every Q s
every_map P Q leaf g h = tt
every_map P Q (node l o x r) g h = (g o x h.0, every_map P Q l g h.1, every_map P Q r g h.2)

pub every_both : (P Q R : ℕ → Placed → Type 0) (s : Shape) → ((o : ℕ) (x : Placed) → P o x → Q o x → R o x) → Every P s → Every Q s → Every R s
every_both P Q R leaf g h k = tt
every_both P Q R (node l o x r) g h k = (g o x h.0 k.0, every_both P Q R l g h.1 k.1, every_both P Q R r g h.2 k.2)

pub every_all : (P : ℕ → Placed → Type 0) (s : Shape) → ((o : ℕ) (x : Placed) → P o x) → Every P s
every_all P leaf g = tt
every_all P (node l o x r) g = (g o x, every_all P l g, every_all P r g)

-- both links of every entry have a property
abbrev pub EveryLink : (ℕ → Type 0) → Shape → Type 0
EveryLink P = Every (λ o x. P x.header.left.0 × P x.header.right.0)

-- every entry is listed
pub every_listed : (s : Shape) → Every (λ o x. Memᴰ o (preorder s)) s
unfolding preorder
every_listed leaf = tt
every_listed (node l o x r) = (
  Memᴰ.head refl,
  every_map _ _ l (λ p y m. Memᴰ.tail (Memᴰ.append_left (preorder r) m)) (every_listed l),
  every_map _ _ r (λ p y m. Memᴰ.tail (Memᴰ.append_right (preorder l) m)) (every_listed r),
)

-- and where an offset is listed, there is an entry
pub of_listed : (P : ℕ → Placed → Type 0) (s : Shape) (o : ℕ) → Every P s → Memᴰ o (preorder s) → (x : Placed) × P o x
unfolding preorder
of_listed P leaf o h m = absurd (Memᴰ.not-nil m)
of_listed P (node l p y r) o h m = at_node (of_listed P l o h.1) (of_listed P r o h.2) (Memᴰ.cases_cons m)
  where
    below : (Memᴰ o (preorder l) → (x : Placed) × P o x) → (Memᴰ o (preorder r) → (x : Placed) × P o x)
        → Memᴰ o (preorder l) ⊎ Memᴰ o (preorder r) → (x : Placed) × P o x
    below a b (inl n) = a n
    below a b (inr n) = b n

    at_node : (Memᴰ o (preorder l) → (x : Placed) × P o x) → (Memᴰ o (preorder r) → (x : Placed) × P o x)
        → (o ≡ p) ⊎ Memᴰ o (preorder l ++ preorder r) → (x : Placed) × P o x
    at_node a b (inl d) = (y, subst (λ (q : ℕ). P q y) (sym d) h.0)
    at_node a b (inr n) = below a b (Memᴰ.append_cases (preorder l) n)

-- a tree is no deeper than it has entries
pub depth_listed : (s : Shape) → depth s ≤ length (preorder s)
unfolding preorder
depth_listed leaf = omega arith
depth_listed (node l o x r) = omega (arith, depth_listed l, depth_listed r, length-append (preorder l) (preorder r))

module _ (f : ℕ → Told (Option Placed)) where
  -- how many headers a lookup reads at most from a place on: a blank one is read too
  abbrev pub headers : {place : Option ℕ} {s : Shape} → Hangs f place s → ℕ
  headers nowhere = 0
  headers (blank e) = 1
  headers (entry e a b) = suc (max (headers a) (headers b))

  pub headers-depth : {place : Option ℕ} {s : Shape} (h : Hangs f place s) → headers h ≤ suc (depth s)
  headers-depth nowhere = omega arith
  headers-depth (blank e) = omega arith
  headers-depth (entry e a b) = omega (arith, headers-depth a, headers-depth b)

  -- no link leads to a blank header
  abbrev pub Solid : {place : Option ℕ} {s : Shape} → Hangs f place s → Type 0
  Solid nowhere = Unit {0}
  Solid (blank e) = ⊥
  Solid (entry e a b) = Solid a × Solid b

  pub headers_solid : {place : Option ℕ} {s : Shape} (h : Hangs f place s) → Solid h → headers h ≤ depth s
  headers_solid nowhere g = omega arith
  headers_solid (blank e) g = absurd g
  headers_solid (entry e a b) g = omega (arith, headers_solid a g.0, headers_solid b g.1)

  -- an offset is reached from a place, as the walk follows links
  abbrev pub From : Option ℕ → ℕ → Type 0
  From none p = ⊥
  From (some o) p = Reach f o p

  pub from_link : (k p : ℕ) → From (place_by k) p → (is_in k walk_absent ≡ false) × Reach f (4 * k) p
  from_link k p h = by (is_in k walk_absent) refl h
    where
      by : (b : Bool) → is_in k walk_absent ≡ b → From (pick b none (some (4 * k))) p → (is_in k walk_absent ≡ false) × Reach f (4 * k) p
      by true e g = absurd g
      by false e g = (e, g)

  -- THE TREE OF A PLACE: every entry of it is read at its offset, and reached from the place
  pub hangs_reached : {place : Option ℕ} {s : Shape} → Hangs f place s → Every (λ p y. From place p × (f p ≡ gives (some y))) s
  hangs_reached nowhere = tt
  hangs_reached (blank e) = tt
  hangs_reached (entry {x = x} {l = l} {r = r} e a b) = (
    (here, e),
    every_map _ _ l (λ p y h. let g = from_link x.header.left.0 p h.0 in (by_left e g.0 g.1, h.1)) (hangs_reached a),
    every_map _ _ r (λ p y h. let g = from_link x.header.right.0 p h.0 in (by_right e g.0 g.1, h.1)) (hangs_reached b),
  )

-- a table of size 0 has no tree: nothing is read at offset 0
module _ (w : List ℕ) (first : Sector) (t : Region) where
  read_sized : (r : Option Placed) → read_at w first t 0 ≡ gives r → t.size ≡ 0 → ⊥
  read_sized r e z =
      let q : ◌≡◌ {A = Told (Option Placed)} (refuses 23 (0 ∷ [])) (gives r) = rw (read_by_tests w first t 0, le-leb t.size 0 (omega arith)) at e in
      let y : ◌≡◌ {A = ℕ} 0 1 = cc in
      omega arith

  pub hung_sized : {s : Shape} → Hangs (read_at w first t) (some 0) s → t.size ≡ 0 → ⊥
  hung_sized (blank e) = read_sized none e
  hung_sized (entry {x = x} e a b) = read_sized (some x) e
