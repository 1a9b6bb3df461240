-- A TREE IN ORDER OBEYS THE RULE: what is said of every entry of a tree is said of every entry that is reached from its place; so where the tree's names are in order,
-- every name that an entry's left link leads to is less than the entry's, every name that its right link leads to greater. Assumes nothing.
use Prim.Native.Nat.{ℕ}
use mathlib.Core.Path.{◌≡◌, subst}
use mathlib.Core.List.Memᴰ
use mathlib.Core.List.{List, [], ◌∷◌}
use mathlib.Core.Option.{Option, some, none}
use Rattle.units.specs.Told.{Told, gives}
use Rattle.units.specs.declared.Sector.{Sector}
use Rattle.units.specs.declared.Region.{Region}
use Rattle.read_entry.specs.declared.Placed.{Placed}
use Rattle.read_entry.specs.Entry.{read_at}
use Rattle.lookup_way.specs.Along.{Along, there, left, right, Real}
use Rattle.lookup_way.proofs.Along.{one_read}
use Rattle.lookup_way.proofs.Sets.{followed, real_cons}
use Rattle.strict_rule.specs.Accepts.{Reach, here, by_left, by_right, InOrder}
use Rattle.table_shape.specs.Shape.{Shape, Every, Hangs, nowhere, blank, entry, Ordered}
use Rattle.table_shape.proofs.Trees.{every_both, of_listed, From, hangs_reached}
use Rattle.table_shape.proofs.Ways.{WayFrom, inside}

module _ (f : ℕ → Told (Option Placed)) where
  -- what is reached is reached along links, none of them 0 or 65,535
  reach_way : {o p : ℕ} → Reach f o p → (ks : List ℕ) × Along f o p ks × Real ks
  reach_way here = ([], there, (λ k m. absurd (Memᴰ.not-nil m)))
  reach_way (by_left {x = x} e q r) =
      let a = reach_way r in
      let k : ℕ = x.header.left.0 in
      (k ∷ a.0, left e a.1, real_cons k a.0 (followed k q).0 (followed k q).1 a.2)
  reach_way (by_right {x = x} e q r) =
      let a = reach_way r in
      let k : ℕ = x.header.right.0 in
      (k ∷ a.0, right e a.1, real_cons k a.0 (followed k q).0 (followed k q).1 a.2)

  from_way : (place : Option ℕ) (p : ℕ) → From f place p → (ks : List ℕ) × WayFrom f place p ks × Real ks
  from_way none p h = absurd h
  from_way (some o) p h = reach_way h

  pub of_reached : (P : ℕ → Placed → Type 0) {place : Option ℕ} {s : Shape} → Hangs f place s → Every P s → (p : ℕ) (y : Placed) → From f place p → f p ≡ gives (some y) → P p y
  of_reached P {place} {s} h every p y from e =
      let a = from_way place p from in
      let g = of_listed (λ q z. P q z × (f q ≡ gives (some z))) s p (every_both _ _ _ s (λ q z u v. (u, v.1)) every (hangs_reached f h)) (inside f p y e h a.0 a.1 a.2) in
      subst (P p) (one_read g.1.1 e) g.1.0

module _ (w : List ℕ) (first : Sector) (t : Region) where
  pub obeys : {place : Option ℕ} {s : Shape} → Hangs (read_at w first t) place s → Ordered w s → Every (λ o x. InOrder w first t x) s
  obeys nowhere h = tt
  obeys (blank e) h = tt
  obeys (entry e a b) h = (
    record {
      left = λ p y q r d. of_reached (read_at w first t) _ a h.0 p y (rw q r) d;
      right = λ p y q r d. of_reached (read_at w first t) _ b h.1 p y (rw q r) d;
    },
    obeys a h.2,
    obeys b h.3,
  )
