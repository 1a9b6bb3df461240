-- EVERY TABLE THAT IS WRITTEN PASSES THE STRICT CHECK at its reported size, which then lists what the walk lists: it is a table of the rule. Assumes nothing.
use Prim.Native.Nat.{ℕ, ◌≤◌}
use mathlib.Core.Path.{◌≡◌, sym, ap, subst, subst₂, ◌∙◌}
use mathlib.Core.Logic.{◌⊎◌, inl, inr}
use mathlib.Core.List.Memᴰ
use mathlib.Core.List.{List, [], ◌∷◌, Memᴰ}
use native.Mathlib.Omega.{arith}
use lib.ListN.{length-map}
use Rattle.units.specs.Told.{gives}
use Rattle.units.specs.declared.Sector.{Sector}
use Rattle.units.specs.declared.Region.{Region}
use Rattle.read_entry.specs.Entry.{Placed}
use Rattle.lookup_way.proofs.Along.{one_read}
use Rattle.strict_rule.specs.Strict.{end_of, strict_of}
use Rattle.strict_rule.specs.Accepts.{EntryAt, InPlace, InOrder, Accepts}
use Rattle.strict_rule.proofs.Accepts.{accepts}
use Rattle.table_shape.proofs.Obeys.{obeys}
use Rattle.avl_model.specs.Tree.{Tree}
use Rattle.avl_model.specs.Laws.{size}
use Rattle.table_model.specs.Entry.{Entry, Item}
use Rattle.table_model.specs.Place.{items}
use Rattle.table_model.specs.Table.{stop}
use Rattle.table_model.specs.Said.{AllIn, Stands, Apart}
use Rattle.table_model.proofs.Geometry.{of_item, items-length}
use Rattle.agree.specs.Written.{Written}
use Rattle.agree.specs.Agreement.{offsets, placed_at, ReadBack, Agreement}
use Rattle.agree.proofs.Setting.{Setting}
use Rattle.agree.proofs.Holds.{setting, ready}
use Rattle.agree.proofs.Shapes.{to_items, in_order, written_hangs}
use Rattle.agree.proofs.Agrees.{agreement}

-- of two items that are apart one ends where the other starts, or before
apart_two : (xs : List Item) (y z : Item) → Apart xs → Memᴰ y xs → Memᴰ z xs → (y.offset ≡ z.offset → ⊥) → (stop y ≤ z.offset) ⊎ (stop z ≤ y.offset)
apart_two [] y z a m n differ = absurd (Memᴰ.not-nil m)
apart_two (x ∷ xs) y z a m n differ = by (apart_two xs y z a.1) (Memᴰ.cases_cons m) (Memᴰ.cases_cons n)
  where
    after : (u : Item) → Memᴰ u xs → stop x ≤ u.offset
    after u i = of_item (λ v. stop x ≤ v.offset) xs u a.0 i

    by : (Memᴰ y xs → Memᴰ z xs → (y.offset ≡ z.offset → ⊥) → (stop y ≤ z.offset) ⊎ (stop z ≤ y.offset))
        → (y ≡ x) ⊎ Memᴰ y xs → (z ≡ x) ⊎ Memᴰ z xs → (stop y ≤ z.offset) ⊎ (stop z ≤ y.offset)
    by both (inl p) (inl q) = absurd (differ (ap (λ (v : Item). v.offset) (p ∙ sym q)))
    by both (inl p) (inr j) = inl (rw p (after z j))
    by both (inr i) (inl q) = inr (rw q (after y i))
    by both (inr i) (inr j) = both i j differ

module _ (entry : ℕ → Entry) (align s : ℕ) (x : Tree) (w : List ℕ) (first : Sector) (t : Region) (g : Written entry align s x w first t) where
  abbrev xs : List Item
  xs = items entry align 0 s x

  abbrev place : ℕ
  place = g.stand.place

  all : Agreement w first t place xs
  all = agreement entry align s x w first t g

  -- the item of a listed entry
  record ItemAt (o : ℕ) (y : Placed) : Type 0 where
    item : Item
    among : Memᴰ item xs
    at : item.offset ≡ o
    is : placed_at place item ≡ y

  item_at : (o : ℕ) (y : Placed) → Memᴰ o (offsets xs) → EntryAt w first t o y → ItemAt o y
  item_at o y m e =
      let a = Memᴰ.of_map (λ (z : Item). z.offset) xs m in
      record {
        item = a.0;
        among = a.1;
        at = a.2;
        is = one_read (subst (λ (p : ℕ). EntryAt w first t p (placed_at place a.0)) a.2 (of_item (ReadBack w first t place) xs a.0 all.read a.1).reads) e;
      }

  -- each stands in its place, ..
  stands : (y : Item) → Memᴰ y xs → InPlace w first t y.offset (placed_at place y)
  stands y m = let h = of_item (Stands 0 t.size) xs y all.inside m in record { inside = h.to; uncrossed = h.whole }

  -- .. no two overlap, ..
  apart : (y z : Item) → Memᴰ y xs → Memᴰ z xs → (y.offset ≡ z.offset → ⊥)
      → (end_of (placed_at place y).header y.offset ≤ z.offset) ⊎ (end_of (placed_at place z).header z.offset ≤ y.offset)
  apart y z m n differ = apart_two xs y z all.apart m n differ

  -- .. and the tree's names are in order
  ordered : AllIn (λ y. InOrder w first t (placed_at place y)) xs
  ordered =
      let F : Setting = setting entry align s x w first t g in
      to_items F (λ o y. InOrder w first t y) x 0 s
      (obeys w first t (written_hangs entry align s x w first t g).0 (in_order F x 0 s (ready entry align s x w first t g) g.writable.ordered))

  -- A WRITTEN TABLE IS ONE OF THE RULE: the walk ends, no entry is reached twice, entries are inside, whole and disjoint, and names are in order
  pub written_accepts : Accepts w first t (offsets xs)
  written_accepts = record {
    ends = λ room h. all.listed room (omega (arith, length-map xs (λ (y : Item). y.offset)));
    once = all.once;
    in_place = λ o y m e. let i = item_at o y m e in subst₂ (InPlace w first t) i.at i.is (stands i.item i.among);
    disjoint = λ o p y z m n e d differ.
        let i = item_at o y m e in
        let j = item_at p z n d in
        subst₂ (λ (q : ℕ) (u : Placed). (end_of u.header q ≤ p) ⊎ (end_of z.header p ≤ q)) i.at i.is
        (subst₂ (λ (q : ℕ) (u : Placed). (end_of (placed_at place i.item).header i.item.offset ≤ q) ⊎ (end_of u.header q ≤ i.item.offset)) j.at j.is
        (apart i.item j.item i.among j.among (λ q. differ (sym i.at ∙ q ∙ j.at))));
    in_order = λ o y m e. let i = item_at o y m e in subst (InOrder w first t) i.is (of_item (λ z. InOrder w first t (placed_at place z)) xs i.item ordered i.among);
  }

-- EVERY WRITTEN TABLE PASSES at its reported size, where the list has room: what is listed is what the walk lists
pub written_passes : (entry : ℕ → Entry) (align s : ℕ) (x : Tree) (w : List ℕ) (first : Sector) (t : Region) → Written entry align s x w first t
    → (room : ℕ) → size x ≤ room → strict_of w first t room ≡ gives (offsets (items entry align 0 s x))
written_passes entry align s x w first t g room h =
    accepts w first t room (offsets (items entry align 0 s x)) (written_accepts entry align s x w first t g)
    (omega (arith, length-map (items entry align 0 s x) (λ (y : Item). y.offset), items-length entry align x 0 s))
