-- A TABLE THAT WAS WRITTEN IS A TREE of crate table_shape, whose laws then say what the walk and lookups answer in it: it hangs at offset 0, its walk order is the
-- items' offsets, its names are in order, and it is as deep as the tree that was written is high. Assumes nothing.
use Prim.Native.Nat.{ℕ, suc, ◌+◌, ◌-◌, ◌*◌, ◌/◌, ◌≤◌, ◌<◌, max}
use mathlib.Core.Path.{◌≡◌, refl, sym, ap, ap₂, subst, ◌∙◌}
use mathlib.Core.Bool.{true, false}
use mathlib.Core.List.{List, [], ◌∷◌, ◌++◌, map-append, Memᴰ}
use mathlib.Core.Option.{Option, some, none}
use native.Mathlib.Omega.{arith}
use lib.ListN.{length, drop, replicate, length-append, length-drop, length-replicate}
use borrow.Author.Tests.{le-ltb, lt-leb, eq-eqb}
use Rattle.units.specs.Told.{gives}
use Rattle.units.specs.declared.Sector.{Sector}
use Rattle.units.specs.declared.Region.{Region}
use Rattle.layout_bytes.specs.Bytes.{all}
use Rattle.std.specs.declared.cmp.Ordering.{Ordering}
use Rattle.std.specs.declared.cmp.Ordering.TheVariants.{Less, Greater}
use Rattle.layout_name.specs.inner.Order.{opposite}
use Rattle.name_role.specs.Roles.{stored_order}
use Rattle.name_role.proofs.Roles.{stored_opposite}
use Rattle.layout_node.specs.Header.{is_blank}
use Rattle.read_entry.specs.Entry.{Placed, read_here, read_at}
use Rattle.read_entry.specs.Links.{is_in}
use Rattle.read_entry.proofs.Located.{read_by_tests}
use Rattle.lookup_way.proofs.Sets.{in_walk}
use Rattle.strict_rule.specs.Strict.{name_in}
use Rattle.table_shape.specs.Shape as shape
use Rattle.table_shape.specs.Shape.{Shape, preorder, Every, place_by, Hangs}
use Rattle.table_shape.proofs.Trees.{depth, EveryLink, headers, Solid, headers_solid}
use Rattle.table_shape.proofs.Reaches.{Stops}
use Rattle.avl_model.specs.Tree.{Tree, leaf, node, ht}
use Rattle.avl_model.specs.Laws.{All, Ordered}
use Rattle.avl_model.proofs.Avl as avl
use Rattle.table_model.specs.Entry.{Entry, Item}
use Rattle.table_model.specs.Place.{end_of, items}
use Rattle.table_model.specs.Table.{bytes_from, table_bytes}
use Rattle.table_model.specs.Said.{AllIn}
use Rattle.table_model.proofs.Geometry.{all_map, all_both, all_append, all_left, all_right}
use Rattle.agree.specs.Written.{Before, Stand, Written}
use Rattle.agree.specs.Agreement.{offsets, placed_at}
use Rattle.agree.proofs.Sized.{empty_size}
use Rattle.agree.proofs.Setting.{Setting, start, stop, end, link, next, free, item, its, reads, Back}
use Rattle.agree.proofs.Holds.{Ready, has_node, left_ready, right_ready, linked, ends, at_zero, all_back, setting, ready}

-- every item of a list is in it
pub all_mem : (xs : List Item) → AllIn (λ y. Memᴰ y xs) xs
all_mem [] = tt
all_mem (x ∷ xs) = (Memᴰ.head refl, all_map _ _ xs (λ y m. Memᴰ.tail m) (all_mem xs))

module _ (F : Setting) where
  -- the tree of a tree's items
  abbrev pub shape_of : ℕ → ℕ → Tree → Shape
  shape_of e s leaf = shape.leaf
  shape_of e s (node l i r) =
      shape.node (shape_of (stop F e i) (next F s i) l) (start F e i) (placed_at F.place (item F e s l i r)) (shape_of (end F (stop F e i) l) (free F (next F s i) l) r)

  -- what is said of every item, of every entry; and back
  pub of_items : (P : ℕ → Placed → Type 0) (x : Tree) (e s : ℕ) → AllIn (λ y. P y.offset (placed_at F.place y)) (its F e s x) → Every P (shape_of e s x)
  unfolding items
  of_items P leaf e s a = tt
  of_items P (node l i r) e s a =
      let A : List Item = its F (stop F e i) (next F s i) l in
      let B : List Item = its F (end F (stop F e i) l) (free F (next F s i) l) r in
      (a.0, of_items P l _ _ (all_left _ A B a.1), of_items P r _ _ (all_right _ A B a.1))

  pub to_items : (P : ℕ → Placed → Type 0) (x : Tree) (e s : ℕ) → Every P (shape_of e s x) → AllIn (λ y. P y.offset (placed_at F.place y)) (its F e s x)
  unfolding items
  to_items P leaf e s a = tt
  to_items P (node l i r) e s a =
      let A : List Item = its F (stop F e i) (next F s i) l in
      let B : List Item = its F (end F (stop F e i) l) (free F (next F s i) l) r in
      (a.0, all_append _ A B (to_items P l _ _ a.1) (to_items P r _ _ a.2))

  -- its walk order, and how deep it is
  pub lists_offsets : (x : Tree) (e s : ℕ) → preorder (shape_of e s x) ≡ offsets (its F e s x)
  unfolding items preorder
  lists_offsets leaf e s = refl
  lists_offsets (node l i r) e s =
      let A : List Item = its F (stop F e i) (next F s i) l in
      let B : List Item = its F (end F (stop F e i) l) (free F (next F s i) l) r in
      ap (λ (z : List ℕ). start F e i ∷ z) (ap₂ ◌++◌ (lists_offsets l _ _) (lists_offsets r _ _) ∙ sym (map-append _ A B))

  pub depth_is : (x : Tree) (e s : ℕ) → depth (shape_of e s x) ≡ ht x
  depth_is leaf e s = refl
  depth_is (node l i r) e s = ap₂ (λ (a b : ℕ). suc (max a b)) (depth_is l (stop F e i) (next F s i)) (depth_is r (end F (stop F e i) l) (free F (next F s i) l))

  -- of a tree's entries, of its items
  all_items : (P : Entry → Type 0) (x : Tree) (e s : ℕ) → All (λ i. P (F.entry i)) x → AllIn (λ y. P y.entry) (its F e s x)
  unfolding items
  all_items P leaf e s a = tt
  all_items P (node l i r) e s a =
      let A : List Item = its F (stop F e i) (next F s i) l in
      let B : List Item = its F (end F (stop F e i) l) (free F (next F s i) l) r in
      (a.0, all_append _ A B (all_items P l _ _ a.1) (all_items P r _ _ a.2))

  -- its names are in order: those of a subtree stand in one order to that of an item, and so where they are read
  of_side : (c : Ordering) (z : Item) → Back F z → (x : Tree) (e s : ℕ) → Ready F x e s → All (λ j. stored_order (F.entry j).name z.entry.name ≡ c) x
      → Every (λ p y. stored_order (name_in F.w y) (name_in F.w (placed_at F.place z)) ≡ c) (shape_of e s x)
  of_side c z d x e s g a =
      of_items _ x e s
      (all_both _ (Back F) _ (its F e s x) (λ y q b. rw (b.named, d.named) q) (all_items (λ k. stored_order k.name z.entry.name ≡ c) x e s a) (all_back F x e s g))

  pub in_order : (x : Tree) (e s : ℕ) → Ready F x e s → Ordered (Before F.entry) x → shape.Ordered F.w (shape_of e s x)
  in_order leaf e s g ord = tt
  in_order (node l i r) e s g ord =
      let z : Item = item F e s l i r in
      let has : Back F z = has_node F l i r e s g in
      let a = left_ready F l i r e s g in
      let b = right_ready F l i r e s g in (
        of_side Less z has l _ _ a ord.0,
        of_side Greater z has r _ _ b (avl.all_map _ _ r (λ j q. stored_opposite (F.entry i).name (F.entry j).name ∙ ap opposite q) ord.1),
        in_order l _ _ a ord.2,
        in_order r _ _ b ord.3,
      )

  -- it hangs where the link to it leads, and no link of it leads to a blank header
  abbrev Hung : Option ℕ → Shape → Type 0
  Hung place s = (h : Hangs (λ o. reads F o) place s) × Solid (λ o. reads F o) h

  hung_node : (l : Tree) (i : ℕ) (r : Tree) (e s : ℕ) → Ready F (node l i r) e s → Hung (place_by (link F (stop F e i) l)) (shape_of (stop F e i) (next F s i) l)
      → Hung (place_by (link F (end F (stop F e i) l) r)) (shape_of (end F (stop F e i) l) (free F (next F s i) l) r) → Hung (some (start F e i)) (shape_of e s (node l i r))
  hung_node l i r e s g a b = (shape.entry (has_node F l i r e s g).reads a.0 b.0, (a.1, b.1))

  hung : (x : Tree) (e s : ℕ) → 0 < e → Ready F x e s → Hung (place_by (link F e x)) (shape_of e s x)
  unfolding is_in
  hung leaf e s h g = (shape.nowhere, tt)
  hung (node l i r) e s h g =
      let k = linked F l i r e s g h in
      let at : place_by (start F e i / 4) ≡ some (start F e i) = rw (in_walk (start F e i / 4) k.0 k.1) (ap some (sym k.2)) in
      subst (λ (p : Option ℕ). Hung p (shape_of e s (node l i r))) (sym at)
      (hung_node l i r e s g (hung l _ _ (omega arith) (left_ready F l i r e s g)) (hung r _ _ (omega (arith, (ends F l i r e s g).0)) (right_ready F l i r e s g)))

  pub hung_root : (l : Tree) (i : ℕ) (r : Tree) (s : ℕ) → Ready F (node l i r) 0 s → Hung (some 0) (shape_of 0 s (node l i r))
  hung_root l i r s g =
      subst (λ (o : ℕ). Hung (some o) (shape_of 0 s (node l i r))) (at_zero F l i r s g)
      (hung_node l i r 0 s g (hung l _ _ (omega arith) (left_ready F l i r 0 s g)) (hung r _ _ (omega (arith, (ends F l i r 0 s g).0)) (right_ready F l i r 0 s g)))

  -- of its links 0 alone is absent for the walk
  module _ (absent : List ℕ) (zero_in : is_in 0 absent ≡ true) where
    link_stops : (x : Tree) (e s : ℕ) → 0 < e → Ready F x e s → Stops absent (link F e x)
    link_stops leaf e s h g q = zero_in
    link_stops (node l i r) e s h g q =
        let k = linked F l i r e s g h in
        let z : false ≡ true = sym (in_walk (start F e i / 4) k.0 k.1) ∙ q in
        let y : ◌≡◌ {A = ℕ} 0 1 = cc in
        absurd (omega arith)

    pub stops : (x : Tree) (e s : ℕ) → Ready F x e s → EveryLink (Stops absent) (shape_of e s x)
    stops leaf e s g = tt
    stops (node l i r) e s g =
        let a = left_ready F l i r e s g in
        let b = right_ready F l i r e s g in (
          (link_stops l _ _ (omega arith) a, link_stops r _ _ (omega (arith, (ends F l i r e s g).0)) b),
          stops l _ _ a,
          stops r _ _ b,
        )

-- an empty table: fourteen bytes of 0xff at its start
all_same : (b n : ℕ) → all b (replicate n b) ≡ true
unfolding all
all_same b ℕ.zero = refl
all_same b (suc n) = rw (eq-eqb b b refl) (all_same b n)

module _ (entry : ℕ → Entry) (align s : ℕ) (w : List ℕ) (first : Sector) (t : Region) (stand : Stand w first t.sector (table_bytes entry align s leaf)) (sized : t.size ≡ 2048) where
  blank_here : drop stand.place w ≡ replicate 2048 255 ++ stand.rest
  unfolding table_bytes bytes_from items end_of
  blank_here = stand.here

  blank_read : (o : ℕ) → read_here w stand.place o ≡ gives none
  unfolding read_here is_blank
  blank_read o =
      let long : stand.place + 14 ≤ length w = omega (arith, simp (length-drop, length-append, length-replicate) at (ap length blank_here)) in
      rw (le-ltb (length w) (stand.place + 14) long, blank_here)
      (rw (all_same 255 14))

  pub empty_read : read_at w first t 0 ≡ gives none
  empty_read =
      let b : ℕ = 2048 * t.sector.0 + 0 in
      let same : b - 2048 * first.0 ≡ stand.place = omega (arith, stand.at_sector) in
      rw (read_by_tests w first t 0, lt-leb t.size 0 (omega arith), le-ltb b (2048 * first.0) (omega (arith, stand.at_sector)), same) (blank_read 0)

-- THE TREE OF A WRITTEN TABLE hangs at offset 0, and a lookup in it reads as many headers as it is high, or the one of an empty table
pub written_hangs : (entry : ℕ → Entry) (align s : ℕ) (x : Tree) (w : List ℕ) (first : Sector) (t : Region) (g : Written entry align s x w first t)
    → (h : Hangs (read_at w first t) (some 0) (shape_of (setting entry align s x w first t g) 0 s x)) × (headers (read_at w first t) h ≤ max 1 (ht x))
written_hangs entry align s leaf w first t g = (shape.blank (empty_read entry align s w first t g.stand (empty_size t.size g.sized)), omega arith)
written_hangs entry align s (node l i r) w first t g =
    let F : Setting = setting entry align s (node l i r) w first t g in
    let h = hung_root F l i r s (ready entry align s (node l i r) w first t g) in
    (h.0, omega (arith, headers_solid (read_at w first t) h.0 h.1, depth_is F (node l i r) 0 s))
