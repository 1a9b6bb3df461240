-- FROM COLUMNS TO THE TABLE: of columns that hold a tree, placing and then writing in preorder leaves the table's bytes.
--     placeable, countable     what placing and counting ask is met
--     ends_table, free_table   and what they answer is what the table's items say
--     items_by_lem                 the items of the columns are the table's
--     spaces, table            what writing asks is met, and it leaves the table's bytes
-- Assumes nothing.
use Rattle.std.proofs.Common.{ℕ, zero, suc, ◌+◌, ◌*◌, ◌%◌, ◌≤◌, ◌<◌, ◌≡◌, refl, sym, ap, ap₂, subst, ◌∙◌, true, false, List, [], ◌∷◌, ◌++◌, append_assoc, append-nil, ltb, length, get_or, drop, eq-eqb, ne_eqb, arith}
use Rattle.units.specs.Told.{gives, refuses, pick}
use Rattle.layout_node.specs.Header.{entry_length}
use Rattle.layout_sector.specs.Counter.{aligned_up}
use Rattle.dirtab_entry.specs.declared.Kind.{Kind}
use Rattle.dirtab_entry.specs.declared.Kind.TheVariants.{File, Directory}
use Rattle.dirtab_entry.specs.Entry.{kind_for, is_directory, rounded, stored_size}
use Rattle.avl_model.specs.Tree.{Tree, leaf, node, none, top}
use Rattle.avl_model.specs.Laws.{All}
use Rattle.avl_model.specs.Order.{order}
use Rattle.avl_model.specs.inner.Seek.{Links}
use Rattle.avl_model.proofs.Avl.{all_map}
use Rattle.table_model.specs.Entry.{Entry, Item, length_of}
use Rattle.table_model.specs.Place.{start_of, stop_of, end_of, free_after, free_of, link_to, item_of, items}
use Rattle.table_model.specs.Table.{any_far, size_of, table_bytes}
use Rattle.table_model.specs.inner.Writing.{Spaced, written_over}
use Rattle.table_model.proofs.Places.{FitsAt, start_at, stop_four, end_four, end_after}
use Rattle.table_model.proofs.Bytes.{end_size}
use Rattle.table_model.proofs.Geometry.{items_spaced}
use Rattle.table_model.proofs.Writing.{written_table}
use Rattle.dirtab_place.specs.inner.Places.{ends_over, places_over, free_over, Placeable, Sized, Countable}
use Rattle.dirtab_place.proofs.Along.{SameLength, Kept, ends_are, places_are, places_length, SameSize, free_are}
use Rattle.dirtab_write.specs.inner.Columns.{Cols, entry_by, link_by, item_by, items_by, Headed, Numbered, Spaces}
use Rattle.dirtab_write.specs.inner.Holds.{Holds}
use Rattle.dirtab_write.proofs.Steps.{name-length}

-- what holds of each node holds of each number of the preorder
abbrev Each : (ℕ → Type 0) → List ℕ → Type 0
Each P [] = Unit {0}
Each P (x ∷ xs) = P x × Each P xs

each_append : (P : ℕ → Type 0) (xs ys : List ℕ) → Each P xs → Each P ys → Each P (xs ++ ys)
each_append P [] ys a b = b
each_append P (x ∷ xs) ys a b = (a.0, each_append P xs ys a.1 b)

each_order : (P : ℕ → Type 0) (t : Tree) → All P t → Each P (order t)
each_order P leaf a = tt
each_order P (node l i r) a = (a.0, each_append P (order l) (order r) (each_order P l a.1) (each_order P r a.2))

each_at : (P : ℕ → Type 0) (xs : List ℕ) (k : ℕ) → Each P xs → k < length xs → P (get_or xs k 0)
each_at P [] k a h = absurd (omega arith)
each_at P (x ∷ xs) zero a h = a.0
each_at P (x ∷ xs) (suc k) a h = each_at P xs k a.1 (omega arith)

pub in_order : (P : ℕ → Type 0) (t : Tree) → All P t → (k : ℕ) → k < length (order t) → P (get_or (order t) k 0)
in_order P t a k h = each_at P (order t) k (each_order P t a) h

all_both : (P Q R : ℕ → Type 0) (t : Tree) → ((i : ℕ) → P i → Q i → R i) → All P t → All Q t → All R t
all_both P Q R leaf f a b = tt
all_both P Q R (node l i r) f a b = (f i a.0 b.0, all_both P Q R l f a.1 b.1, all_both P Q R r f a.2 b.2)

links_below : (L R : List ℕ) (n : ℕ) (t : Tree) → Links L R n t → All (λ j. j < n) t
links_below L R n leaf g = tt
links_below L R n (node l i r) g = (g.0.fits, links_below L R n l g.1, links_below L R n r g.2)

top_below : (n : ℕ) (t : Tree) → All (λ j. j < n) t → (top t ≡ none → ⊥) → top t < n
top_below n leaf a h = absurd (h refl)
top_below n (node l i r) a h = a.0

stored_low : (k : Kind) (n : ℕ) → n ≤ 4294967295 → (is_directory k ≡ true → n ≤ 4294965248) → stored_size k n ≤ 4294967295
stored_low File n h f = h
stored_low Directory n h f = let g : n ≤ 4294965248 = f refl in omega arith

-- the columns that hold a tree; the places in them don't count
module _ (held : Cols) (n : ℕ) (t : Tree) (h : Holds held n t) where
  abbrev with : List ℕ → Cols
  with p = record held { place = p }

  abbrev entry : ℕ → Entry
  entry = entry_by held

  below : All (λ j. j < n) t
  below = links_below held.left held.right n t h.links

  of_each : (P : ℕ → Type 0) → ((j : ℕ) → j < n → P j) → All P t
  of_each P f = all_map (λ j. j < n) P t f below

  same_length : All (SameLength entry held.len) t
  same_length = of_each (SameLength entry held.len) (λ j k. ap entry_length (name-length held j (h.inside j k)))

  same_size : All (SameSize entry held.size held.kind) t
  same_size = of_each (SameSize entry held.size held.kind) (λ j k. refl)

  -- the sizes are numbers of 32 bits
  module _ (words : (j : ℕ) → get_or held.size j 0 ≤ 4294967295) where
    pub fits : All (FitsAt entry) t
    fits = of_each (FitsAt entry) (λ j k. record {
      short = omega (arith, name-length held j (h.inside j k), h.short j k);
      small = stored_low (kind_for (get_or held.kind j 0)) (get_or held.size j 0) (words j) (h.sized j k).low;
    })

  pub placeable : (p : ℕ) → n ≤ p → Placeable (order t) held.len p
  placeable p g = record {
    in_len = in_order (λ j. j < length held.len) t (of_each _ (λ j k. (h.inside j k).ends));
    in_place = in_order (λ j. j < p) t (of_each _ (λ j k. omega arith));
    short = in_order (λ j. get_or held.len j 0 ≤ 255) t (of_each _ h.short);
  }

  pub countable : Countable (order t) held.size held.kind
  countable = in_order (Sized held.size held.kind) t (of_each _ h.sized)

  pub ends_table : (s : ℕ) → ends_over held.len 0 (order t) ≡ pick (any_far (items entry 1 0 s t)) (refuses 7 []) (gives (end_of entry 0 t))
  ends_table s = ends_are entry held.len 1 s t same_length

  pub free_table : (s : ℕ) → s ≤ 4294967295 → free_over held.size held.kind s (order t) ≡ pick (ltb 4294967295 (free_of entry 1 s t)) (refuses 8 []) (gives (free_of entry 1 s t))
  free_table s g = free_are entry held.size held.kind t s same_size g

  -- a column of places, as placing leaves it where no offset is too far
  module _ (words : (j : ℕ) → get_or held.size j 0 ≤ 4294967295) (s : ℕ) (near : any_far (items entry 1 0 s t) ≡ false) (p₀ : List ℕ) (long : n ≤ length p₀) where
    abbrev p : List ℕ
    p = places_over held.len 0 (order t) p₀

    abbrev c : Cols
    c = with p

    kept : Kept entry held.len p 0 t
    kept = places_are entry held.len 1 s t p₀ same_length h.once (of_each (λ j. j < length p₀) (λ j k. omega arith)) near

    link_is : (x : Tree) (j e : ℕ) → j ≡ top x → All (λ i. i < n) x → Kept entry held.len p e x → link_to entry e x ≡ link_by p j
    unfolding link_by
    link_is leaf j e q b k = rw (eq-eqb j none q)
    link_is (node l i r) j e q b k = let m = h.small in let ne : i ≡ none → ⊥ = λ z. omega (arith, b.0) in rw (q, ne_eqb i none ne, k.0)

    item_is : (l : Tree) (i : ℕ) (r : Tree) (e s : ℕ) → Links held.left held.right n (node l i r) → All (FitsAt entry) (node l i r) → e % 4 ≡ 0
        → Kept entry held.len p e (node l i r) → item_of entry 1 e s l i r ≡ item_by c (aligned_up 1 s) i
    item_is l i r e s g f four k =
        let o : start_of entry e i ≡ 4 * get_or p i 0 = omega (arith, k.0, (start_at entry e i f.0).four four) in
        let a = link_is l (get_or held.left i 0) (stop_of entry e i) g.0.left (links_below held.left held.right n l g.1) k.1 in
        let b = link_is r (get_or held.right i 0) (end_of entry (stop_of entry e i) l) g.0.right (links_below held.left held.right n r g.2) k.2 in
        λ q. record { entry = entry i; offset = o q; sector = aligned_up 1 s; left = a q; right = b q }

    items_append : (x : Tree) (e s : ℕ) (js : List ℕ) → Links held.left held.right n x → All (FitsAt entry) x → e % 4 ≡ 0 → Kept entry held.len p e x
        → items_by c s (order x ++ js) ≡ items entry 1 e s x ++ items_by c (free_of entry 1 s x) js
    unfolding items_by items free_of
    items_append leaf e s js g f four k = refl
    items_append (node l i r) e s js g f four k =
        let e₁ : ℕ = stop_of entry e i in
        let s₁ : ℕ = free_after entry 1 s i in
        let e₂ : ℕ = end_of entry e₁ l in
        let s₂ : ℕ = free_of entry 1 s₁ l in
        let four₁ = stop_four entry e i f.0 four in
        let four₂ = end_four entry l e₁ f.1 four₁ in
        ap₂ ◌∷◌ (sym (item_is l i r e s g f four k))
        (ap (items_by c s₁) (append_assoc (order l) (order r) js)
        ∙ items_append l e₁ s₁ (order r ++ js) g.1 f.1 four₁ k.1
        ∙ ap (λ (ys : List Item). items entry 1 e₁ s₁ l ++ ys) (items_append r e₂ s₂ js g.2 f.2 four₂ k.2)
        ∙ sym (append_assoc (items entry 1 e₁ s₁ l) (items entry 1 e₂ s₂ r) _))

    pub items_by_lem : items_by c s (order t) ≡ items entry 1 0 s t
    unfolding items_by
    items_by_lem = ap (items_by c s) (sym (append-nil (order t))) ∙ items_append t 0 s [] h.links (fits words) refl kept ∙ append-nil (items entry 1 0 s t)

    -- each entry ends where the tree's do, at the latest
    stops_in : (x : Tree) (e m : ℕ) → All (FitsAt entry) x → e % 4 ≡ 0 → Kept entry held.len p e x → end_of entry e x ≤ m
        → All (λ i. 4 * get_or p i 0 + length_of (entry i) ≤ m) x
    unfolding end_of
    stops_in leaf e m f four k g = tt
    stops_in (node l i r) e m f four k g =
        let e₁ : ℕ = stop_of entry e i in
        let e₂ : ℕ = end_of entry e₁ l in
        let four₁ = stop_four entry e i f.0 four in
        let four₂ = end_four entry l e₁ f.1 four₁ in
        let a = end_after entry l e₁ f.1 in
        let b = end_after entry r e₂ f.2 in (
          omega (arith, k.0, (start_at entry e i f.0).four four),
          stops_in l e₁ m f.1 four₁ k.1 (omega arith),
          stops_in r e₂ m f.2 four₂ k.2 g,
        )

    headed : (x : Tree) → Links held.left held.right n x → All (λ j. Headed c j) x
    headed leaf g = tt
    headed (node l i r) g =
        let b = links_below held.left held.right n (node l i r) g in
        let q : length p ≡ length p₀ = places_length held.len 0 (order t) p₀ in (
          record {
            in_left = omega (arith, h.in_left, b.0);
            in_right = omega (arith, h.in_right, b.0);
            to_left = λ ne. let z = top_below n l b.1 (λ u. ne (g.0.left ∙ u)) in omega (arith, g.0.left);
            to_right = λ ne. let z = top_below n r b.2 (λ u. ne (g.0.right ∙ u)) in omega (arith, g.0.right);
            sized = h.sized i b.0;
          },
          headed l g.1,
          headed r g.2,
        )

    numbered_from : (m i : ℕ) → Headed c i → (4 * get_or p i 0 + length_of (entry i) ≤ m) × (i < n) → Numbered c m i
    numbered_from m i a b =
        let q : length p ≡ length p₀ = places_length held.len 0 (order t) p₀ in
        let k = b.1 in
        record {
          headed = a;
          in_place = omega arith;
          inside = h.inside i b.1;
          short = h.short i b.1;
          fits = omega (arith, b.0, name-length held i (h.inside i b.1));
        }

    -- WHAT WRITING ASKS IS MET
    pub spaces : (f m : ℕ) → free_over held.size held.kind s (order t) ≡ gives f → rounded (size_of entry t) ≤ m → Spaces c (order t) s (rounded (size_of entry t)) m
    spaces f m counted room =
        let e : end_of entry 0 t ≤ rounded (size_of entry t) = omega (arith, end_size entry t) in
        record {
          writes = record {
            numbered = in_order (Numbered c m) t (all_both _ _ _ t (numbered_from m) (headed t h.links)
                (all_both _ _ _ t (λ i a b. (a, b)) (stops_in t 0 m (fits words) refl kept (omega arith)) below));
            free = f;
            counted = counted;
          };
          room = room;
          spaced = subst (Spaced 0 (rounded (size_of entry t))) (sym items_by_lem) (items_spaced entry 1 t 0 s (rounded (size_of entry t)) (fits words) refl e);
        }

    -- AND IT LEAVES THE TABLE'S BYTES
    pub table : (d : List ℕ) → written_over (rounded (size_of entry t)) (items_by c s (order t)) d ≡ table_bytes entry 1 s t ++ drop (rounded (size_of entry t)) d
    table d = ap (λ (xs : List Item). written_over (rounded (size_of entry t)) xs d) items_by_lem ∙ written_table entry 1 t s d
