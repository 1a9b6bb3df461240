-- DEMAND 3: what is written is what is listed is what is found. Assumes nothing.
use Prim.Native.Nat.{ℕ, suc, ◌+◌, ◌*◌, ◌≤◌}
use mathlib.Core.Path.{◌≡◌, refl, sym, ap, subst, ◌∙◌}
use mathlib.Core.Bool.{true, false}
use mathlib.Core.Logic.{◌⊎◌, inl, inr}
use mathlib.Core.List.Memᴰ
use mathlib.Core.List.{List, Memᴰ}
use mathlib.Core.Option.{some}
use native.Mathlib.Omega.{arith}
use native.Mathlib.Decide.{dec_le}
use lib.ListN.{length, length-map}
use Rattle.units.specs.Told.{Told, gives}
use Rattle.units.specs.declared.Sector.{Sector}
use Rattle.units.specs.declared.Region.{Region}
use Rattle.name_role.specs.Roles.{stored_keys, bad_sought}
use Rattle.name_role.proofs.Roles.{sought_equal→}
use Rattle.read_entry.specs.Entry.{Placed, read_at}
use Rattle.read_entry.specs.Links.{is_in}
use Rattle.read_lookup.specs.Lookup.{Finding, lookup_by}
use Rattle.read_lookup.proofs.Laws.{found_stands}
use Rattle.lookup_way.proofs.Along.{one_read}
use Rattle.read_walk.specs.Walk.{walk_of}
use Rattle.strict_rule.specs.Strict.{name_in}
use Rattle.table_shape.specs.Shape.{preorder, Hangs}
use Rattle.table_shape.proofs.Reaches as shape
use Rattle.table_shape.proofs.Walked.{walk_lists}
use Rattle.table_shape.proofs.Reaches.{all_reached, Lands, on, off, lands}
use Rattle.table_shape.proofs.Ways.{way_links}
use Rattle.avl_model.specs.Tree.{Tree, leaf, node, ht}
use Rattle.avl_model.specs.Laws.{All, size, least}
use Rattle.avl_model.proofs.Avl.{avl_size, least_20, least_mono}
use Rattle.table_model.specs.Entry.{Entry, Item}
use Rattle.table_model.specs.Place.{stop_of, end_of, free_after, free_of, items}
use Rattle.table_model.specs.Table.{size_of}
use Rattle.table_model.specs.Said.{AllIn, LinkFits}
use Rattle.table_model.proofs.Places.{FitsAt, start_at}
use Rattle.table_model.proofs.Geometry.{all_map, all_both, all_left, all_right, of_item, wider, inside, apart, sectors_apart}
use Rattle.table_model.proofs.Placing.{links_fit}
use Rattle.agree.specs.Written.{Writable, Written}
use Rattle.agree.specs.Agreement.{offsets, most_headers, placed_at, Same, ReadBack, Reached, Sound, Agreement}
use Rattle.agree.specs.Agreement as sound
use Rattle.agree.proofs.Setting.{Setting}
use Rattle.agree.proofs.Holds.{all_back, setting, ready}
use Rattle.agree.proofs.Shapes.{all_mem, shape_of, of_items, to_items, lists_offsets, depth_is, in_order, stops, written_hangs}
use Rattle.agree.proofs.Unique.{differ, way_unique}

-- how many entries there can be: an entry takes 16 bytes or more, and the last one starts below 262,144
module _ (entry : ℕ → Entry) where
  count_end : (x : Tree) (e : ℕ) → All (FitsAt entry) x → e + 16 * size x ≤ end_of entry e x
  unfolding end_of
  count_end leaf e f = omega arith
  count_end (node l i r) e f =
      omega (arith, (start_at entry e i f.0).after, count_end l (stop_of entry e i) f.1, count_end r (end_of entry (stop_of entry e i) l) f.2)

  end_small : (align : ℕ) (x : Tree) (e s : ℕ) → All (FitsAt entry) x → AllIn LinkFits (items entry align e s x) → e ≤ 262415 → end_of entry e x ≤ 262415
  unfolding end_of items
  end_small align leaf e s f a h = h
  end_small align (node l i r) e s f a h =
      let e₁ : ℕ = stop_of entry e i in
      let s₁ : ℕ = free_after entry align s i in
      let e₂ : ℕ = end_of entry e₁ l in
      let s₂ : ℕ = free_of entry align s₁ l in
      end_small align r e₂ s₂ f.2 (all_right _ (items entry align e₁ s₁ l) (items entry align e₂ s₂ r) a.1)
      (end_small align l e₁ s₁ f.1 (all_left _ (items entry align e₁ s₁ l) (items entry align e₂ s₂ r) a.1) (omega (arith, a.0, f.0.short)))

  pub few : (align s : ℕ) (x : Tree) → Writable entry align s x → size x ≤ 16400
  few align s x g =
      omega (arith, count_end x 0 g.fits, end_small align x 0 s g.fits (links_fit entry align s x g.placing g.placed) (omega arith))

  -- so the tree is at most 19 high
  pub low : (align s : ℕ) (x : Tree) → Writable entry align s x → ht x ≤ most_headers
  low align s x g = elim (dec_le (ht x) most_headers) [
    | yes k ↦ k
    | no k ↦ absurd (omega (arith, least_20, least_mono (suc most_headers) (ht x) (omega arith), avl_size x g.balanced, few align s x g))
  ]

-- A WRITTEN TABLE, its items xs, and its tree
module _ (entry : ℕ → Entry) (align s : ℕ) (x : Tree) (w : List ℕ) (first : Sector) (t : Region) (g : Written entry align s x w first t) where
  abbrev xs : List Item
  xs = items entry align 0 s x

  abbrev place : ℕ
  place = g.stand.place

  abbrev F : Setting
  F = setting entry align s x w first t g

  abbrev hangs : Hangs (read_at w first t) (some 0) (shape_of F 0 s x)
  hangs = (written_hangs entry align s x w first t g).0

  backs : AllIn (ReadBack w first t place) xs
  backs = all_back F x 0 s (ready entry align s x w first t g)

  -- the walk lists the offsets of the items
  walk_written : (room : ℕ) → length xs ≤ room → walk_of w first t room ≡ gives (offsets xs)
  walk_written room h =
      let q : preorder (shape_of F 0 s x) ≡ offsets xs = lists_offsets F x 0 s in
      walk_lists w first t hangs room (omega (arith, ap length q, length-map xs (λ (y : Item). y.offset))) ∙ ap gives q

  -- each item is reached
  reach : (y : Item) → shape.Reached w first t y.offset (placed_at place y) → ReadBack w first t place y → Reached w first t place xs y
  reach y r b = record {
    links = r.links;
    way = r.way;
    real = r.real;
    written = way_links (read_at w first t) (λ k. (z : Item) × Memᴰ z xs × ((k ≡ z.left) ⊎ (k ≡ z.right))) hangs
        (of_items F _ x 0 s (all_map _ _ xs (λ z m. ((z, m, inl refl), (z, m, inr refl))) (all_mem xs))) y.offset r.links r.way r.real;
    answers = λ absent name ascii q. r.answers absent name ascii (q ∙ ap stored_keys (sym b.named));
  }

  reached : AllIn (Reached w first t place xs) xs
  reached =
      all_both _ _ _ xs reach
      (to_items F _ x 0 s (all_reached w first t hangs (in_order F x 0 s (ready entry align s x w first t g) g.writable.ordered)
      (omega (arith, depth_is F x 0 s, low entry align s x g.writable))))
      backs

  -- what is found is an item
  module _ (absent name : List ℕ) where
    sound_by : (a : Told Finding) → lookup_by absent w first t name ≡ a → Lands (shape_of F 0 s x) most_headers a → Sound place xs most_headers name a
    sound_by a e (off c k) = sound.missing c k
    sound_by a e (on f i k) =
        let stands = found_stands absent w first t name f e in
        let m = Memᴰ.of_map (λ (z : Item). z.offset) xs (subst (Memᴰ f.offset) (lists_offsets F x 0 s) i) in
        let y : Item = m.0 in
        let b : ReadBack w first t place y = of_item (ReadBack w first t place) xs y backs m.1 in
        let same : placed_at place y ≡ f.entry = one_read b.reads (ap (read_at w first t) m.2 ∙ stands.0) in
        let named : Same name y.entry.name =
        sought_equal→ name (name_in w f.entry) stands.1 ∙ ap (λ (z : Placed). stored_keys (name_in w z)) (sym same) ∙ ap stored_keys b.named in
        subst (λ (z : Finding). Sound place xs most_headers name (gives z)) (λ j. record { entry = same j; offset = m.2 j; headers = f.headers })
        (sound.found y f.headers m.1 named k)

    sounds : is_in 0 absent ≡ true → bad_sought name ≡ false → Sound place xs most_headers name (lookup_by absent w first t name)
    sounds zero_in ascii =
        let few-headers = (written_hangs entry align s x w first t g).1 in
        sound_by (lookup_by absent w first t name) refl
        (lands absent w first t name hangs (stops F absent zero_in x 0 s (ready entry align s x w first t g)) (omega (arith, low entry align s x g.writable)) ascii
        most_headers (omega (arith, low entry align s x g.writable)))

-- DEMAND 3, of every tree that can be written
pub agreement : (entry : ℕ → Entry) (align s : ℕ) (x : Tree) (w : List ℕ) (first : Sector) (t : Region) (g : Written entry align s x w first t)
    → Agreement w first t g.stand.place (items entry align 0 s x)
agreement entry align s x w first t g = record {
  inside = all_map _ _ (items entry align 0 s x) (wider 0 (size_of entry x) 0 t.size (omega arith) g.sized.least) (inside entry align x s g.writable.fits);
  apart = apart entry align x s g.writable.fits;
  sectors = sectors_apart entry align g.writable.aligned x 0 s;
  listed = walk_written entry align s x w first t g;
  once = differ (items entry align 0 s x) (apart entry align x s g.writable.fits);
  read = backs entry align s x w first t g;
  reached = reached entry align s x w first t g;
  one_way = way_unique entry align s x w first t g;
  sound = λ absent zero_in name ascii. sounds entry align s x w first t g absent name zero_in ascii;
}
