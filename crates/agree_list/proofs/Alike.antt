-- What a table is depends on the entries of the tree's own numbers alone. Assumes nothing.
use Prim.Native.Nat.{ℕ, ◌+◌, ◌-◌, ◌/◌}
use mathlib.Core.Path.{◌≡◌, refl, ap, ◌∙◌}
use mathlib.Core.List.{[], ◌∷◌, ◌++◌}
use lib.Dec.{ltb}
use lib.ListN.{replicate}
use Rattle.units.specs.Told.{gives, refuses, pick}
use Rattle.layout_sector.specs.Counter.{sectors_for, aligned_up}
use Rattle.dirtab_entry.specs.Entry.{rounded}
use Rattle.avl_model.specs.Tree.{Tree, leaf, node}
use Rattle.avl_model.specs.Laws.{All}
use Rattle.table_model.specs.Entry.{Entry, length_of}
use Rattle.table_model.specs.Place.{start_after, stop_of, end_of, link_to, free_after, free_of, item_of, items}
use Rattle.table_model.specs.Table.{bytes_from, any_far, size_of, table_bytes, place_of}

module _ (f g : ℕ → Entry) where
  abbrev Alike : Tree → Type 0
  Alike t = All (λ j. f j ≡ g j) t

  stop_alike : (e i : ℕ) → f i ≡ g i → stop_of f e i ≡ stop_of g e i
  stop_alike e i h = λ d. start_after e (length_of (h d)) + length_of (h d)

  end_alike : (e : ℕ) (t : Tree) → Alike t → end_of f e t ≡ end_of g e t
  unfolding end_of
  end_alike e leaf a = refl
  end_alike e (node l i r) a =
      ap (λ (v : ℕ). end_of f (end_of f v l) r) (stop_alike e i a.0)
      ∙ ap (λ (v : ℕ). end_of f v r) (end_alike (stop_of g e i) l a.1)
      ∙ end_alike (end_of g (stop_of g e i) l) r a.2

  link_alike : (e : ℕ) (t : Tree) → Alike t → link_to f e t ≡ link_to g e t
  link_alike e leaf a = refl
  link_alike e (node l i r) a = λ d. start_after e (length_of (a.0 d)) / 4

  size_alike : (t : Tree) → Alike t → size_of f t ≡ size_of g t
  size_alike leaf a = refl
  size_alike (node l i r) a = end_alike 0 (node l i r) a

  module _ (align : ℕ) where
    free_one : (s i : ℕ) → f i ≡ g i → free_after f align s i ≡ free_after g align s i
    free_one s i h = λ d. aligned_up align s + sectors_for (h d).size

    free_alike : (s : ℕ) (t : Tree) → Alike t → free_of f align s t ≡ free_of g align s t
    unfolding free_of
    free_alike s leaf a = refl
    free_alike s (node l i r) a =
        ap (λ (v : ℕ). free_of f align (free_of f align v l) r) (free_one s i a.0)
        ∙ ap (λ (v : ℕ). free_of f align v r) (free_alike (free_after g align s i) l a.1)
        ∙ free_alike (free_of g align (free_after g align s i) l) r a.2

    item_alike : (e s : ℕ) (l : Tree) (i : ℕ) (r : Tree) → Alike (node l i r) → item_of f align e s l i r ≡ item_of g align e s l i r
    item_alike e s l i r a =
        let es : stop_of f e i ≡ stop_of g e i = stop_alike e i a.0 in
        let ll : link_to f (stop_of f e i) l ≡ link_to g (stop_of g e i) l = ap (λ (v : ℕ). link_to f v l) es ∙ link_alike (stop_of g e i) l a.1 in
        let ee : end_of f (stop_of f e i) l ≡ end_of g (stop_of g e i) l = ap (λ (v : ℕ). end_of f v l) es ∙ end_alike (stop_of g e i) l a.1 in
        let lr : link_to f (end_of f (stop_of f e i) l) r ≡ link_to g (end_of g (stop_of g e i) l) r = ap (λ (v : ℕ). link_to f v r) ee ∙ link_alike (end_of g (stop_of g e i) l) r a.2 in
        λ d. record { entry = a.0 d; offset = start_after e (length_of (a.0 d)); sector = aligned_up align s; left = ll d; right = lr d }

    items_alike : (e s : ℕ) (t : Tree) → Alike t → items f align e s t ≡ items g align e s t
    unfolding items
    items_alike e s leaf a = refl
    items_alike e s (node l i r) a =
        let es = stop_alike e i a.0 in
        let fs = free_one s i a.0 in
        let ee : end_of f (stop_of f e i) l ≡ end_of g (stop_of g e i) l = ap (λ (v : ℕ). end_of f v l) es ∙ end_alike (stop_of g e i) l a.1 in
        let fe : free_of f align (free_after f align s i) l ≡ free_of g align (free_after g align s i) l = ap (λ (v : ℕ). free_of f align v l) fs ∙ free_alike (free_after g align s i) l a.1 in
        let il : items f align (stop_of f e i) (free_after f align s i) l ≡ items g align (stop_of g e i) (free_after g align s i) l =
        (λ d. items f align (es d) (fs d) l) ∙ items_alike (stop_of g e i) (free_after g align s i) l a.1 in
        let ir : items f align (end_of f (stop_of f e i) l) (free_of f align (free_after f align s i) l) r ≡ items g align (end_of g (stop_of g e i) l) (free_of g align (free_after g align s i) l) r =
        (λ d. items f align (ee d) (fe d) r) ∙ items_alike (end_of g (stop_of g e i) l) (free_of g align (free_after g align s i) l) r a.2 in
        λ d. item_alike e s l i r a d ∷ (il d ++ ir d)

    -- the answer of placing, and the bytes
    pub place_alike : (s : ℕ) (t : Tree) → Alike t → place_of f align s t ≡ place_of g align s t
    unfolding place_of
    place_alike s t a =
        let it = items_alike 0 s t a in
        let fr = free_alike s t a in
        let sz = size_alike t a in
        λ d. pick (any_far (it d)) (refuses 7 []) (pick (ltb 4294967295 (fr d)) (refuses 8 []) (gives (record { size = sz d; free = fr d })))

    pub bytes_alike : (s : ℕ) (t : Tree) → Alike t → table_bytes f align s t ≡ table_bytes g align s t
    unfolding table_bytes
    bytes_alike s t a =
        let it = items_alike 0 s t a in
        let sz = size_alike t a in
        let en = end_alike 0 t a in
        λ d. bytes_from 0 (it d) ++ replicate (rounded (sz d) - en d) 255
