-- In a window in which a table's bytes stand, each item is read back, and each link leads to its item. Assumes nothing.
-- The induction goes by what is left of the window: from where a tree's entries start, it is their bytes and then some rest.
use Prim.Native.Nat.{ℕ, ◌+◌, ◌-◌, ◌*◌, ◌/◌, ◌%◌, ◌≤◌, ◌<◌}
use mathlib.Core.Path.{◌≡◌, refl, ap, ◌∙◌}
use mathlib.Core.List.{List, ◌++◌, append_assoc}
use native.Mathlib.Omega.{arith}
use native.Mathlib.Nat.{add-zero}
use lib.ListN.{length, drop, replicate, length-replicate}
use lib.Seq.{drop_at, drop-drop}
use Rattle.units.specs.declared.Sector.{Sector}
use Rattle.units.specs.declared.Region.{Region}
use Rattle.layout_sector.specs.Counter.{aligned_up}
use Rattle.dirtab_entry.specs.Entry.{rounded}
use Rattle.avl_model.specs.Tree.{Tree, leaf, node}
use Rattle.avl_model.specs.Laws.{All}
use Rattle.table_model.specs.Entry.{Entry, length_of, entry_bytes}
use Rattle.table_model.specs.Place.{end_of, free_of, items}
use Rattle.table_model.specs.Table.{size_of, table_bytes}
use Rattle.table_model.specs.Said.{LinkFits, AllIn, Stands}
use Rattle.table_model.proofs.Places.{Starts, FitsAt, start_at, stop_four, end_after, end_four, free_next, free_after_lem, starts_first}
use Rattle.table_model.proofs.Bytes.{entry_length, tree_bytes, tree_bytes_lem, tree_length, end_size}
use Rattle.table_model.proofs.Geometry.{all_append, all_left, all_right, never_65535}
use Rattle.table_model.proofs.Placing.{links_fit, sectors_fit}
use Rattle.agree.specs.Written.{Written}
use Rattle.agree.proofs.Setting.{Setting, start, stop, end, link, next, free, item, its, Back}
use Rattle.agree.proofs.Readback.{Fields, has_item}

-- past what stands first
skip : (w : List ℕ) (a b : ℕ) (p q : List ℕ) → drop a w ≡ p ++ q → a + length p ≡ b → drop b w ≡ q
skip w a b p q here e = rw (← e, ← (drop-drop (length p) a w), here) (drop_at p q (length p) refl)

module _ (F : Setting) where
  -- a link fits
  link_small : (x : Tree) (e s : ℕ) → AllIn LinkFits (its F e s x) → link F e x ≤ 65535
  unfolding items
  link_small leaf e s a = omega arith
  link_small (node l i r) e s a = a.0

  -- what is known of a tree whose entries come after e, with sectors from s on
  pub record Ready (x : Tree) (e s : ℕ) : Type 0 where
    pub fits : All (FitsAt F.entry) x
    pub four : e % 4 ≡ 0
    pub inside : end F e x ≤ F.t.size
    pub sectors : free F s x ≤ 4294967295
    pub small : AllIn LinkFits (its F e s x)
    pub rest : List ℕ
    pub here : drop (F.place + e) F.w ≡ tree_bytes F.entry F.align e s x ++ rest

  module _ (l : Tree) (i : ℕ) (r : Tree) (e s : ℕ) (g : Ready (node l i r) e s) where
    abbrev e₁ : ℕ
    e₁ = stop F e i

    abbrev s₁ : ℕ
    s₁ = next F s i

    abbrev e₂ : ℕ
    e₂ = end F e₁ l

    abbrev s₂ : ℕ
    s₂ = free F s₁ l

    abbrev L : List ℕ
    L = tree_bytes F.entry F.align e₁ s₁ l

    abbrev R : List ℕ
    R = tree_bytes F.entry F.align e₂ s₂ r

    pub started : Starts e (length_of (F.entry i)) (start F e i)
    started = start_at F.entry e i g.fits.0

    -- the window from the entry on, from the left tree on, from the right tree on
    at_entry : drop (F.place + start F e i) F.w ≡ entry_bytes (item F e s l i r) ++ (L ++ (R ++ g.rest))
    at_entry =
        skip F.w (F.place + e) (F.place + start F e i) (replicate (start F e i - e) 255) _
        (g.here ∙ ap (λ (z : List ℕ). z ++ g.rest) (tree_bytes_lem F.entry F.align l i r e s) ∙ simp append_assoc)
        (rw length-replicate (omega (arith, started.after)))

    at_left : drop (F.place + e₁) F.w ≡ L ++ (R ++ g.rest)
    at_left = skip F.w (F.place + start F e i) (F.place + e₁) (entry_bytes (item F e s l i r)) _ at_entry (omega (arith, entry_length (item F e s l i r)))

    at_right : drop (F.place + e₂) F.w ≡ R ++ g.rest
    at_right = skip F.w (F.place + e₁) (F.place + e₂) L _ at_left (omega (arith, tree_length F.entry F.align l e₁ s₁ g.fits.1))

    pub ends : (e₁ ≤ e₂) × (e₂ ≤ end F e (node l i r))
    unfolding end_of
    ends = (end_after F.entry l e₁ g.fits.1, end_after F.entry r e₂ g.fits.2)

    frees : (aligned_up F.align s ≤ s₁) × (s₁ ≤ s₂) × (s₂ ≤ free F s (node l i r))
    unfolding free_of
    frees = ((free_next F.entry F.align F.aligned s i).1, free_after_lem F.entry F.align F.aligned l s₁, free_after_lem F.entry F.align F.aligned r s₂)

    below : AllIn LinkFits (its F e₁ s₁ l) × AllIn LinkFits (its F e₂ s₂ r)
    unfolding items
    below = (all_left _ (its F e₁ s₁ l) (its F e₂ s₂ r) g.small.1, all_right _ (its F e₁ s₁ l) (its F e₂ s₂ r) g.small.1)

    fields : Fields (item F e s l i r)
    fields = record {
      left = link_small l e₁ s₁ below.0;
      right = link_small r e₂ s₂ below.1;
      sector = omega (arith, frees, g.sectors);
      size = g.fits.0.small;
      name = g.fits.0.short;
    }

    -- a node is read back
    pub has_node : Back F (item F e s l i r)
    has_node = has_item F.w F.first F.t F.place F.at_sector (item F e s l i r) (L ++ (R ++ g.rest)) at_entry (omega (arith, ends, g.inside)) fields

    pub left_ready : Ready l e₁ s₁
    left_ready = record {
      fits = g.fits.1;
      four = stop_four F.entry e i g.fits.0 g.four;
      inside = omega (arith, ends, g.inside);
      sectors = omega (arith, frees, g.sectors);
      small = below.0;
      rest = R ++ g.rest;
      here = at_left;
    }

    pub right_ready : Ready r e₂ s₂
    unfolding end_of free_of
    right_ready = record {
      fits = g.fits.2;
      four = end_four F.entry l e₁ g.fits.1 (stop_four F.entry e i g.fits.0 g.four);
      inside = g.inside;
      sectors = g.sectors;
      small = below.1;
      rest = g.rest;
      here = at_right;
    }

    -- the link to it: its offset over 4, neither 0 nor 65,535
    pub linked : 0 < e → (start F e i / 4 ≡ 0 → ⊥) × (start F e i / 4 ≡ 65535 → ⊥) × (start F e i ≡ 4 * (start F e i / 4))
    linked h =
        let a = started.after in
        let f = started.four g.four in
        let b = started.within in
        let stands : Stands e e₁ (item F e s l i r) = record { from = a; to = omega arith; whole = omega arith; four = f } in
        (λ q. omega arith, never_65535 e e₁ (item F e s l i r) stands, omega arith)

  -- every item of a tree is read back
  pub all_back : (x : Tree) (e s : ℕ) → Ready x e s → AllIn (Back F) (its F e s x)
  unfolding items
  all_back leaf e s g = tt
  all_back (node l i r) e s g =
      let e₁ : ℕ = stop F e i in
      let s₁ : ℕ = next F s i in
      let e₂ : ℕ = end F e₁ l in
      let s₂ : ℕ = free F s₁ l in (
        has_node l i r e s g,
        all_append _ (its F e₁ s₁ l) (its F e₂ s₂ r) (all_back l e₁ s₁ (left_ready l i r e s g)) (all_back r e₂ s₂ (right_ready l i r e s g)),
      )

  -- the first entry stands at offset 0
  pub at_zero : (l : Tree) (i : ℕ) (r : Tree) (s : ℕ) → Ready (node l i r) 0 s → start F 0 i ≡ 0
  at_zero l i r s g = starts_first (length_of (F.entry i)) (omega (arith, g.fits.0.short))

-- A table that was written is ready, in the window where it stands
module _ (entry : ℕ → Entry) (align s : ℕ) (x : Tree) (w : List ℕ) (first : Sector) (t : Region) (g : Written entry align s x w first t) where
  abbrev pub setting : Setting
  setting = record {
    entry = entry;
    align = align;
    aligned = g.writable.aligned;
    w = w;
    first = first;
    t = t;
    place = g.stand.place;
    at_sector = g.stand.at_sector;
  }

  pub ready : Ready setting x 0 s
  unfolding table_bytes
  ready = record {
    fits = g.writable.fits;
    four = refl;
    inside = omega (arith, end_size entry x, g.sized.least);
    sectors = sectors_fit entry align s x g.writable.placing g.writable.placed;
    small = links_fit entry align s x g.writable.placing g.writable.placed;
    rest = replicate (rounded (size_of entry x) - end_of entry 0 x) 255 ++ g.stand.rest;
    here = rw add-zero (g.stand.here ∙ simp append_assoc);
  }
