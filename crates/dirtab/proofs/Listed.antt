-- The ways out of `write_listed`: what placing, counting and writing answered says what the table is, or which refusal it is. Assumes nothing.
use Rattle.std.proofs.Common.{ℕ, ◌+◌, ◌%◌, ◌≤◌, ◌<◌, ◌≡◌, refl, sym, ap, subst, ◌∙◌, Bool, true, false, List, [], ◌++◌, ltb, leb, Result, Ok, Err, IsErrAnd, length, get_or, drop, eq-eqb, ne_eqb, le-leb, arith}
use borrow.Author.Tests.{lt-leb}
use Rattle.units.specs.Told.{Told, gives, refuses, pick}
use Rattle.dirtab_entry.specs.Entry.{rounded}
use Rattle.avl_model.specs.Tree.{Tree, leaf, node}
use Rattle.avl_model.specs.Laws.{All}
use Rattle.table_model.specs.Entry.{Entry}
use Rattle.table_model.specs.Place.{stop_of, end_of, free_of, items}
use Rattle.table_model.specs.Table.{any_far, Placing, size_of, table_bytes, place_of}
use Rattle.table_model.specs.inner.Writing.{written_over}
use Rattle.table_model.proofs.Places.{FitsAt, end_after}
use Rattle.dirtab_place.specs.inner.Places.{ends_over, places_over, free_over, Placeable, Countable}
use Rattle.dirtab_write.specs.inner.Columns.{Cols, entry_by, items_by, Spaces}
use Rattle.dirtab_write.proofs.Bridge as bridge
use Rattle.dirtab.specs.declared.Written.{Written}
use Rattle.dirtab.specs.declared.WriteError.{WriteError}
use Rattle.dirtab.specs.declared.WriteError.TheVariants as writing
use Rattle.dirtab.specs.Serialise.{if_fits, if_written, told_write}
use Rattle.dirtab_held.specs.inner.Held.{Listing}
use Rattle.dirtab.specs.inner.Steps.{size_from, writing_of, writing_out}

-- what is told of a refusal
pub told_many : (r : Result Written WriteError) → IsErrAnd r (λ e. e ≡ writing.TooManyDirectoryEntries) → told_write r ≡ refuses 7 []
told_many (Ok w) h = absurd h
told_many (Err e) h = ap (λ (x : WriteError). told_write (Err x)) h

pub told_over : (r : Result Written WriteError) → IsErrAnd r (λ e. e ≡ writing.SectorOverflow) → told_write r ≡ refuses 8 []
told_over (Ok w) h = absurd h
told_over (Err e) h = ap (λ (x : WriteError). told_write (Err x)) h

-- the multiple of 2,048 from z on
pub rounded_is : (z n : ℕ) → z ≤ n → n < z + 2048 → n % 2048 ≡ 0 → n ≡ rounded z
rounded_is z n a b e = omega arith

pub empty_size : (e : ℕ) → e ≡ 0 → 2048 ≡ size_from e
unfolding size_from
empty_size e h = rw (eq-eqb e 0 h)

pub some_size : (e : ℕ) → (e ≡ 0 → ⊥) → e ≡ size_from e
unfolding size_from
some_size e h = rw (ne_eqb e 0 h)

-- the reported size from the end
size_is : (entry : ℕ → Entry) (t : Tree) → All (FitsAt entry) t → size_from (end_of entry 0 t) ≡ size_of entry t
unfolding end_of
size_is entry leaf f = sym (empty_size 0 refl)
size_is entry (node l i r) f =
    let a = end_after entry l (stop_of entry 0 i) f.1 in
    let b = end_after entry r (end_of entry (stop_of entry 0 i) l) f.2 in
    sym (some_size (end_of entry (end_of entry (stop_of entry 0 i) l) r) (λ z. omega arith))

-- what a test decided, from what was told
was_refused : (b : Bool) (k : ℕ) (x : ℕ) → pick b (refuses k []) (gives x) ≡ refuses k [] → b ≡ true
was_refused true k x e = refl
was_refused false k x e = cc

was_given : (b : Bool) (k x y : ℕ) → pick b (refuses k []) (gives x) ≡ gives y → (b ≡ false) × (y ≡ x)
was_given true k x y e = cc
was_given false k x y e = (refl, cc)

-- a refusal of placing is the answer, and the output is unchanged
refused : (entry : ℕ → Entry) (s k : ℕ) (t : Tree) (out : List ℕ) → place_of entry 1 s t ≡ refuses k []
    → (refuses k [] ≡ writing_of entry s t (length out)) × (out ≡ writing_out entry s t out)
refused entry s k t out e = (
  sym (ap (if_fits (length out)) e),
  sym (ap (λ (x : Told Placing). if_written (if_fits (length out) x) (table_bytes entry 1 s t) out) e),
)

module _ (listed : List ℕ) (c : Cols) (places s : ℕ) (low : s ≤ 4294967295) (t : Tree) (h : Listing listed c places t) where
  abbrev entry : ℕ → Entry
  entry = entry_by c

  pub place_asks : Placeable listed c.len places
  place_asks = subst (λ (xs : List ℕ). Placeable xs c.len places) (sym h.listed_is) (bridge.placeable c (length listed) t h.holds places h.room)

  pub count_asks : Countable listed c.size c.kind
  count_asks = subst (λ (xs : List ℕ). Countable xs c.size c.kind) (sym h.listed_is) (bridge.countable c (length listed) t h.holds)

  ends_are : ends_over c.len 0 listed ≡ pick (any_far (items entry 1 0 s t)) (refuses 7 []) (gives (end_of entry 0 t))
  ends_are = ap (ends_over c.len 0) h.listed_is ∙ bridge.ends_table c (length listed) t h.holds s

  free_are : free_over c.size c.kind s listed ≡ pick (ltb 4294967295 (free_of entry 1 s t)) (refuses 8 []) (gives (free_of entry 1 s t))
  free_are = ap (free_over c.size c.kind s) h.listed_is ∙ bridge.free_table c (length listed) t h.holds s low

  module _ (out : List ℕ) where
    -- 7
    pub too_many : refuses 7 [] ≡ ends_over c.len 0 listed → (refuses 7 [] ≡ writing_of entry s t (length out)) × (out ≡ writing_out entry s t out)
    unfolding place_of
    too_many told =
        let b = was_refused (any_far (items entry 1 0 s t)) 7 _ (sym (told ∙ ends_are)) in
        refused entry s 7 t out (rw b)

    module _ (e : ℕ) (told : gives e ≡ ends_over c.len 0 listed) where
      placed : (any_far (items entry 1 0 s t) ≡ false) × (e ≡ end_of entry 0 t)
      placed = was_given (any_far (items entry 1 0 s t)) 7 _ e (sym (told ∙ ends_are))

      -- 8
      pub too_far : refuses 8 [] ≡ free_over c.size c.kind s listed → (refuses 8 [] ≡ writing_of entry s t (length out)) × (out ≡ writing_out entry s t out)
      unfolding place_of
      too_far told₂ =
          let b = was_refused (ltb 4294967295 (free_of entry 1 s t)) 8 _ (sym (told₂ ∙ free_are)) in
          refused entry s 8 t out (rw (placed.0, b))

      module _ (words : (j : ℕ) → get_or c.size j 0 ≤ 4294967295) (f : ℕ) (told₂ : gives f ≡ free_over c.size c.kind s listed) (z n : ℕ) (ez : z ≡ size_from e) (en : n ≡ rounded z) where
        free : (ltb 4294967295 (free_of entry 1 s t) ≡ false) × (f ≡ free_of entry 1 s t)
        free = was_given (ltb 4294967295 (free_of entry 1 s t)) 8 _ f (sym (told₂ ∙ free_are))

        z_is : z ≡ size_of entry t
        z_is = ez ∙ ap size_from placed.1 ∙ size_is entry t (bridge.fits c (length listed) t h.holds words)

        n_is : n ≡ rounded (size_of entry t)
        n_is = en ∙ ap rounded z_is

        gave : place_of entry 1 s t ≡ gives (record { size = z; free = f })
        unfolding place_of
        gave = rw (placed.0, free.0, z_is, free.1)

        -- 9
        pub too_small : length out < n → (refuses 9 [] ≡ writing_of entry s t (length out)) × (out ≡ writing_out entry s t out)
        too_small k =
            let b : leb (rounded z) (length out) ≡ false = lt-leb (rounded z) (length out) (omega arith) in
            let q : writing_of entry s t (length out) ≡ refuses 9 [] = ap (if_fits (length out)) gave ∙ rw b in
            (sym q, sym (ap (λ (x : Told Placing). if_written x (table_bytes entry 1 s t) out) q))

        module _ (k : n ≤ length out) (p₀ p : List ℕ) (ep : p ≡ places_over c.len 0 listed p₀) (long : length p₀ ≡ places) where
          abbrev laid : Cols
          laid = record c { place = p }

          -- what writing asks is met
          pub write_asks : Spaces laid listed s n (length out)
          write_asks =
              let g = bridge.spaces c (length listed) t h.holds words s placed.0 p₀ (omega (arith, h.room)) f (length out)
              (sym (ap (free_over c.size c.kind s) h.listed_is) ∙ sym told₂) (omega (arith, n_is)) in
              subst (λ (m : ℕ). Spaces laid listed s m (length out)) (sym n_is) (rw (ep, h.listed_is) g)

          -- and it leaves the table
          pub table_given : gives (record { size = z; free = f }) ≡ writing_of entry s t (length out)
          table_given =
              let b : leb (rounded z) (length out) ≡ true = le-leb (rounded z) (length out) (omega arith) in
              sym (ap (if_fits (length out)) gave ∙ rw b)

          pub table_written : (out₁ : List ℕ) → out₁ ≡ written_over n (items_by laid s listed) out → out₁ ≡ writing_out entry s t out
          table_written out₁ e =
              let q : written_over n (items_by laid s listed) out ≡ table_bytes entry 1 s t ++ drop (rounded (size_of entry t)) out =
              rw (ep, h.listed_is, n_is) (bridge.table c (length listed) t h.holds words s placed.0 p₀ (omega (arith, h.room)) out) in
              e ∙ q ∙ ap (λ (m : ℕ). table_bytes entry 1 s t ++ drop (rounded m) out) (sym z_is)
              ∙ ap (λ (x : Told Placing). if_written x (table_bytes entry 1 s t) out) table_given
