-- LAWS OF SERIALISING.
--     first_12, then_6, then_7, then_8, then_9, else_given     which refusal comes where, in that order, and where none does
--     given_parts                                              what holds where it gives
--     next_free_lem, sectors_from, sectors_apart                   the sectors of the entries
--     out_given, out_refused                                   the output
-- Assumes nothing.
use Rattle.std.proofs.Common.{ℕ, ◌+◌, ◌≤◌, ◌<◌, ◌≡◌, refl, sym, ap, subst, ◌∙◌, Bool, true, false, List, [], ◌++◌, leb, length, drop, le-leb, lt-ltb, leb-true, arith}
use borrow.Author.Tests.{lt-leb}
use Rattle.units.specs.Told.{Told, gives, refuses, pick}
use Rattle.dirtab_entry.specs.Entry.{rounded}
use Rattle.avl_model.specs.Tree.{Tree}
use Rattle.table_model.specs.Entry.{Entry}
use Rattle.table_model.specs.Place.{free_of, items}
use Rattle.table_model.specs.Table.{any_far, Placing, size_of, table_bytes, place_of}
use Rattle.table_model.specs.Said.{AllIn, LinkFits, last_sector, SectorsApart, sectors_in}
use Rattle.table_model.proofs.Places.{free_sum}
use Rattle.table_model.proofs.Geometry as geometry
use Rattle.table_model.proofs.Placing.{place_gives, free_given_lem}
use Rattle.dirtab_arena.specs.Arena.{Arena, entry_at, is_arena, tree_of}
use Rattle.dirtab.specs.Serialise.{scratch_fits, if_fits, if_written, serialise_of, out_after}

module _ (A : Arena) (s n bytes : ℕ) where
  abbrev entry : ℕ → Entry
  entry = entry_at A

  abbrev t : Tree
  t = tree_of A

  pub first_12 : is_arena A ≡ false → serialise_of A s n bytes ≡ refuses 12 []
  unfolding serialise_of
  first_12 e = rw e

  module _ (is : is_arena A ≡ true) where
    pub then_6 : scratch_fits A n ≡ false → serialise_of A s n bytes ≡ refuses 6 []
    unfolding serialise_of
    then_6 e = ap (λ (b : Bool). pick b (pick (scratch_fits A n) (if_fits bytes (place_of entry 1 s t)) (refuses 6 [])) (refuses 12 [])) is
        ∙ ap (λ (b : Bool). pick b (if_fits bytes (place_of entry 1 s t)) (refuses 6 [])) e

    module _ (fit : scratch_fits A n ≡ true) where
      pub placing : serialise_of A s n bytes ≡ if_fits bytes (place_of entry 1 s t)
      unfolding serialise_of
      placing = ap (λ (b : Bool). pick b (pick (scratch_fits A n) (if_fits bytes (place_of entry 1 s t)) (refuses 6 [])) (refuses 12 [])) is
          ∙ ap (λ (b : Bool). pick b (if_fits bytes (place_of entry 1 s t)) (refuses 6 [])) fit

      -- an offset over 4 exceeds 65,535
      pub then_7 : any_far (items entry 1 0 s t) ≡ true → serialise_of A s n bytes ≡ refuses 7 []
      unfolding place_of
      then_7 e = placing ∙ ap (if_fits bytes) {x = place_of entry 1 s t} {y = refuses 7 []} (rw e)

      module _ (near : any_far (items entry 1 0 s t) ≡ false) where
        pub then_8 : 4294967295 < free_of entry 1 s t → serialise_of A s n bytes ≡ refuses 8 []
        unfolding place_of
        then_8 h = placing ∙ ap (if_fits bytes) {x = place_of entry 1 s t} {y = refuses 8 []} (rw (near, lt-ltb 4294967295 (free_of entry 1 s t) h))

      module _ (links : AllIn LinkFits (items entry 1 0 s t)) (low : free_of entry 1 s t ≤ 4294967295) where
        pub then_9 : bytes < rounded (size_of entry t) → serialise_of A s n bytes ≡ refuses 9 []
        then_9 h = placing ∙ ap (if_fits bytes) (place_gives entry 1 s t links low) ∙ rw (lt-leb (rounded (size_of entry t)) bytes h)

        pub else_given : rounded (size_of entry t) ≤ bytes → serialise_of A s n bytes ≡ gives (record { size = size_of entry t; free = free_of entry 1 s t })
        else_given h = placing ∙ ap (if_fits bytes) (place_gives entry 1 s t links low) ∙ rw (le-leb (rounded (size_of entry t)) bytes h)

  -- where it gives
  module _ (p : Placing) (given : serialise_of A s n bytes ≡ gives p) where
    fitted : (x : Told Placing) → if_fits bytes x ≡ gives p → (x ≡ gives p) × (rounded p.size ≤ bytes)
    fitted (gives q) e = go (leb (rounded q.size) bytes) refl e
      where
        go : (b : Bool) → leb (rounded q.size) bytes ≡ b → pick b (gives q) (refuses 9 []) ≡ gives p → (gives q ≡ gives p) × (rounded p.size ≤ bytes)
        go true h k = let e₁ : q ≡ p = cc in (k, subst (λ (x : Placing). rounded x.size ≤ bytes) e₁ (leb-true _ _ h))
        go false h k = let z : ◌≡◌ {A = ℕ} 0 1 = cc in absurd (omega arith)
    fitted (refuses k vs) e = let z : ◌≡◌ {A = ℕ} 0 1 = cc in absurd (omega arith)

    tests : (a b : Bool) (x : Told Placing) → pick a (pick b x (refuses 6 [])) (refuses 12 []) ≡ gives p → (a ≡ true) × (b ≡ true) × (x ≡ gives p)
    tests true true x e = (refl, refl, e)
    tests true false x e = let z : ◌≡◌ {A = ℕ} 0 1 = cc in absurd (omega arith)
    tests false b x e = let z : ◌≡◌ {A = ℕ} 0 1 = cc in absurd (omega arith)

    pub given_parts : (is_arena A ≡ true) × (scratch_fits A n ≡ true) × (place_of entry 1 s t ≡ gives p) × (rounded p.size ≤ bytes)
    unfolding serialise_of
    given_parts =
        let a = tests (is_arena A) (scratch_fits A n) (if_fits bytes (place_of entry 1 s t)) given in
        let b = fitted (place_of entry 1 s t) a.2 in
        (a.0, a.1, b.0, b.1)

    -- THE SECTORS: the next free one is the first and what all entries take; each entry's are from the first on and end by the next free one; no two overlap
    pub next_free_lem : p.free ≡ s + sectors_in entry t
    next_free_lem = free_given_lem entry 1 s t p given_parts.2 ∙ free_sum entry t s

    pub sectors_from : AllIn (λ x. (s ≤ x.sector) × (last_sector x ≤ p.free)) (items entry 1 0 s t)
    sectors_from = subst (λ (f : ℕ). AllIn (λ x. (s ≤ x.sector) × (last_sector x ≤ f)) (items entry 1 0 s t)) (sym (free_given_lem entry 1 s t p given_parts.2))
        (geometry.items_sectors entry 1 (omega arith) t 0 s)

    pub sectors_apart : SectorsApart (items entry 1 0 s t)
    sectors_apart = geometry.sectors_apart entry 1 (omega arith) t 0 s

-- THE OUTPUT: the table's bytes and what was past them; unchanged after a refusal
module _ (A : Arena) (s n : ℕ) (out : List ℕ) where
  pub out_given : (p : Placing) → serialise_of A s n (length out) ≡ gives p → out_after A s n out ≡ table_bytes (entry_at A) 1 s (tree_of A) ++ drop (rounded p.size) out
  unfolding out_after
  out_given p e = ap (λ (x : Told Placing). if_written x (table_bytes (entry_at A) 1 s (tree_of A)) out) e

  pub out_refused : (k : ℕ) (vs : List ℕ) → serialise_of A s n (length out) ≡ refuses k vs → out_after A s n out ≡ out
  unfolding out_after
  out_refused k vs e = ap (λ (x : Told Placing). if_written x (table_bytes (entry_at A) 1 s (tree_of A)) out) e
