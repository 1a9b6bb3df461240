-- WHAT WRITING A LIST ANSWERS, by its cause; at once, and by adding in turn and serialising. Assumes nothing.
use Prim.Native.Nat.{ℕ, ◌≤◌, ◌<◌}
use native.Mathlib.Omega.{arith}
use mathlib.Core.Path.{◌≡◌, refl, sym, ap, subst, ◌∙◌}
use mathlib.Core.Bool.{Bool, true, false}
use mathlib.Core.Logic.{◌⊎◌, inl, inr}
use mathlib.Core.List.{List, []}
use lib.Dec.{ltb, eqb}
use lib.ListN.{length, get_or}
use borrow.Author.Tests.{le-leb, ltb-true, ltb-false, eqb-true, eqb-false}
use Rattle.units.specs.Told.{Told, gives, refuses, pick}
use Rattle.dirtab_entry.specs.declared.Kind.TheVariants.{File, Directory}
use Rattle.dirtab_entry.specs.Entry.{is_directory, rounded, kind_for, check_of}
use Rattle.avl_model.specs.Tree.{Tree}
use Rattle.avl_model.specs.Laws.{All}
use Rattle.avl_model.proofs.Avl.{all_map}
use Rattle.table_model.specs.Entry.{Item}
use Rattle.table_model.specs.Place.{free_of}
use Rattle.table_model.specs.Table.{Placing, size_of, place_of}
use Rattle.table_model.specs.Said.{AllIn, LinkFits}
use Rattle.table_model.proofs.Geometry as geometry
use Rattle.table_model.proofs.Places.{FitsAt}
use Rattle.table_model.proofs.Placing as placing
use Rattle.table_model.proofs.Placing.{none_far, outcome}
use Rattle.table_model.proofs.Far.{far_is}
use Rattle.dirtab_arena.specs.Arena.{Columns}
use Rattle.dirtab.specs.Serialise as serialise
use Rattle.dirtab_grow.specs.Grow.{grow}
use Rattle.dirtab_list.specs.Whole.{Listing, given_in, given_name, entry_in, has_places, if_fits, if_grown, whole_of, Lent, places_in, answer_in}
use Rattle.dirtab_entry.proofs.Stored.{stored_low}
use Rattle.agree.proofs.FromList.{grown_below}
use Rattle.agree_list.specs.InTurn.{add_all, empty_in, then_answer}
use Rattle.agree_list.proofs.Same.{same_answer}
use Rattle.agree_causes.specs.Lists.{FairList, Roomy, Enough, EnoughInTurn, tree_for, items_for, TooLarge, Near, WriteOutcome, written, five, seven, eight}
use Rattle.agree_causes.proofs.Checks.{name_short, size_left}
use Rattle.agree_causes.proofs.Sectors.{free_is}
use Rattle.agree_causes.proofs.Growing.{Grows, all, stops, grows}

-- what a directory's size leaves of the check
abbrev Left : ℕ → ℕ → Told (Unit {0}) → Type 0
Left kind size x = ((x ≡ gives tt) × (kind ≡ 1 → 4294965248 < size → ⊥)) ⊎ ((x ≡ refuses 5 []) × ((kind ≡ 1) × (4294965248 < size)))

by_size : (kind size : ℕ) (b d : Bool) → eqb kind 1 ≡ b → ltb 4294965248 size ≡ d
    → Left kind size (pick (pick (is_directory (pick b Directory File)) d false) (refuses 5 []) (gives tt))
by_size kind size true true p q = inr (refl, (eqb-true kind 1 p, ltb-true 4294965248 size q))
by_size kind size true false p q = inl (refl, λ k l. let h : size ≤ 4294965248 = ltb-false 4294965248 size q in omega arith)
by_size kind size false d p q = inl (refl, λ k l. eqb-false kind 1 p k)

-- where none is too large, a directory's size can be rounded
low_size : (kind size : ℕ) (b d : Bool) → eqb kind 1 ≡ b → ltb 4294965248 size ≡ d → (kind ≡ 1 → 4294965248 < size → ⊥)
    → is_directory (pick b Directory File) ≡ true → size ≤ 4294965248
low_size kind size true true p q none e = absurd (none (eqb-true kind 1 p) (ltb-true 4294965248 size q))
low_size kind size true false p q none e = ltb-false 4294965248 size q
low_size kind size false d p q none e = let z : ◌≡◌ {A = ℕ} 0 1 = cc in absurd (omega arith)

-- 262,144 is a multiple of 2,048
within : (n bytes : ℕ) → n ≤ 262144 → 262144 ≤ bytes → rounded n ≤ bytes
within n bytes h k = omega arith

-- a link fits two bytes exactly where its offset is at most 262,143
pub near : (xs : List Item) → AllIn LinkFits xs → AllIn Near xs
near xs a = geometry.all_map LinkFits Near xs (λ y h. omega arith) a

module _ (L : Listing) (f : FairList L) where
  abbrev check : ℕ → Told (Unit {0})
  check i = check_of L.bytes (given_in L i)

  judged : (i : ℕ) → i < L.count → ((check i ≡ gives tt) × (TooLarge L i → ⊥)) ⊎ ((check i ≡ refuses 5 []) × TooLarge L i)
  judged i h = go (by_size (get_or L.kind i 0) (get_or L.size i 0) (eqb (get_or L.kind i 0) 1) (ltb 4294965248 (get_or L.size i 0)) refl refl)
    where
      left : check i ≡ pick (pick (is_directory (kind_for (get_or L.kind i 0))) (ltb 4294965248 (get_or L.size i 0)) false) (refuses 5 []) (gives tt)
      left = size_left L.count L.start L.len L.bytes f.named i h (given_in L i) refl refl

      go : Left (get_or L.kind i 0) (get_or L.size i 0) (pick (pick (is_directory (kind_for (get_or L.kind i 0))) (ltb 4294965248 (get_or L.size i 0)) false) (refuses 5 []) (gives tt))
          → ((check i ≡ gives tt) × (TooLarge L i → ⊥)) ⊎ ((check i ≡ refuses 5 []) × TooLarge L i)
      go (inl a) = inl (left ∙ a.0, λ t. a.1 t.directory t.large)
      go (inr b) = inr (left ∙ b.0, record { directory = b.1.0; large = b.1.1 })

  grown_is_lem : Grows (given_name L) L.count 5 (TooLarge L) (grow L.bytes (given_in L) L.count)
  grown_is_lem = grows (given_name L) check L.count f.named.few f.named.differ 5 (TooLarge L) judged

  module _ (s : ℕ) where
    module _ (none : (i : ℕ) → i < L.count → TooLarge L i → ⊥) where
      fits : All (FitsAt (entry_in L)) (tree_for L)
      fits =
          all_map (λ i. i < L.count) (FitsAt (entry_in L)) (tree_for L)
          (λ i h. record {
            short = name_short L.count L.start L.len L.bytes f.named i h (given_in L i).kind (given_in L i).size;
            small = stored_low (kind_for (get_or L.kind i 0)) (get_or L.size i 0) (f.sizes i)
                (low_size (get_or L.kind i 0) (get_or L.size i 0) (eqb (get_or L.kind i 0) 1) (ltb 4294965248 (get_or L.size i 0)) refl refl
                (λ k l. none i h (record { directory = k; large = l })));
          })
          (grown_below (given_name L) L.count)

      -- the table of items that all start low enough has at most 262,144 bytes
      size_low : AllIn LinkFits (items_for L s) → size_of (entry_in L) (tree_for L) ≤ 262144
      size_low a = ltb-false 262144 _ (sym (far_is (entry_in L) 1 (tree_for L) s fits) ∙ none_far (items_for L s) a)

      roomy : (out : List ℕ) → Roomy L out → AllIn LinkFits (items_for L s) → rounded (size_of (entry_in L) (tree_for L)) ≤ length out
      roomy out (inl h) a = let z : size_of (entry_in L) (tree_for L) ≤ 262144 = size_low a in within (size_of (entry_in L) (tree_for L)) (length out) z h
      roomy out (inr h) a = h

      abbrev given : ℕ → Told Placing
      given f = gives (record { size = size_of (entry_in L) (tree_for L); free = f })

      placed : (out : List ℕ) → Roomy L out → placing.Outcome (entry_in L) 1 s (tree_for L) → WriteOutcome L s (if_fits (length out) (place_of (entry_in L) 1 s (tree_for L)))
      placed out h (placing.given a l e) =
          subst (WriteOutcome L s)
          (sym (ap (if_fits (length out)) e
          ∙ ap (λ (b : Bool). pick b (given (free_of (entry_in L) 1 s (tree_for L))) (refuses 9 [])) (le-leb _ _ (roomy out h a))
          ∙ ap given (free_is (given_name L) (entry_in L) s L.count)))
          (written none (near (items_for L s) a) (subst (λ (f : ℕ). f ≤ 4294967295) (free_is (given_name L) (entry_in L) s L.count) l))
      placed out h (placing.seven y m far e) = subst (WriteOutcome L s) (sym (ap (if_fits (length out)) e)) (seven none y m (omega arith))
      placed out h (placing.eight a over e) =
          subst (WriteOutcome L s) (sym (ap (if_fits (length out)) e))
          (eight none (near (items_for L s) a) (subst (λ (f : ℕ). 4294967295 < f) (free_is (given_name L) (entry_in L) s L.count) over))

    after : (out : List ℕ) → Roomy L out → {x : Told Tree} → Grows (given_name L) L.count 5 (TooLarge L) x → WriteOutcome L s (if_grown x (λ t. if_fits (length out) (place_of (entry_in L) 1 s t)))
    after out h (all none) = placed none out h (outcome (entry_in L) 1 s (tree_for L))
    after out h (stops j k b none) = five j k b none

    whole_outcome : (n : ℕ) (out : List ℕ) → has_places L n ≡ true → Roomy L out → WriteOutcome L s (whole_of L n s (length out))
    unfolding whole_of
    whole_outcome n out places h =
        subst (λ (b : Bool). WriteOutcome L s (pick b (if_grown (grow L.bytes (given_in L) L.count) (λ t. if_fits (length out) (place_of (entry_in L) 1 s t))) (refuses 6 []))) (sym places)
        (after out h grown_is_lem)

    -- A LIST WRITTEN AT ONCE
    pub list_outcome : (m : Lent) → Enough L m → WriteOutcome L s (answer_in L s m)
    list_outcome m e = whole_outcome (places_in m) m.out e.places e.output

    -- ITS ENTRIES ADDED IN TURN to an arena that holds nothing, and the arena serialised
    pub turn_outcome : (c : Columns) (m : serialise.Lent) → EnoughInTurn L c m
        → WriteOutcome L s (then_answer (add_all (given_in L) L.count 0 (empty_in c L.bytes)) (λ A. serialise.answer_in A s m))
    turn_outcome c m e =
        subst (WriteOutcome L s) (same_answer L (serialise.places_in m) e.scratch s L.count e.places c e.wide (length m.out))
        (whole_outcome L.count m.out e.places e.output)
