-- THE THEOREMS: writing a list at once answers what adding its entries in turn to an arena that holds nothing, and then serialising, answers; and leaves the
-- same bytes. Assumes nothing.
use Prim.Native.Nat.{ℕ, ◌≤◌, ◌<◌}
use native.Mathlib.Omega.{arith}
use mathlib.Core.Path.{◌≡◌, refl, sym, ap, subst, ◌∙◌}
use mathlib.Core.Bool.{Bool, true}
use mathlib.Core.List.{List, []}
use lib.ListN.{length}
use borrow.Author.Tests.{le-leb}
use Rattle.units.specs.Told.{Told, gives, refuses, pick}
use Rattle.avl_model.specs.Rep.{arr_of}
use Rattle.avl_model.specs.Laws.{All}
use Rattle.avl_model.specs.Tree.{Tree, none}
use Rattle.avl_model.proofs.Avl.{all_map}
use Rattle.avl_model.proofs.Counted.{rep_below}
use Rattle.table_model.specs.Table.{place_of, table_bytes}
use Rattle.dirtab_arena.specs.Arena.{Columns, Arena, lists_of, entry_at, tree_of}
use Rattle.dirtab_arena.proofs.Passed.{held}
use Rattle.dirtab.specs.Serialise as serialise
use Rattle.dirtab.specs.Serialise.{if_fits, if_written, serialise_of, scratch_fits}
use Rattle.dirtab_grow.specs.Listing.{Listing, given_in}
use Rattle.dirtab_grow.specs.Grow.{grow}
use Rattle.dirtab_list.specs.Whole.{entry_in, has_places, if_grown, whole_of, table_for, out_after}
use Rattle.agree_list.specs.InTurn.{add_all, empty_in, then_answer, then_output, Wide}
use Rattle.agree_list.proofs.Alike.{place_alike, bytes_alike}
use Rattle.agree_list.proofs.InTurn.{Ended, Agrees, from_empty}

module _ (L : Listing) (m : ℕ) (hm : L.count ≤ m) (s : ℕ) where
  -- an arena that holds the grown tree
  module _ (A : Arena) (t : Tree) (w : Ended L A t) where
    entries : All (λ j. entry_at A j ≡ entry_in L j) t
    entries =
        subst (All (λ j. entry_at A j ≡ entry_in L j)) w.tree_is
        (all_map (λ j. j < A.count) (λ j. entry_at A j ≡ entry_in L j) (tree_of A) (λ j h. w.after.entries j (omega (arith, w.after.count_is)))
        (rep_below (arr_of (lists_of A)) A.count none (tree_of A) (held A w.after.passes).rep))

    fits : scratch_fits A m ≡ true
    fits = le-leb A.count m (omega (arith, w.after.count_is))

    place_is : place_of (entry_at A) 1 s (tree_of A) ≡ place_of (entry_in L) 1 s t
    place_is = ap (place_of (entry_at A) 1 s) w.tree_is ∙ place_alike (entry_at A) (entry_in L) 1 s t entries

    bytes_is : table_bytes (entry_at A) 1 s (tree_of A) ≡ table_bytes (entry_in L) 1 s t
    bytes_is = ap (table_bytes (entry_at A) 1 s) w.tree_is ∙ bytes_alike (entry_at A) (entry_in L) 1 s t entries

    answer_is_lem : (bytes : ℕ) → serialise_of A s m bytes ≡ if_fits bytes (place_of (entry_in L) 1 s t)
    unfolding serialise_of
    answer_is_lem bytes =
        ap (λ (b : Bool). pick b (pick (scratch_fits A m) (if_fits bytes (place_of (entry_at A) 1 s (tree_of A))) (refuses 6 [])) (refuses 12 [])) w.after.passes
        ∙ ap (λ (b : Bool). pick b (if_fits bytes (place_of (entry_at A) 1 s (tree_of A))) (refuses 6 [])) fits
        ∙ ap (if_fits bytes) place_is

    output_is : (out : List ℕ) → serialise.out_after A s m out ≡ if_written (if_fits (length out) (place_of (entry_in L) 1 s t)) (table_bytes (entry_in L) 1 s t) out
    unfolding serialise.out_after
    output_is out = λ d. if_written (answer_is_lem (length out) d) (bytes_is d) out

  answers : (bytes : ℕ) (x : Told Arena) (y : Told Tree) → Agrees L x y
      → if_grown y (λ t. if_fits bytes (place_of (entry_in L) 1 s t)) ≡ then_answer x (λ A. serialise_of A s m bytes)
  answers bytes (gives A) (gives t) w = sym (answer_is_lem A t w bytes)
  answers bytes (gives A) (refuses k vs) w = absurd w
  answers bytes (refuses k vs) (gives t) w = absurd w
  answers bytes (refuses k vs) (refuses j us) w = λ d. refuses (sym w.0 d) (sym w.1 d)

  outputs : (out : List ℕ) (x : Told Arena) (y : Told Tree) → Agrees L x y
      → if_written (if_grown y (λ t. if_fits (length out) (place_of (entry_in L) 1 s t))) (table_for y (λ t. table_bytes (entry_in L) 1 s t)) out ≡ then_output x (λ A. serialise.out_after A s m out) out
  outputs out (gives A) (gives t) w = sym (output_is A t w out)
  outputs out (gives A) (refuses k vs) w = absurd w
  outputs out (refuses k vs) (gives t) w = absurd w
  outputs out (refuses k vs) (refuses j us) w = refl

  -- n is the length of the shortest column of scratch, c the columns of the arena, m the length of the shortest of serialising's: all long enough
  module _ (n : ℕ) (places : has_places L n ≡ true) (c : Columns) (wide : Wide L.count c) where
    -- THE NUMBERS: the reported size and the next free sector, or the refusal, with the number of the entry that adding refuses
    pub same_answer : (bytes : ℕ) → whole_of L n s bytes ≡ then_answer (add_all (given_in L) L.count 0 (empty_in c L.bytes)) (λ A. serialise_of A s m bytes)
    unfolding whole_of
    same_answer bytes =
        ap (λ (b : Bool). pick b (if_grown (grow L.bytes (given_in L) L.count) (λ t. if_fits bytes (place_of (entry_in L) 1 s t))) (refuses 6 [])) places
        ∙ answers bytes (add_all (given_in L) L.count 0 (empty_in c L.bytes)) (grow L.bytes (given_in L) L.count) (from_empty L c wide)

    -- THE BYTES
    pub same_output : (out : List ℕ) → out_after L n s out ≡ then_output (add_all (given_in L) L.count 0 (empty_in c L.bytes)) (λ A. serialise.out_after A s m out) out
    unfolding out_after whole_of
    same_output out =
        ap (λ (b : Bool). if_written
        (pick b (if_grown (grow L.bytes (given_in L) L.count) (λ t. if_fits (length out) (place_of (entry_in L) 1 s t))) (refuses 6 []))
        (table_for (grow L.bytes (given_in L) L.count) (λ t. table_bytes (entry_in L) 1 s t)) out) places
        ∙ outputs out (add_all (given_in L) L.count 0 (empty_in c L.bytes)) (grow L.bytes (given_in L) L.count) (from_empty L c wide)
