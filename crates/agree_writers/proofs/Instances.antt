-- WHAT THE THEOREMS SUPPOSE CAN BE MET: by `a`, `b`, `c`, files of size 1, written from sector 34 on into 2,560 bytes, of which the first 2,048 stand at sector
-- 33. Computed.
-- Assumes nothing.
use Prim.Native.Nat.{ℕ, zero, suc, ◌+◌, ◌≤◌, ◌<◌}
use mathlib.Core.Path.{◌≡◌, refl, sym, ◌∙◌}
use mathlib.Core.List.{List, [], ◌∷◌, append-nil}
use native.Mathlib.Omega.{arith}
use lib.ListN.{get_or, take, replicate}
use Rattle.units.specs.Told.{gives}
use Rattle.units.specs.declared.Region.{Region}
use Rattle.layout_name.specs.Order.{raised, number_order, list_order}
use Rattle.name_role.specs.Roles.{given_keys, stored_of, given_order}
use Rattle.layout_sector.specs.Counter.{sectors_for}
use Rattle.dirtab_entry.specs.Entry.{any_bad, name_in, check_of}
use Rattle.avl_model.specs.Tree.{bal}
use Rattle.avl_model.specs.Names.{to_name}
use Rattle.avl_model.specs.Seek.{tree_at}
use Rattle.avl_arena.specs.Test.{places, inside, between, cell_ok, decoded, whole_tree, holds_tree}
use Rattle.table_model.specs.Place.{start_after, end_of, free_of, items}
use Rattle.table_model.specs.Table.{any_far, Placing, place_of}
use Rattle.dirtab_arena.specs.Arena.{Arena, arena, columns, is_taken, is_arena}
use Rattle.dirtab.specs.Serialise as serialise
use Rattle.dirtab.specs.Serialise.{serialise_of}
use Rattle.dirtab_grow.specs.Grow.{grow_from}
use Rattle.dirtab_list.specs.Whole as whole
use Rattle.dirtab_list.specs.Whole.{Listing, listing, given_in, whole_of}
use Rattle.agree_writers.specs.Wrote.{WroteList, WroteArena, Taken}
use Rattle.agree_writers.proofs.Stands.{first_stand}

-- the list in columns: names in three bytes, and kinds 0, files
abbrev abc : Listing
abc = listing 3 (0 ∷ 1 ∷ 2 ∷ []) (1 ∷ 1 ∷ 1 ∷ []) (1 ∷ 1 ∷ 1 ∷ []) (0 ∷ 0 ∷ 0 ∷ []) (0x61 ∷ 0x62 ∷ 0x63 ∷ [])

-- an arena that holds them, b above a and c
abbrev held : Arena
held = arena 1 3
    (columns (65535 ∷ 0 ∷ 65535 ∷ []) (65535 ∷ 2 ∷ 65535 ∷ []) (1 ∷ 65535 ∷ 1 ∷ []) (1 ∷ 2 ∷ 1 ∷ []) (0 ∷ 1 ∷ 2 ∷ []) (1 ∷ 1 ∷ 1 ∷ []) (1 ∷ 1 ∷ 1 ∷ []) (0 ∷ 0 ∷ 0 ∷ []))
    (0x61 ∷ 0x62 ∷ 0x63 ∷ [])

abbrev out : List ℕ
out = replicate 2560 0

abbrev answer : Placing
answer = record { size = 48; free = 37 }

abbrev region : Region
region = record { sector = record { 0 = 33 }; size = 48 }

ones : (i : ℕ) → get_or {A = ℕ} (1 ∷ 1 ∷ 1 ∷ []) i 0 ≤ 4294967295
ones zero = omega arith
ones (suc zero) = omega arith
ones (suc (suc zero)) = omega arith
ones (suc (suc (suc i))) = omega arith

-- the list can be written, and its output read
list_answer : whole_of abc 3 34 2560 ≡ gives answer
unfolding whole_of grow_from check_of any_bad place_of any_far bal items end_of free_of start_after sectors_for raised number_order list_order given_order given_keys stored_of
list_answer = refl

pub abc_wrote : WroteList abc 3 34 out answer (take 2048 (whole.out_after abc 3 34 out)) (record { 0 = 33 }) region
abc_wrote = record {
  sizes = ones;
  answer = list_answer;
  stand = record { place = 0; at_sector = refl; rest = []; here = sym (append-nil (take 2048 (whole.out_after abc 3 34 out))) };
  sized = refl;
}

-- an arena can be serialised, and its output read where all of it stands
arena_answer : serialise_of held 34 3 2560 ≡ gives answer
unfolding serialise_of is_arena is_taken holds_tree places inside whole_tree decoded tree_at between cell_ok to_name check_of any_bad place_of any_far items end_of free_of
    start_after sectors_for raised number_order list_order given_order given_keys stored_of
arena_answer = refl

pub held_wrote : WroteArena held 34 3 out answer (serialise.out_after held 34 3 out) (record { 0 = 33 }) region
held_wrote = record {
  sizes = ones;
  answer = arena_answer;
  stand = first_stand (serialise.out_after held 34 3 out) (record { 0 = 33 }) (record { 0 = 33 }) 2048 (serialise.out_after held 34 3 out)
      (record { place = 0; at_sector = refl; rest = []; here = sym (append-nil (serialise.out_after held 34 3 out)) });
  sized = refl;
}

-- the list is one that adding takes
abc_checked : (i : ℕ) → i < 3 → check_of abc.bytes (given_in abc i) ≡ gives tt
unfolding check_of any_bad
abc_checked zero h = refl
abc_checked (suc zero) h = refl
abc_checked (suc (suc zero)) h = refl
abc_checked (suc (suc (suc i))) h = absurd (omega arith)

abc_raised : (i : ℕ) → i < 3 → given_keys (name_in abc.bytes (given_in abc i)) ≡ (65 + i) ∷ []
unfolding given_keys raised
abc_raised zero h = refl
abc_raised (suc zero) h = refl
abc_raised (suc (suc zero)) h = refl
abc_raised (suc (suc (suc i))) h = absurd (omega arith)

pub abc_taken : Taken abc 3
abc_taken = record {
  places = refl;
  few = omega arith;
  checked = abc_checked;
  differ = λ i j h k e.
      let same : (65 + i) ∷ [] ≡ (65 + j) ∷ [] = sym (abc_raised i h) ∙ e ∙ abc_raised j k in
      let first : 65 + i ≡ 65 + j = cc in
      omega arith;
}
