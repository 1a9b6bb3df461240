-- WHAT SERIALISING AN ARENA LEAVES, where it answers a size, is what is listed and found. Assumes nothing.
use Prim.Native.Nat.{ℕ, ◌+◌, ◌≤◌, ◌<◌}
use mathlib.Core.Path.{◌≡◌, refl, ◌∙◌}
use mathlib.Core.Bool.{Bool, true, false}
use mathlib.Core.List.{List, [], ◌++◌}
use native.Mathlib.Omega.{arith}
use lib.ListN.{length, get_or, drop}
use Rattle.units.specs.Told.{Told, gives, refuses, pick}
use Rattle.units.specs.declared.Sector.{Sector}
use Rattle.units.specs.declared.Region.{Region}
use Rattle.name_role.proofs.Storable.{is_storable}
use Rattle.dirtab_entry.specs.Entry.{rounded}
use Rattle.dirtab_entry.proofs.Storable.{passed_storable}
use Rattle.avl_model.specs.Laws.{All, Ordered}
use Rattle.avl_model.specs.Names.{name_at, to_name}
use Rattle.avl_model.specs.Order.{order}
use Rattle.avl_model.proofs.Avl.{all_map}
use Rattle.avl_model.proofs.Counted.{all_below}
use Rattle.avl_arena.proofs.Complete.{held_below}
use Rattle.table_model.specs.Place.{items}
use Rattle.table_model.specs.Table.{Placing, size_of, table_bytes, place_of}
use Rattle.table_model.specs.Said.{Fits}
use Rattle.table_model.proofs.Geometry.{items_entries}
use Rattle.table_model.proofs.Placing.{size_given}
use Rattle.dirtab_arena.specs.Arena.{Arena, lists_of, names_of, given_at, entry_at, is_arena, tree_of}
use Rattle.dirtab_arena.proofs.Fine.{name_short}
use Rattle.dirtab_arena.proofs.Passed.{held, each_taken}
use Rattle.dirtab.specs.Serialise.{scratch_fits, if_fits, serialise_of, out_after}
use Rattle.strict_rule.specs.Strict.{strict_of}
use Rattle.agree.specs.Written.{Before, Written}
use Rattle.agree.specs.Agreement.{offsets, Agreement}
use Rattle.agree.specs.Given.{EachOnce}
use Rattle.agree.proofs.Sized.{as_reported}
use Rattle.agree.proofs.Agrees as agrees
use Rattle.agree.proofs.FromList.{stored_ordered, times-order}
use Rattle.agree_strict.proofs.Passes.{written_passes}
use Rattle.agree_writers.specs.Wrote.{WroteArena}
use Rattle.agree_writers.proofs.Checks.{size_small, fits_gives}
use Rattle.agree_writers.proofs.Stands.{stand_as, table_first}

-- what serialising's answer rests on
if_arena : (b d : Bool) (x : Told Placing) (p : Placing) → pick b (pick d x (refuses 6 [])) (refuses 12 []) ≡ gives p → (b ≡ true) × (x ≡ gives p)
if_arena true true x p e = (refl, e)
if_arena true false x p e = let z : ◌≡◌ {A = ℕ} 0 1 = cc in absurd (omega arith)
if_arena false d x p e = let z : ◌≡◌ {A = ℕ} 0 1 = cc in absurd (omega arith)

module _ (A : Arena) (is : is_arena A ≡ true) where
  below : All (λ i. i < A.count) (tree_of A)
  below = held_below (lists_of A) (names_of A) A.count (tree_of A) (held A is)

  ordered : Ordered (Before (entry_at A)) (tree_of A)
  unfolding to_name
  ordered =
      stored_ordered (name_at (names_of A)) (λ i. (given_at A i).kind) (λ i. (given_at A i).size) (tree_of A)
      (all_map (λ i. i < A.count) (λ i. is_storable (name_at (names_of A) i) ≡ true) (tree_of A)
      (λ i h. passed_storable A.bytes (given_at A i) (each_taken A is i h)) below)
      (held A is).ordered

  fits : ((i : ℕ) → get_or A.columns.size i 0 ≤ 4294967295) → All (λ i. Fits (entry_at A i)) (tree_of A)
  fits sizes =
      all_map (λ i. i < A.count) (λ i. Fits (entry_at A i)) (tree_of A)
      (λ i h. record {
        short = name_short A.bytes (given_at A i) (each_taken A is i h);
        small = size_small A.bytes (given_at A i) (each_taken A is i h) (sizes i);
      })
      below

  -- each held entry is once among the items
  pub arena_each : (s : ℕ) → EachOnce (entry_at A) A.count (items (entry_at A) 1 0 s (tree_of A))
  arena_each s = record {
    numbers = order (tree_of A);
    entries = items_entries (entry_at A) 1 (tree_of A) 0 s;
    once = λ i h. times-order i (tree_of A) ∙ (held A is).each i h;
    others = λ i h. times-order i (tree_of A) ∙ all_below A.count (tree_of A) i below h;
  }

module _ (A : Arena) (s n : ℕ) (out : List ℕ) (p : Placing) (w : List ℕ) (first : Sector) (t : Region) (g : WroteArena A s n out p w first t) where
  told : (is_arena A ≡ true) × (if_fits (length out) (place_of (entry_at A) 1 s (tree_of A)) ≡ gives p)
  unfolding serialise_of
  told = if_arena (is_arena A) (scratch_fits A n) _ p g.answer

  placed : place_of (entry_at A) 1 s (tree_of A) ≡ gives p
  placed = fits_gives if_fits (λ k q. refl) (λ k j vs. refl) (length out) (place_of (entry_at A) 1 s (tree_of A)) p told.1

  bytes_are : out_after A s n out ≡ table_bytes (entry_at A) 1 s (tree_of A) ++ drop (rounded p.size) out
  unfolding out_after
  bytes_are = rw g.answer

  -- the arena's tree was written
  pub arena_wrote : Written (entry_at A) 1 s (tree_of A) w first t
  arena_wrote = record {
    writable = record {
      aligned = omega arith;
      fits = fits A told.0 g.sizes;
      ordered = ordered A told.0;
      balanced = (held A told.0).balanced;
      placing = p;
      placed = placed;
    };
    stand = stand_as w first t.sector _ _ (table_first (entry_at A) s (tree_of A) p (fits A told.0 g.sizes) placed _ _ bytes_are) g.stand;
    sized = as_reported (size_of (entry_at A) (tree_of A)) t.size (g.sized ∙ size_given (entry_at A) 1 s (tree_of A) p placed);
  }

  -- DEMAND 3 OF WHAT IS WRITTEN: reading finds the held entries
  pub arena_agrees : Agreement w first t g.stand.place (items (entry_at A) 1 0 s (tree_of A))
  unfolding arena_wrote stand_as
  arena_agrees = agrees.agreement (entry_at A) 1 s (tree_of A) w first t arena_wrote

  -- and it passes the strict check, which lists the same
  pub arena_strict : (room : ℕ) → A.count ≤ room → strict_of w first t room ≡ gives (offsets (items (entry_at A) 1 0 s (tree_of A)))
  arena_strict room h = written_passes (entry_at A) 1 s (tree_of A) w first t arena_wrote room (omega (arith, (held A told.0).size_is))
