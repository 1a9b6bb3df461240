-- WHAT WRITING A WHOLE LIST LEAVES, where it answers a size, is what is listed and found; and which lists are refused what. Assumes nothing.
use Prim.Native.Nat.{ℕ, ◌+◌, ◌≤◌, ◌<◌}
use mathlib.Core.Path.{◌≡◌, refl, sym, ap, ◌∙◌}
use mathlib.Core.Bool.{Bool, true, false}
use mathlib.Core.List.{List, [], ◌++◌}
use native.Mathlib.Omega.{arith}
use lib.ListN.{length, drop}
use Rattle.units.specs.Told.{Told, gives, refuses, pick}
use Rattle.units.specs.declared.Sector.{Sector}
use Rattle.units.specs.declared.Region.{Region}
use Rattle.name_role.proofs.Roles.{given_equal→}
use Rattle.dirtab_entry.specs.Entry.{rounded, check_of}
use Rattle.dirtab_entry.proofs.Storable.{passed_storable}
use Rattle.avl_model.specs.Tree.{Tree, leaf}
use Rattle.avl_model.specs.Laws.{All, Ordered}
use Rattle.avl_model.specs.Names.{Names, names_in, name_at}
use Rattle.avl_model.proofs.Avl.{all_map}
use Rattle.table_model.specs.Entry.{Entry}
use Rattle.table_model.specs.Place.{items}
use Rattle.table_model.specs.Table.{Placing, size_of, table_bytes, place_of}
use Rattle.table_model.specs.Said.{Fits}
use Rattle.table_model.proofs.Placing.{size_given}
use Rattle.dirtab_arena.proofs.Fine.{name_short}
use Rattle.dirtab_grow.specs.Grow.{order_in, grow}
use Rattle.dirtab_grow.proofs.Growth.{all_passed}
use Rattle.dirtab_list.specs.Whole.{Listing, given_in, given_name, entry_in, has_places, if_fits, if_grown, whole_of, out_after}
use Rattle.strict_rule.specs.Strict.{strict_of}
use Rattle.agree.specs.Written.{Before, Written}
use Rattle.agree.specs.Agreement.{offsets, Agreement}
use Rattle.agree.specs.Given.{grown, EachOnce}
use Rattle.agree.proofs.Sized.{as_reported}
use Rattle.agree.proofs.Agrees as agrees
use Rattle.agree.proofs.Growing.{grew, grows}
use Rattle.agree.proofs.FromList.{grown_below, grown_avl, grown-size, grown_each}
use Rattle.agree_strict.proofs.Passes.{written_passes}
use Rattle.agree_writers.specs.Wrote.{WroteList, Taken}
use Rattle.agree_writers.proofs.Checks.{size_small, fits_gives}
use Rattle.agree_writers.proofs.Stands.{stand_as, table_first}

module _ (L : Listing) where
  abbrev E : ℕ → Entry
  E = entry_in L

  abbrev N : Names
  N = names_in L.bytes L.start L.len

  abbrev T : ℕ → Tree
  T n = grown (name_at N) n

  abbrev check : ℕ → Told (Unit {0})
  check i = check_of L.bytes (given_in L i)

  -- WHAT GROWING GIVES is the tree of all entries, ordered; each entry was checked
  all_grew : (u : Tree) → grow L.bytes (given_in L) L.count ≡ gives u → (u ≡ T L.count) × Ordered (Before E) (T L.count)
  all_grew = grew N check (λ i. (given_in L i).kind) (λ i. (given_in L i).size) (λ i h. passed_storable L.bytes (given_in L i) h) L.count

  all_checked : (u : Tree) → grow L.bytes (given_in L) L.count ≡ gives u → (j : ℕ) → j < L.count → check j ≡ gives tt
  all_checked u e j h = all_passed (order_in L.bytes (given_in L)) check L.count 0 leaf e j (omega arith) (omega arith)

-- what a whole list's answer rests on
if_places : (b : Bool) (x : Told Placing) (p : Placing) → pick b x (refuses 6 []) ≡ gives p → x ≡ gives p
if_places true x p e = e
if_places false x p e = let z : ◌≡◌ {A = ℕ} 0 1 = cc in absurd (omega arith)

if_grown_lem : (g : Told Tree) (next : Tree → Told Placing) (p : Placing) → if_grown g next ≡ gives p → (u : Tree) × (g ≡ gives u) × (next u ≡ gives p)
if_grown_lem (gives u) next p e = (u, refl, e)
if_grown_lem (refuses k vs) next p e = let z : ◌≡◌ {A = ℕ} 0 1 = cc in absurd (omega arith)

module _ (L : Listing) (shortest s : ℕ) (out : List ℕ) (p : Placing) (w : List ℕ) (first : Sector) (t : Region) (g : WroteList L shortest s out p w first t) where
  told : (u : Tree) × (grow L.bytes (given_in L) L.count ≡ gives u) × (if_fits (length out) (place_of (E L) 1 s u) ≡ gives p)
  unfolding whole_of
  told =
      if_grown_lem (grow L.bytes (given_in L) L.count) (λ u. if_fits (length out) (place_of (E L) 1 s u)) p (if_places (has_places L shortest) _ p g.answer)

  tree_is : grow L.bytes (given_in L) L.count ≡ gives (T L L.count)
  tree_is = told.1 ∙ ap gives (all_grew L told.0 told.1).0

  placed : place_of (E L) 1 s (T L L.count) ≡ gives p
  placed = ap (λ (u : Tree). place_of (E L) 1 s u) (sym (all_grew L told.0 told.1).0) ∙ fits_gives if_fits (λ k q. refl) (λ k j vs. refl) (length out) (place_of (E L) 1 s told.0) p told.2

  bytes_are : out_after L shortest s out ≡ table_bytes (E L) 1 s (T L L.count) ++ drop (rounded p.size) out
  unfolding out_after
  bytes_are = rw (g.answer, tree_is)

  fits : All (λ i. Fits (E L i)) (T L L.count)
  fits =
      let c = all_checked L told.0 told.1 in
      all_map (λ i. i < L.count) (λ i. Fits (E L i)) (T L L.count)
      (λ i h. record {
        short = name_short L.bytes (given_in L i) (c i h);
        small = size_small L.bytes (given_in L i) (c i h) (g.sizes i);
      })
      (grown_below (name_at (N L)) L.count)

  -- the tree of the list was written
  pub list_wrote : Written (entry_in L) 1 s (grown (given_name L) L.count) w first t
  list_wrote = record {
    writable = record {
      aligned = omega arith;
      fits = fits;
      ordered = (all_grew L told.0 told.1).1;
      balanced = grown_avl (name_at (N L)) L.count;
      placing = p;
      placed = placed;
    };
    stand = stand_as w first t.sector _ _ (table_first (E L) s (T L L.count) p fits placed _ _ bytes_are) g.stand;
    sized = as_reported (size_of (E L) (T L L.count)) t.size (g.sized ∙ size_given (E L) 1 s (T L L.count) p placed);
  }

  -- DEMAND 3 OF WHAT IS WRITTEN: reading finds the list's entries
  pub list_agrees : Agreement w first t g.stand.place (items (entry_in L) 1 0 s (grown (given_name L) L.count))
  unfolding list_wrote stand_as
  list_agrees = agrees.agreement (entry_in L) 1 s (grown (given_name L) L.count) w first t list_wrote

  -- each of them once
  pub list_each : EachOnce (entry_in L) L.count (items (entry_in L) 1 0 s (grown (given_name L) L.count))
  list_each = grown_each (given_name L) (entry_in L) L.count 1 s

  -- and it passes the strict check, which lists the same
  pub list_strict : (room : ℕ) → L.count ≤ room → strict_of w first t room ≡ gives (offsets (items (entry_in L) 1 0 s (grown (given_name L) L.count)))
  list_strict room h = written_passes (entry_in L) 1 s (grown (given_name L) L.count) w first t list_wrote room (omega (arith, grown-size (given_name L) L.count))

-- WHICH LISTS ARE REFUSED WHAT: one that adding takes is placed, so that only 7, 8 and 9 are left
module _ (L : Listing) (shortest : ℕ) (h : Taken L shortest) where
  -- the answer is what placing the tree of all entries answers, and 9 where the output is too short for it
  pub list_placed : (s bytes : ℕ) → whole_of L shortest s bytes ≡ if_fits bytes (place_of (entry_in L) 1 s (grown (given_name L) L.count))
  unfolding whole_of
  list_placed s bytes =
      rw (
        h.places,
        grows (N L) (check L) L.count h.few h.checked
            (λ i j k l e. omega (arith, h.differ i j k (omega arith) (given_equal→ (name_at (N L) i) (name_at (N L) j) e))),
      )
