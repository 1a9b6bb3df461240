-- What is supposed of an output that a writer left, and of a list that is to be written. Assumes nothing.
use Rattle.std.specs.Prelude.{ℕ, ◌≤◌, ◌<◌, ◌≡◌, true, List, length, get_or, take}
use Rattle.units.specs.Told.{gives}
use Rattle.units.specs.declared.Sector.{Sector}
use Rattle.units.specs.declared.Region.{Region}
use Rattle.name_role.specs.Roles.{given_keys}
use Rattle.dirtab_entry.specs.Entry.{rounded, check_of}
use Rattle.table_model.specs.Table.{Placing}
use Rattle.dirtab_arena.specs.Arena.{Arena}
use Rattle.dirtab.specs.Serialise as serialise
use Rattle.dirtab_list.specs.Whole as whole
use Rattle.dirtab_list.specs.Whole.{Listing, given_in, given_name, has_places}
use Rattle.agree.specs.Written.{Stand}

-- A WHOLE LIST WAS WRITTEN from sector s on: the answer is p, the output's bytes up to the size answered, rounded,
-- stand in a window at the region's sector, and the region has the size answered
pub record WroteList (L : Listing) (shortest s : ℕ) (out : List ℕ) (p : Placing) (w : List ℕ) (first : Sector)
    (t : Region) : Type 0 where
  -- each size is a number of four bytes, as the column's type says
  pub sizes : (i : ℕ) → get_or L.size i 0 ≤ 4294967295
  pub answer : whole.whole_of L shortest s (length out) ≡ gives p
  pub stand : Stand w first t.sector (take (rounded p.size) (whole.out_after L shortest s out))
  pub sized : t.size ≡ p.size

-- AN ARENA WAS SERIALISED, the same; n is the length of the shortest column of scratch
pub record WroteArena (A : Arena) (s n : ℕ) (out : List ℕ) (p : Placing) (w : List ℕ) (first : Sector) (t : Region) :
    Type 0 where
  pub sizes : (i : ℕ) → get_or A.columns.size i 0 ≤ 4294967295
  pub answer : serialise.serialise_of A s n (length out) ≡ gives p
  pub stand : Stand w first t.sector (take (rounded p.size) (serialise.out_after A s n out))
  pub sized : t.size ≡ p.size

-- a list that adding takes, with a place for each entry in every column
pub record Taken (L : Listing) (shortest : ℕ) : Type 0 where
  pub places : has_places L shortest ≡ true
  pub few : L.count ≤ 16384
  pub checked : (i : ℕ) → i < L.count → check_of L.bytes (given_in L i) ≡ gives tt
  pub differ : (i j : ℕ) → i < L.count → j < L.count
      → given_keys (given_name L i) ≡ given_keys (given_name L j) → i ≡ j
