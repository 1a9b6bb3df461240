-- What going forward over an image's directories answers and leaves. Assumes nothing.
use Rattle.std.specs.Prelude.{
  ℕ,
  ◌+◌,
  ◌≤◌,
  ◌<◌,
  ◌≡◌,
  true,
  List,
  [],
  ◌∷◌,
  ltb,
  eqb,
  length,
  get_or,
  set,
  drop,
  Result,
  Ok,
  Err,
}
use Rattle.units.specs.declared.Sector.{Sector}
use Rattle.units.specs.Told.{Told, gives, refuses, pick}
use Rattle.layout_sector.specs.Counter.{aligned_up}
use Rattle.avl_model.specs.Tree.{Tree}
use Rattle.avl_model.specs.Order as preorder
use Rattle.dirtab_place.specs.inner.Places.{free_in}
use Rattle.dirtab_place.specs.inner.Places as places
use Rattle.img_model.specs.declared.PlanError.{PlanError}
use Rattle.img_model.specs.declared.PlanError.TheVariants as plan
use Rattle.avl_model.specs.Names.{Names, names_in}
use Rattle.img_model.specs.Shares.{Request, Share, columns}
use Rattle.img_model.specs.Plan.{Taking, total, table_in, tree_in}
use Rattle.img_table.specs.inner.Arranging.{Fillable}
use Rattle.img_model.specs.inner.Tables.{Sizeable, TablesIn}
use Rattle.img_take.specs.declared.PlacingError.{PlacingError}
use Rattle.img_take.specs.declared.PlacingError.TheVariants as error

-- what entries take, of its columns and the next free sector
abbrev pub taking : List ℕ → List ℕ → ℕ → Taking
taking tables sectors free = record { tables = tables; sectors = sectors; free = free }

-- of what entries take, the next free sector alone
abbrev pub free_told : Told Taking → Told ℕ
free_told (gives p) = gives p.free
free_told (refuses k vs) = refuses k vs

-- what an answer stands for: the next free sector after all, or the first directory whose table cannot be placed
abbrev pub told_placed : Result Sector PlacingError → Told ℕ
told_placed (Ok s) = gives s.0
told_placed (Err (error.TooManyDirectoryEntries d)) = refuses 7 (d ∷ [])
told_placed (Err (error.SectorOverflow d)) = refuses 8 (d ∷ [])

-- the same refusal of a plan
abbrev pub plan_error : PlacingError → PlanError
plan_error (error.TooManyDirectoryEntries d) = plan.TooManyDirectoryEntries d
plan_error (error.SectorOverflow d) = plan.SectorOverflow d

-- a request, and a directory's entries, with names N. (The code does not look at the names here, so that they may be
-- any with which the tables are sized.)
abbrev pub with_names : Request → Names → Request
with_names R N = columns R.from R.share N.start N.len R.kind R.value N.bytes

abbrev pub share_with : Share → Names → Share
share_with S N = record {
  count = S.count;
  start = N.start;
  len = N.len;
  kind = S.kind;
  value = S.value;
  bytes = N.bytes;
}

-- no names
abbrev pub nameless : Names
nameless = names_in [] [] []

-- an image whose tables are sized, with a column that has a place for each of a share's sizes
pub record Sized (R : Request) (sizes orders : List ℕ) (places : ℕ) : Type 0 where
  pub sizeable : Sizeable R
  pub some : 0 < length R.from
  pub sized : length sizes ≡ length R.from
  pub tables : TablesIn R sizes orders
  pub long : total R.share ≤ length orders
  pub wide : (d : ℕ) → d < length R.from → get_or R.share d 0 ≤ places

-- a directory d whose order ends at `to`
pub record Turn (R : Request) (sizes orders : List ℕ) (places d to : ℕ) : Type 0 where
  pub sized : Sized R sizes orders places
  pub is_one : d < length R.from
  pub to_is : to ≡ total (drop d R.share)

-- one directory's entries, with a column that has a place for each size: their tree, and `listed` is its preorder
pub record Treed (listed : List ℕ) (S : Share) (sizes : List ℕ) (places : ℕ) : Type 0 where
  pub t : Tree
  pub fillable : Fillable S (length sizes) places
  pub told : tree_in S (table_in sizes) ≡ gives t
  pub listed_is : listed ≡ preorder.order t

-- the next free sector, or 8 where it exceeds 4,294,967,295
abbrev pub limited : ℕ → Told ℕ
limited f = pick (ltb 4294967295 f) (refuses 8 []) (gives f)

-- the entry i of a directory whose first entry stands at f takes its sectors, over slices of the columns
abbrev pub take_one : List ℕ → List ℕ → List ℕ → ℕ → Taking → ℕ → Taking
take_one kind value size f p i = record {
  tables = pick (eqb (get_or kind i 0) 1) (set p.tables (get_or value i 0) (aligned_up 1 p.free)) p.tables;
  sectors = set p.sectors (f + i) (aligned_up 1 p.free);
  free = free_in size kind p.free i;
}

-- the entries of an order take theirs
unfoldable pub take_along : List ℕ → List ℕ → List ℕ → ℕ → Taking → List ℕ → Taking
take_along kind value size f p [] = p
take_along kind value size f p (i ∷ is) = take_along kind value size f (take_one kind value size f p i) is

-- what taking takes of entry i, where there are so many tables and entries in all
pub record Enters (kind value size : List ℕ) (f i tables sectors : ℕ) : Type 0 where
  pub sized : places.Sized size kind i
  pub in_value : i < length value
  pub in_sectors : f + i < sectors
  pub in_tables : eqb (get_or kind i 0) 1 ≡ true → get_or value i 0 < tables

-- and of those of an order
abbrev pub EntersAll : List ℕ → List ℕ → List ℕ → List ℕ → ℕ → ℕ → ℕ → Type 0
EntersAll order kind value size f tables sectors =
    (k : ℕ) → k < length order → Enters kind value size f (get_or order k 0) tables sectors
