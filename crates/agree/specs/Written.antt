-- What is supposed of a table that was written, and of the window in which it is read. Assumes nothing.
use Rattle.std.specs.Prelude.{ℕ, ◌+◌, ◌*◌, ◌≤◌, ◌≡◌, List, ◌++◌, drop}
use Rattle.units.specs.Told.{gives}
use Rattle.units.specs.declared.Sector.{Sector}
use Rattle.units.specs.declared.Region.{Region}
use Rattle.std.specs.declared.cmp.Ordering.TheVariants.{Less}
use Rattle.name_role.specs.Roles.{stored_order}
use Rattle.dirtab_entry.specs.Entry.{rounded}
use Rattle.avl_model.specs.Tree.{Tree}
use Rattle.avl_model.specs.Laws.{Avl, All, Ordered}
use Rattle.table_model.specs.Entry.{Entry}
use Rattle.table_model.specs.Table.{Placing, size_of, table_bytes, place_of}
use Rattle.table_model.specs.Said.{Fits}

-- the name of entry i is before that of entry j, raised
abbrev pub Before : (ℕ → Entry) → ℕ → ℕ → Type 0
Before entry i j = stored_order (entry i).name (entry j).name ≡ Less

-- a tree of entries that can be written from sector s on, with sectors at multiples of an alignment
pub record Writable (entry : ℕ → Entry) (align s : ℕ) (x : Tree) : Type 0 where
  pub aligned : 1 ≤ align
  -- each name has at most 255 bytes, and each size fits four
  pub fits : All (λ i. Fits (entry i)) x
  -- names are in order, so no two are equal once raised
  pub ordered : Ordered (Before entry) x
  pub balanced : Avl x
  -- neither 7 nor 8 is met
  pub placing : Placing
  pub placed : place_of entry align s x ≡ gives placing

-- some bytes stand in a window at a sector: the window is a list of bytes and the number of its first sector
pub record Stand (w : List ℕ) (first sector : Sector) (bytes : List ℕ) : Type 0 where
  -- the first of them is at this place of the window
  pub place : ℕ
  pub at_sector : 2048 * sector.0 ≡ 2048 * first.0 + place
  pub rest : List ℕ
  pub here : drop place w ≡ bytes ++ rest

-- a size with which a table can be read: the one that it reports, which a root's region has, or more, up to that
-- one rounded, which the entry of a directory has
pub record SizedFor (reported n : ℕ) : Type 0 where
  pub least : reported ≤ n
  pub most : n ≤ rounded reported

-- WHAT IS SUPPOSED: the bytes of a tree that can be written stand in the window at the region's sector, and the
-- region has the reported size, or more up to that size rounded
pub record Written (entry : ℕ → Entry) (align s : ℕ) (x : Tree) (w : List ℕ) (first : Sector) (t : Region) :
    Type 0 where
  pub writable : Writable entry align s x
  pub stand : Stand w first t.sector (table_bytes entry align s x)
  pub sized : SizedFor (size_of entry x) t.size
