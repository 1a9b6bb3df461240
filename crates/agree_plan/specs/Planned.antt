-- A plan that is given: its tables, the sectors from which they are written, and what was planned for them. Assumes
-- nothing.
use Rattle.std.specs.Prelude.{ℕ, zero, suc, ◌+◌, ◌≤◌, ◌<◌, ◌≡◌, true, List, map, length, get_or}
use Rattle.units.specs.Told.{Told, gives, refuses}
use Rattle.layout_sector.specs.Counter.{sectors_for}
use Rattle.avl_model.specs.Tree.{Tree, leaf}
use Rattle.table_model.specs.Entry.{Item}
use Rattle.table_model.specs.Place.{items}
use Rattle.table_model.specs.Table.{Placing, size_of, place_of}
use Rattle.img_model.specs.Shares.{Request, share_of, directories_of, entries_of, first_of, count_of, is_directory}
use Rattle.img_model.specs.Shares.{value_of}
use Rattle.img_model.specs.Plan.{table_in, tree_in, entries_at, Plan, plan_of}
use Rattle.agree.specs.Given.{times}

-- the tree of directory d's entries; `sizes` has the reported size of every table
abbrev pub tree_or : Told Tree → Tree
tree_or (gives t) = t
tree_or (refuses k vs) = leaf

abbrev pub tree_at : Request → List ℕ → ℕ → Tree
tree_at R sizes d = tree_or (tree_in (share_of R d) (table_in sizes))

-- the next free sector that placing gives
abbrev pub free_given : Told Placing → ℕ
free_given (gives q) = q.free
free_given (refuses k vs) = 0

-- the first sector of the root table
abbrev pub root_sector : ℕ
root_sector = 33

-- the directories are written in turn, each from the next free sector that the one before gave; the root from the
-- first after its own table's
unfoldable pub start_sector : Request → List ℕ → ℕ → ℕ
start_sector R sizes zero = root_sector + sectors_for (table_in sizes 0)
start_sector R sizes (suc d) =
    free_given (place_of (entries_at R sizes d) 1 (start_sector R sizes d) (tree_at R sizes d))

-- the items of directory d's table, written so
abbrev pub items_at : Request → List ℕ → ℕ → List Item
items_at R sizes d = items (entries_at R sizes d) 1 0 (start_sector R sizes d) (tree_at R sizes d)

-- WHAT IS SUPPOSED: p is the plan of R, over columns that have a place for each table and each entry
pub record Planned (R : Request) (places : ℕ) (tables sectors : List ℕ) (p : Plan) : Type 0 where
  pub table_places : length tables ≡ directories_of R
  pub entry_places : length sectors ≡ entries_of R
  pub given : plan_of R places tables sectors ≡ gives p

-- and where it is said: no entry is in two shares. (One that is has a place in two tables, with sectors of its own
-- in each, and the column of sectors keeps the later: the root has a directory `d` and a file `a`, and the share of
-- `d` is that same `a`. proofs/Cases has this plan computed.)
pub record Disjoint (R : Request) : Type 0 where
  pub once : (d e i j : ℕ) → d < directories_of R → e < directories_of R → i < count_of R d → j < count_of R e
      → first_of R d + i ≡ first_of R e + j → d ≡ e

-- directory d has its tree, the planned size is what its table reports, and neither 7 nor 8 is met where it is
-- written from its sector on
pub record Tabled (R : Request) (p : Plan) (d : ℕ) : Type 0 where
  pub grown : tree_in (share_of R d) (table_in p.sizes) ≡ gives (tree_at R p.sizes d)
  pub sized : table_in p.sizes d ≡ size_of (entries_at R p.sizes d) (tree_at R p.sizes d)
  pub placed : place_of (entries_at R p.sizes d) 1 (start_sector R p.sizes d) (tree_at R p.sizes d)
      ≡ gives (record { size = table_in p.sizes d; free = start_sector R p.sizes (suc d) })

-- the planned sector of the i-th entry of directory d, and of directory x's table
abbrev pub sector_at : Request → Plan → ℕ → ℕ → ℕ
sector_at R p d i = get_or p.taken.sectors (first_of R d + i) 0

abbrev pub table_sector : Plan → ℕ → ℕ
table_sector p x = get_or p.taken.tables x 0

-- the table of directory d, written from its sector on, has each of its entries once, with the sector that was
-- planned for it; and where an entry is a directory, that is the sector that was planned for its table
pub record Sectored (R : Request) (p : Plan) (d : ℕ) : Type 0 where
  pub numbers : List ℕ
  pub once : (i : ℕ) → i < count_of R d → times i numbers ≡ 1
  pub others : (i : ℕ) → count_of R d ≤ i → times i numbers ≡ 0
  pub entries : map (λ (y : Item). y.entry) (items_at R p.sizes d) ≡ map (entries_at R p.sizes d) numbers
  pub sectors : map (λ (y : Item). y.sector) (items_at R p.sizes d) ≡ map (sector_at R p d) numbers
  pub tables : (i : ℕ) → i < count_of R d → is_directory (share_of R d) i ≡ true
      → table_sector p (value_of (share_of R d) i) ≡ sector_at R p d i
