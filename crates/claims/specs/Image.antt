-- DEMAND 3 OF A PLANNED IMAGE: every table is read as it was written, a path finds the planned entry, and nothing
-- else is found. Said of what `plan` is proved to answer and leave. Assumes nothing.
use Rattle.std.specs.Prelude.{ℕ, suc, ◌≤◌, ◌<◌, ◌≡◌, true, length, drop}
use mathlib.Core.List.{List, [], ◌++◌, Memᴰ}
use Rattle.std.proofs.Math.Option.{some}
use Rattle.units.specs.Told.{gives, refuses}
use Rattle.units.specs.declared.Sector.{Sector}
use Rattle.units.specs.declared.Region.{Region}
use Rattle.dirtab_entry.specs.Entry.{rounded}
use Rattle.read_entry.specs.Entry.{Placed}
use Rattle.read_entry.specs.Links.{absent_under}
use Rattle.read_path.specs.Path.{path_by, path_of}
use Rattle.table_model.specs.Table.{table_bytes}
use Rattle.dirtab_list.specs.Whole as whole
use Rattle.dirtab_list.specs.Whole.{has_places, places_in}
use Rattle.img_model.specs.Shares.{Request, directories_of, count_of}
use Rattle.img_model.specs.Plan.{table_in, entries_at, Plan}
use Rattle.img_model.specs.Image.{Asked, Lent, request_in}
use Rattle.agree.specs.Written.{Stand}
use Rattle.agree.specs.Agreement.{placed_at}
use Rattle.agree_plan.specs.Planned.{tree_at, start_sector, items_at, Disjoint, table_sector}
use Rattle.agree_plan.specs.InTurn.{SizesFor, listing_of}
use Rattle.agree_plan.specs.Runs.{runs_of, Follow, RunsApart}
use Rattle.agree_plan.specs.Image.{root_of, RegionFor, joined, Leads, Finds, Only, AllParts}
use Rattle.agree_causes.specs.Plans.{GivenIn}
use Rattle.claims.specs.Found.{Kept}

-- the plan of a request, and a window in which each directory's table stands at its planned sector; no entry is in
-- two shares
pub record ImageRead (R : Request) (p : Plan) (w : List ℕ) (first : Sector) : Type 0 where
  pub apart : Disjoint R
  pub stand : (d : ℕ) → d < directories_of R
      → Stand w first (record { 0 = table_sector p d })
      (table_bytes (entries_at R p.sizes d) 1 (start_sector R p.sizes d) (tree_at R p.sizes d))

pub record ImageFound (R : Request) (p : Plan) (f : ℕ) (w : List ℕ) (first : Sector) (g : ImageRead R p w first) :
    Type 0 where
  -- every table, in the root's region and in that of a directory's entry
  pub tables : (d : ℕ) (h : d < directories_of R) (t : Region) → RegionFor p d t
      → Kept w first t (g.stand d h).place (count_of R d) (entries_at R p.sizes d) (items_at R p.sizes d)
  -- a path to a planned entry finds it: under rule one unless a link of 255 stands on the way, which is the only one,
  -- and then the answer is 22; under rule two always
  pub path : (e j : ℕ) (parts : List (List ℕ)) → Leads R p 0 parts e j
      → (f : Finds R p w first (root_of p) parts e j (λ absent. path_by absent w first (root_of p) (joined parts)))
      × ((Memᴰ 255 f.links → ⊥)
      → path_of 1 w first (root_of p) (joined parts) ≡ gives (placed_at f.place f.item))
      × (Memᴰ 255 f.links → path_of 1 w first (root_of p) (joined parts) ≡ refuses 22 [])
      × (path_of 2 w first (root_of p) (joined parts) ≡ gives (placed_at f.place f.item))
  -- no path finds anything else, under either rule
  pub only : (parts : List (List ℕ)) → AllParts parts
      → (rule : ℕ) (absent : List ℕ) → absent_under rule ≡ some absent
      → Only R p first 0 parts (path_of rule w first (root_of p) (joined parts))
  -- what a path finds under rule one it finds under rule two
  pub same : (parts : List (List ℕ)) → AllParts parts → (x : Placed)
      → path_of 1 w first (root_of p) (joined parts) ≡ gives x → path_of 2 w first (root_of p) (joined parts) ≡ gives x
  -- all runs of sectors follow one another from 33 to the next free sector f, and no two overlap
  pub follow : Follow 33 (runs_of R p.sizes (directories_of R)) f
  pub runs : RunsApart (runs_of R p.sizes (directories_of R))

-- the table of directory d, written
pub record TableLeft (R : Request) (p : Plan) (d : ℕ) (size : List ℕ) (k : whole.Lent) : Type 0 where
  pub answer : whole.answer_in (listing_of R d size) (start_sector R p.sizes d) k
      ≡ gives (record { size = table_in p.sizes d; free = start_sector R p.sizes (suc d) })
  pub output : (whole.lent_after (listing_of R d size) (start_sector R p.sizes d) k).out
      ≡ table_bytes (entries_at R p.sizes d) 1 (start_sector R p.sizes d) (tree_at R p.sizes d)
      ++ drop (rounded (table_in p.sizes d)) k.out

abbrev pub ImageKept : Type 0
ImageKept = (A : Asked) (m : Lent) (f : ℕ) (q : GivenIn A m f) (w : List ℕ) (first : Sector)
    (g : ImageRead (request_in A) q.plan w first) → ImageFound (request_in A) q.plan f w first g

-- THE TABLES ARE WHAT `write_list` LEAVES: the list of directory d's entries, each with its size, a directory's as
-- its table reports it, is written from the sector where the directory before ended; the answer is the planned size
-- and the next directory's start, and the output begins with the table
abbrev pub TablesWritten : Type 0
TablesWritten = (A : Asked) (m : Lent) (f : ℕ) (q : GivenIn A m f) (d : ℕ) → d < directories_of (request_in A)
    → (size : List ℕ) → SizesFor (request_in A) q.plan d size → (k : whole.Lent)
    → has_places (listing_of (request_in A) d size) (places_in k) ≡ true
    → rounded (table_in q.plan.sizes d) ≤ length k.out → TableLeft (request_in A) q.plan d size k
