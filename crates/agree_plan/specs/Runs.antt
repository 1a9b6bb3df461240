-- The runs of sectors of a planned image: one after another, without gap or overlap. Assumes nothing.
use Rattle.std.specs.Prelude.{ℕ, zero, suc, ◌+◌, ◌≤◌, ◌≡◌, List, [], ◌∷◌, ◌++◌, map}
use Rattle.layout_sector.specs.Counter.{sectors_for}
use Rattle.table_model.specs.Entry.{Item}
use Rattle.img_model.specs.Shares.{Request}
use Rattle.img_model.specs.Plan.{table_in}
use Rattle.agree_plan.specs.Planned.{root_sector, items_at}

-- so many sectors from one on
pub record Run : Type 0 where
  pub start : ℕ
  pub count : ℕ

-- an item's run: a file's contents, or a directory's table, whose size is rounded to whole sectors
abbrev pub run_of : Item → Run
run_of y = record { start = y.sector; count = sectors_for y.entry.size }

-- the root table's run, and those of the items of the first n directories
unfoldable pub runs_of : Request → List ℕ → ℕ → List Run
runs_of R sizes zero = record { start = root_sector; count = sectors_for (table_in sizes 0) } ∷ []
runs_of R sizes (suc d) = runs_of R sizes d ++ map run_of (items_at R sizes d)

-- runs that follow one another from sector s on: each starts where the one before ended, and the last ends where e
-- is the next free sector
abbrev pub Follow : ℕ → List Run → ℕ → Type 0
Follow s [] e = s ≡ e
Follow s (r ∷ rs) e = (r.start ≡ s) × Follow (r.start + r.count) rs e

-- how many sectors they have together
abbrev pub counts : List Run → ℕ
counts [] = 0
counts (r ∷ rs) = r.count + counts rs

-- no two overlap: each starts where all before it have ended
abbrev pub AllRuns : (Run → Type 0) → List Run → Type 0
AllRuns P [] = Unit {0}
AllRuns P (r ∷ rs) = P r × AllRuns P rs

abbrev pub RunsApart : List Run → Type 0
RunsApart [] = Unit {0}
RunsApart (r ∷ rs) = AllRuns (λ q. r.start + r.count ≤ q.start) rs × RunsApart rs
