-- What the steps of planning take of one another. Assumes nothing.
use Rattle.std.specs.Prelude.{ℕ, ◌≤◌, ◌<◌, ◌≡◌, true, List, length, take, Result}
use Rattle.units.specs.declared.Sector.{Sector}
use Rattle.units.specs.Told.{Told, gives, refuses}
use Rattle.img_model.specs.declared.PlanError.{PlanError}
use Rattle.img_model.specs.declared.PlanOut.{PlanOut}
use Rattle.img_model.specs.Shares.{Request, directories_of, entries_of, count_of}
use Rattle.img_model.specs.Plan.{Plan, Taking, told, plan_of}
use Rattle.img_take.specs.inner.Forward.{free_told}
use Rattle.img_model.specs.Image.{Asked, Lent, lent, has_room, request_in, answer_of, column_after}
use Rattle.img_table.specs.declared.TableScratch.{TableScratch}
use Rattle.img_table.specs.inner.Scratch.{Places}

-- what is lent for the plan
pub record Given : Type 0 where
  pub sizes : List ℕ
  pub tables : List ℕ
  pub sectors : List ℕ

abbrev pub given : List ℕ → List ℕ → List ℕ → Given
given sizes tables sectors = record { sizes = sizes; tables = tables; sectors = sectors }

abbrev pub given_by : PlanOut → Given
given_by out = given out.sizes.now out.tables.now out.sectors.now

-- a place for the size and the sector of each table, and for the sector of each entry
pub record IsAsLong (R : Request) (out : Given) : Type 0 where
  pub sizes_is : length out.sizes ≡ directories_of R
  pub tables_is : length out.tables ≡ directories_of R
  pub sectors_is : length out.sectors ≡ entries_of R

-- all that is lent
abbrev pub lent_with : Given → List ℕ → TableScratch → List ℕ → Lent
lent_with out sized s order = lent out.sizes out.tables out.sectors sized s.left.now s.right.now
    s.parent.now s.height.now s.key.now s.size.now order

-- a column of n has a place for each entry of a share that lies in the list
abbrev pub Holds : Request → ℕ → Type 0
Holds R n = (d : ℕ) → d < directories_of R → count_of R d ≤ entries_of R → count_of R d ≤ n

-- columns just as long as they are counted, and so many sizes of scratch
pub record Exact (R : Request) (sized : ℕ) (out : Given) : Type 0 where
  pub shared : length R.share ≡ directories_of R
  pub started : length R.start ≡ entries_of R
  pub named : length R.len ≡ entries_of R
  pub valued : length R.value ≡ entries_of R
  pub few : directories_of R ≤ 4294967295
  pub low : entries_of R ≤ 4294967295
  pub sized_is : sized ≡ directories_of R
  pub long : IsAsLong R out

-- columns of a tree that are long enough
pub record Wide (R : Request) (P : Places) : Type 0 where
  pub l : Holds R P.left
  pub r : Holds R P.right
  pub p : Holds R P.parent
  pub h : Holds R P.height
  pub k : Holds R P.key
  pub z : Holds R P.size

-- what is given back of a column: what was told has it, or it is unchanged after a refusal
abbrev pub after : {A : Type 0} → Told A → (A → List ℕ) → List ℕ → List ℕ
after (gives p) column xs = column p
after (refuses k vs) column xs = xs

-- what handing out answers and leaves, where g is to be told of what the entries take and s are the tables' sizes
pub record HandedOut (r : Result Sector PlanError) (s : List ℕ) (g : Told Taking) (old new : Given) : Type 0 where
  pub answer : told r ≡ free_told g
  pub sizes_are : new.sizes ≡ after g (λ p. s) old.sizes
  pub tables_are : new.tables ≡ after g (λ p. p.tables) old.tables
  pub sectors_are : new.sectors ≡ after g (λ p. p.sectors) old.sectors

-- what planning answers and leaves, where g is to be told of the plan
pub record PlannedBy (r : Result Sector PlanError) (g : Told Plan) (old new : Given) : Type 0 where
  pub answer : told r ≡ answer_of g
  pub sizes_are : new.sizes ≡ after g (λ p. p.sizes) old.sizes
  pub tables_are : new.tables ≡ after g (λ p. p.taken.tables) old.tables
  pub sectors_are : new.sectors ≡ after g (λ p. p.taken.sectors) old.sectors

-- every column is long enough for counts of four bytes
pub record Cut (A : Asked) (L : Lent) : Type 0 where
  pub room : has_room A L ≡ true
  pub few : A.directories ≤ 4294967295
  pub low : A.entries ≤ 4294967295

-- the plan of the columns as far as the counts go
unfoldable pub plan_in : Asked → Lent → Told Plan
plan_in A L = plan_of (request_in A) (length L.order) (take A.directories L.tables)
    (take A.entries L.sectors)

-- what planning answers and leaves, over the whole columns
pub record PlannedIn (r : Result Sector PlanError) (A : Asked) (L : Lent) (new : Given) : Type 0 where
  pub answer : told r ≡ answer_of (plan_in A L)
  pub sizes_are : new.sizes ≡ column_after (plan_in A L) (λ p. p.sizes) A.directories L.sizes
  pub tables_are : new.tables ≡ column_after (plan_in A L) (λ p. p.taken.tables) A.directories L.tables
  pub sectors_are : new.sectors ≡ column_after (plan_in A L) (λ p. p.taken.sectors) A.entries L.sectors
