-- What sizing an image's tables takes of columns of scratch, and what its answer stands for. Assumes nothing.
use Rattle.std.specs.Prelude.{ℕ, ◌+◌, ◌≤◌, ◌<◌, ◌≡◌, List, Result, Ok, Err}
use Rattle.units.specs.Told.{Told, gives}
use Rattle.img_model.specs.Shares.{Request, directories_of, count_of}
use Rattle.img_model.specs.Plan.{total}
use Rattle.img_table.specs.declared.EntryError.{EntryError}
use Rattle.img_table.specs.declared.EntryError.TheVariants as error
use Rattle.img_table.specs.inner.Arranging.{refused}
use Rattle.img_table.specs.inner.Scratch.{Places}

-- what is asked of the columns of scratch: a size for each directory, places of the tree for each share, and places
-- for all the orders
pub record Roomy (R : Request) (sizes : ℕ) (P : Places) (orders : ℕ) : Type 0 where
  pub sizes_are : sizes ≡ directories_of R
  pub l : (d : ℕ) → d < directories_of R → count_of R d ≤ P.left
  pub r : (d : ℕ) → d < directories_of R → count_of R d ≤ P.right
  pub p : (d : ℕ) → d < directories_of R → count_of R d ≤ P.parent
  pub h : (d : ℕ) → d < directories_of R → count_of R d ≤ P.height
  pub k : (d : ℕ) → d < directories_of R → count_of R d ≤ P.key
  pub z : (d : ℕ) → d < directories_of R → count_of R d ≤ P.size
  pub o : total R.share ≤ orders

-- the number of the entry that is refused, and the refusal of the same entry of a share that starts at `first`
abbrev pub number_in : EntryError → ℕ
number_in (error.Refused c i) = i
number_in (error.FileTooLarge i) = i

abbrev pub listed_at : ℕ → EntryError → EntryError
listed_at first (error.Refused c i) = error.Refused c (first + i)
listed_at first (error.FileTooLarge i) = error.FileTooLarge (first + i)

-- what the answer of sizing all tables stands for; `sizes` is what it leaves
abbrev pub told_sizes : Result (Unit {0}) EntryError → List ℕ → Told (List ℕ)
told_sizes (Ok u) sizes = gives sizes
told_sizes (Err e) sizes = refused e
