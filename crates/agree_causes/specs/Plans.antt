-- The images that are spoken of, and what planning one answers: four answers, each with its cause, and with the
-- earlier causes not there. Assumes nothing.
use Rattle.std.specs.Prelude.{ℕ, zero, suc, ◌+◌, ◌≤◌, ◌<◌, ◌≡◌, true, false, length, get_or, take, drop}
use mathlib.Core.List.{List, [], ◌∷◌, ◌++◌, Memᴰ}
use Rattle.units.specs.Told.{Told, gives, refuses}
use Rattle.layout_sector.specs.Counter.{sectors_for}
use Rattle.avl_model.specs.Tree.{Tree}
use Rattle.table_model.specs.Entry.{Item}
use Rattle.table_model.specs.Place.{items}
use Rattle.table_model.specs.Table.{size_of}
use Rattle.table_model.specs.Said.{AllIn}
use Rattle.img_model.specs.Shares.{Request, directories_of, first_of, count_of, share_of, given_name, is_tree}
use Rattle.img_model.specs.Shares.{is_directory, value_of}
use Rattle.img_model.specs.Plan.{table_in, entries_at, Plan, total}
use Rattle.img_model.specs.Image.{Asked, Lent, has_room, request_in, lent_after}
use Rattle.agree.specs.Given.{grown}
use Rattle.agree_plan.specs.Planned.{root_sector, Planned}
use Rattle.agree_causes.specs.Lists.{Fair, sectors_of, Near, farthest, last_sector}

-- AN IMAGE: its directories are a tree, and the names of each are as those of a list that is spoken of
pub record FairImage (R : Request) : Type 0 where
  pub tree : is_tree R ≡ true
  pub named : (d : ℕ) → d < directories_of R
      → Fair (count_of R d) (share_of R d).start (share_of R d).len R.bytes

-- ENOUGH MEMORY to plan it: every column is long enough, and that for the orders holds all shares together
pub record EnoughFor (A : Asked) (m : Lent) : Type 0 where
  pub room : has_room A m ≡ true
  pub orders : total (request_in A).share ≤ length m.order

-- entry i of directory d is a file of more than 4,294,967,295 bytes
pub record TooLong (R : Request) (d i : ℕ) : Type 0 where
  pub directory : d < directories_of R
  pub entry : i < count_of R d
  pub file : is_directory (share_of R d) i ≡ false
  pub long : 4294967295 < value_of (share_of R d) i

-- `sizes` has the reported size of every table
module _ (R : Request) (sizes : List ℕ) where
  -- the tree of directory d's entries, put in one after another
  abbrev pub tree_for : ℕ → Tree
  tree_for d = grown (given_name (share_of R d)) (count_of R d)

  pub record SizesOf : Type 0 where
    pub long : length sizes ≡ directories_of R
    pub each : (d : ℕ) → d < directories_of R → get_or sizes d 0 ≡ size_of (entries_at R sizes d) (tree_for d)

  -- the next free sector before directory d's entries take theirs: after the root table, and then after the entries
  -- of the directories before it
  unfoldable pub free_before : ℕ → ℕ
  free_before zero = root_sector + sectors_for (table_in sizes 0)
  free_before (suc d) = free_before d + sectors_of (entries_at R sizes d) (count_of R d)

  abbrev pub items_for : ℕ → List Item
  items_for d = items (entries_at R sizes d) 1 0 (free_before d) (tree_for d)

  -- directory d's table can be placed
  pub record Placeable (d : ℕ) : Type 0 where
    pub near : AllIn Near (items_for d)
    pub low : free_before (suc d) ≤ last_sector

-- WHAT PLANNING ANSWERS, by its cause: the next free sector; 10 with the place of a file that is too long, the
-- first from the last directory back; 7 with the first directory that cannot be placed, where an item of its table
-- would start past 262,143; 8 with it, where the next free sector would exceed 4,294,967,295
pub data PlanOutcome (R : Request) : Told ℕ → Type 0 where
  planned : ((d i : ℕ) → TooLong R d i → ⊥) → (s : List ℕ) → SizesOf R s
      → ((d : ℕ) → d < directories_of R → Placeable R s d) → PlanOutcome R (gives (free_before R s (directories_of R)))
  ten : (d i : ℕ) → TooLong R d i → ((e j : ℕ) → d < e → TooLong R e j → ⊥) → ((j : ℕ) → j < i → TooLong R d j → ⊥)
      → PlanOutcome R (refuses 10 ((first_of R d + i) ∷ []))
  seven : ((d i : ℕ) → TooLong R d i → ⊥) → (s : List ℕ) → SizesOf R s → (d : ℕ) → d < directories_of R
      → ((e : ℕ) → e < d → Placeable R s e) → (y : Item) → Memᴰ y (items_for R s d) → farthest < y.offset
      → PlanOutcome R (refuses 7 (d ∷ []))
  eight : ((d i : ℕ) → TooLong R d i → ⊥) → (s : List ℕ) → SizesOf R s → (d : ℕ) → d < directories_of R
      → ((e : ℕ) → e < d → Placeable R s e) → AllIn Near (items_for R s d) → last_sector < free_before R s (suc d)
      → PlanOutcome R (refuses 8 (d ∷ []))

-- FROM THE CONTRACT TO A PLAN: where planning answers f, there is a plan that is given; f is its next free sector,
-- and the three columns have its sizes and sectors afterwards, with the rest as it was
pub record GivenIn (A : Asked) (m : Lent) (f : ℕ) : Type 0 where
  pub plan : Plan
  pub planned : Planned (request_in A) (length m.order) (take A.directories m.tables)
      (take A.entries m.sectors) plan
  pub free : plan.taken.free ≡ f
  pub sizes : (lent_after A m).sizes ≡ plan.sizes ++ drop A.directories m.sizes
  pub tables : (lent_after A m).tables ≡ plan.taken.tables ++ drop A.directories m.tables
  pub sectors : (lent_after A m).sectors ≡ plan.taken.sectors ++ drop A.entries m.sectors
