-- What is asked of a request to size its tables, and the tables as sizing leaves them. Assumes nothing.
use Rattle.std.specs.Prelude.{ℕ, suc, ◌+◌, ◌≤◌, ◌<◌, ◌≡◌, true, List, length, drop}
use Rattle.units.specs.Told.{gives}
use Rattle.avl_model.specs.Tree.{Tree}
use Rattle.avl_model.specs.Order.{order}
use Rattle.table_model.specs.Table.{size_of}
use Rattle.img_model.specs.Shares.{
  Request,
  share_of,
  directories_of,
  first_of,
  count_of,
  entries_of,
  part,
  is_directory,
  value_of,
}
use Rattle.img_model.specs.Plan.{table_in, entry_in, tree_in, total}

-- the order of directory d stands after those of all later directories
abbrev pub order_from : Request → ℕ → ℕ
order_from R d = total (drop (suc d) R.share)

-- the table of directory d: its size is in `sizes`, its preorder in its places of `orders`
pub record TableIn (R : Request) (sizes orders : List ℕ) (d : ℕ) : Type 0 where
  pub t : Tree
  pub told : tree_in (share_of R d) (table_in sizes) ≡ gives t
  pub listed_is : part (order_from R d) (count_of R d) orders ≡ order t
  pub size_is : table_in sizes d ≡ size_of (entry_in (share_of R d) (table_in sizes)) t

abbrev pub TablesIn : Request → List ℕ → List ℕ → Type 0
TablesIn R sizes orders = (d : ℕ) → d < directories_of R → TableIn R sizes orders d

-- what is asked of a request to size its tables: columns of one length, shares in the list, and directories that
-- name later ones. (is_tree gives the last two)
pub record Sizeable (R : Request) : Type 0 where
  pub shared : length R.share ≡ directories_of R
  pub started : length R.start ≡ entries_of R
  pub named : length R.len ≡ entries_of R
  pub valued : length R.value ≡ entries_of R
  pub few : directories_of R ≤ 4294967295
  pub low : entries_of R ≤ 4294967295
  pub inside : (d : ℕ) → d < directories_of R → first_of R d + count_of R d ≤ entries_of R
  pub later : (d i : ℕ) → d < directories_of R → i < count_of R d → is_directory (share_of R d) i ≡ true
      → (d < value_of (share_of R d) i) × (value_of (share_of R d) i < directories_of R)
