-- What sizing one table takes and leaves: its entries' sizes, its preorder and its reported size. Assumes nothing.
use Rattle.std.specs.Prelude.{
  ℕ,
  zero,
  suc,
  ◌+◌,
  ◌≤◌,
  ◌<◌,
  ◌≡◌,
  true,
  List,
  [],
  ◌∷◌,
  ltb,
  length,
  Result,
  Ok,
  Err,
}
use Rattle.units.specs.Told.{Told, gives, refuses, pick}
use Rattle.avl_model.specs.Tree.{Tree}
use Rattle.avl_model.specs.Order.{order}
use Rattle.table_model.specs.Table.{size_of}
use Rattle.dirtab_entry.specs.Entry.{cause_number}
use Rattle.img_model.specs.declared.PlanError.{PlanError}
use Rattle.img_model.specs.declared.PlanError.TheVariants as plan
use Rattle.img_model.specs.Shares.{Share, is_directory, value_of}
use Rattle.img_model.specs.Plan.{entry_in, tree_in}
use Rattle.img_table.specs.declared.EntryError.{EntryError}
use Rattle.img_table.specs.declared.EntryError.TheVariants as error
use Rattle.img_table.specs.inner.Scratch.{Places}

-- a directory's entries, in slices of the columns
abbrev pub share_by : List ℕ → List ℕ → List ℕ → List ℕ → List ℕ → Share
share_by start len kind value bytes =
    record { count = length kind; start = start; len = len; kind = kind; value = value; bytes = bytes }

-- the number of the first of k sizes, from number i on, that exceeds 4,294,967,295; else the number past the last
unfoldable pub fitting : (ℕ → ℕ) → ℕ → ℕ → ℕ
fitting size zero i = i
fitting size (suc k) i = pick (ltb 4294967295 (size i)) i (fitting size k (i + 1))

-- a share's directories have a size in a column of so many
abbrev pub Known : Share → ℕ → Type 0
Known S n = (i : ℕ) → i < S.count → is_directory S i ≡ true → value_of S i < n

-- what filling the sizes takes: a place for each of a share's entries
pub record Fillable (S : Share) (tables places : ℕ) : Type 0 where
  pub valued : length S.value ≡ S.count
  pub known : Known S tables
  pub roomy : S.count ≤ places
  pub few : S.count ≤ 4294967295

-- what arranging takes: columns of the tree with a place for each entry, and just so many places for the order
pub record Arrangeable (S : Share) (tables : ℕ) (P : Places) (order : ℕ) : Type 0 where
  pub fillable : Fillable S tables P.size
  pub started : length S.start ≡ S.count
  pub named : length S.len ≡ S.count
  pub l : S.count ≤ P.left
  pub r : S.count ≤ P.right
  pub p : S.count ≤ P.parent
  pub h : S.count ≤ P.height
  pub k : S.count ≤ P.key
  pub o : order ≡ S.count

-- ---- what each answer stands for

-- the refusal of an entry, as it is told
abbrev pub refused : {A : Type 0} → EntryError → Told A
refused (error.Refused c i) = refuses (cause_number c) (i ∷ [])
refused (error.FileTooLarge i) = refuses 10 (i ∷ [])

-- the same refusal of a plan
abbrev pub plan_error : EntryError → PlanError
plan_error (error.Refused c i) = plan.Refused c i
plan_error (error.FileTooLarge i) = plan.FileTooLarge i

-- the tree that is told, and its preorder
pub record Ordered (g : Told Tree) (listed : List ℕ) : Type 0 where
  pub t : Tree
  pub told : g ≡ gives t
  pub listed_is : listed ≡ order t

-- what arranging answers and leaves, where g is to be told of the tree
abbrev pub Arrangement : Result (Unit {0}) EntryError → Told Tree → List ℕ → Type 0
Arrangement (Ok u) g listed = Ordered g listed
Arrangement (Err e) g listed = g ≡ refused e

-- what sizing one table answers and leaves
pub record Measured (S : Share) (tab : ℕ → ℕ) (listed : List ℕ) (z : ℕ) : Type 0 where
  pub t : Tree
  pub told : tree_in S tab ≡ gives t
  pub listed_is : listed ≡ order t
  pub size_is : z ≡ size_of (entry_in S tab) t

abbrev pub Sizing : Result ℕ EntryError → Share → (ℕ → ℕ) → List ℕ → Type 0
Sizing (Ok z) S tab listed = Measured S tab listed z
Sizing (Err e) S tab listed = tree_in S tab ≡ refused e
