-- Planning: 11, then from the last directory back 10 and adding's refusals entry by entry, then forward 7 and 8
-- table by table. Assumes nothing.
use Rattle.std.specs.Prelude.{
  ℕ,
  zero,
  suc,
  ◌+◌,
  List,
  [],
  ◌∷◌,
  ltb,
  leb,
  get_or,
  set,
  replicate,
  Result,
  Ok,
  Err,
}
use Rattle.units.specs.declared.Sector.{Sector}
use Rattle.units.specs.Told.{Told, gives, refuses, pick}
use Rattle.layout_sector.specs.Counter.{sectors_for, aligned_up}
use Rattle.dirtab_entry.specs.declared.Entry as given
use Rattle.dirtab_entry.specs.Entry.{kind_for, cause_number, check_of}
use Rattle.avl_model.specs.Tree.{Tree, leaf}
use Rattle.avl_model.specs.Order.{order}
use Rattle.table_model.specs.Entry.{Entry, entry_for}
use Rattle.table_model.specs.Place.{free_after}
use Rattle.table_model.specs.Table.{Placing, size_of, place_of}
use Rattle.dirtab_grow.specs.Grow.{grow_from, order_in}
use Rattle.img_model.specs.declared.PlanError.{PlanError}
use Rattle.img_model.specs.declared.PlanError.TheVariants as error
use Rattle.img_model.specs.Shares.{Request, Share, share_of, directories_of, first_of, is_directory, value_of, is_tree}

-- the reported size of directory x's table, where a list has them all
abbrev pub table_in : List ℕ → ℕ → ℕ
table_in sizes x = get_or sizes x 0

-- `tab x` is the reported size of directory x's table
module _ (S : Share) (tab : ℕ → ℕ) where
  -- the size of the i-th entry of a directory: a directory's is its table's
  abbrev pub size_at : ℕ → ℕ
  size_at i = pick (is_directory S i) (tab (value_of S i)) (value_of S i)

  -- the entry as it is given to be added, and as the table has it
  abbrev pub given_at : ℕ → given.Entry
  given_at i = record {
    start = get_or S.start i 0;
    len = get_or S.len i 0;
    kind = kind_for (get_or S.kind i 0);
    size =
        size_at i;
  }

  abbrev pub entry_in : ℕ → Entry
  entry_in i = entry_for S.bytes (given_at i)

  -- 10 for an entry of more than 4,294,967,295 bytes, and then what adding asks of it by itself
  abbrev pub check_in : ℕ → Told (Unit {0})
  check_in i = pick (ltb 4294967295 (size_at i)) (refuses 10 []) (check_of S.bytes (given_at i))

  -- the tree of a directory's entries, or the first refusal with the entry's number in the share
  unfoldable pub tree_in : Told Tree
  tree_in = grow_from check_in (order_in S.bytes given_at) S.count 0 leaf

-- go on with the tree of directory d; a refusal is told with the entry's place in the list
abbrev pub if_grown : {A : Type 0} → Request → ℕ → Told Tree → (Tree → Told A) → Told A
if_grown R d (gives t) next = next t
if_grown R d (refuses k vs) next = refuses k ((first_of R d + get_or vs 0 0) ∷ [])

-- the tables' sizes, from directory n - 1 back to the root; `sizes` has those of the directories from n on
unfoldable pub sizes_down : Request → ℕ → List ℕ → Told (List ℕ)
sizes_down R zero sizes = gives sizes
sizes_down R (suc n) sizes =
    if_grown R n (tree_in (share_of R n) (table_in sizes))
    (λ t. sizes_down R n (set sizes n (size_of (entry_in (share_of R n) (table_in sizes)) t)))

-- what the entries of a plan take: each table's sector, each entry's sector, and the next free one
pub record Taking : Type 0 where
  pub tables : List ℕ
  pub sectors : List ℕ
  pub free : ℕ

-- `sizes` has the reported size of every table
module _ (R : Request) (sizes : List ℕ) where
  -- the entries of directory d
  abbrev pub entries_at : ℕ → ℕ → Entry
  entries_at d = entry_in (share_of R d) (table_in sizes)

  -- its i-th entry takes its sectors, and with them a directory's table has its own. (Sectors are taken at
  -- multiples of 1.)
  abbrev pub taking : ℕ → Taking → ℕ → Taking
  taking d p i = record {
    tables = pick (is_directory (share_of R d) i) (set p.tables (value_of (share_of R d) i) (aligned_up 1 p.free))
        p.tables;
    sectors = set p.sectors (first_of R d + i) (aligned_up 1 p.free);
    free = free_after (entries_at d) 1 p.free i;
  }

  -- its entries take theirs in the order given
  unfoldable pub taking_all : ℕ → Taking → List ℕ → Taking
  taking_all d p [] = p
  taking_all d p (i ∷ is) = taking_all d (taking d p i) is

  -- go on where the table of directory d can be placed; 7 and 8 are told with its number
  abbrev pub if_placed : {A : Type 0} → ℕ → Told Placing → Told A → Told A
  if_placed d (gives q) x = x
  if_placed d (refuses k vs) x = refuses k (d ∷ [])

  -- k more directories, from d on: each table is placed from the next free sector on, in preorder
  unfoldable pub taking_up : ℕ → ℕ → Taking → Told Taking
  taking_up zero d p = gives p
  taking_up (suc k) d p =
      if_grown R d (tree_in (share_of R d) (table_in sizes)) (λ t.
      if_placed d (place_of (entries_at d) 1 p.free t) (taking_up k (d + 1) (taking_all d p (order t))))

  -- the root table takes the first sector, 33; `tables` and `sectors` are what was there
  abbrev pub rooted : List ℕ → List ℕ → Taking
  rooted tables sectors =
      record { tables = set tables 0 33; sectors = sectors; free = 33 + sectors_for (table_in sizes 0) }

-- a plan: the reported size of every table, and what the entries take
pub record Plan : Type 0 where
  pub sizes : List ℕ
  pub taken : Taking

abbrev pub with_sizes : List ℕ → Told Taking → Told Plan
with_sizes s (gives p) = gives (record { sizes = s; taken = p })
with_sizes s (refuses k vs) = refuses k vs

abbrev pub if_sized : Told (List ℕ) → (List ℕ → Told Taking) → Told Plan
if_sized (refuses k vs) next = refuses k vs
if_sized (gives s) next = with_sizes s (next s)

-- how many entries the shares have together
unfoldable pub total : List ℕ → ℕ
total [] = 0
total (n ∷ ns) = n + total ns

-- THE PLAN, over what was lent for the tables' and the entries' sectors. `places` is the length of the column for
-- the tables' orders: it has to hold them all (else 6), and it does where no entry is in two shares
unfoldable pub plan_of : Request → ℕ → List ℕ → List ℕ → Told Plan
plan_of R places tables sectors =
    pick (is_tree R)
    (pick (leb (total R.share) places)
    (if_sized (sizes_down R (directories_of R) (replicate (directories_of R) 0))
    (λ s. taking_up R s (directories_of R) 0 (rooted R s tables sectors)))
    (refuses 6 []))
    (refuses 11 [])

-- what each answer of the code stands for: the next free sector
abbrev pub told : Result Sector PlanError → Told ℕ
told (Ok f) = gives f.0
told (Err error.Room) = refuses 6 []
told (Err error.BadTree) = refuses 11 []
told (Err (error.FileTooLarge j)) = refuses 10 (j ∷ [])
told (Err (error.Refused c j)) = refuses (cause_number c) (j ∷ [])
told (Err (error.TooManyDirectoryEntries d)) = refuses 7 (d ∷ [])
told (Err (error.SectorOverflow d)) = refuses 8 (d ∷ [])
