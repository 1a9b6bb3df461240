-- Directories as shares of one list of entries, and the rule that they must keep (else 11). Assumes nothing.
use Rattle.std.specs.Prelude.{ℕ, zero, suc, ◌+◌, Bool, true, ◌&&◌, List, ltb, leb, eqb, length, get_or, take, drop}
use Rattle.units.specs.Told.{pick}
use Rattle.avl_model.specs.Names.{names_in, name_at}
use Rattle.avl_arena.specs.Test.{every}

-- what is to be planned: for each directory the place of its first entry in the list of entries and how many it
-- has, the root first; for each entry its name's place and length in the bytes lent for names, its kind (1 is a
-- directory), and its value: a file's length, or a directory's place in the list of directories
pub record Request : Type 0 where
  pub from : List ℕ
  pub share : List ℕ
  pub start : List ℕ
  pub len : List ℕ
  pub kind : List ℕ
  pub value : List ℕ
  pub bytes : List ℕ

abbrev pub columns : List ℕ → List ℕ → List ℕ → List ℕ → List ℕ → List ℕ → List ℕ → Request
columns from share start len kind value bytes =
    record { from = from; share = share; start = start; len = len; kind = kind; value = value; bytes = bytes }

-- the columns that are lent, as far as the two counts go
abbrev pub request : ℕ → ℕ → List ℕ → List ℕ → List ℕ → List ℕ → List ℕ → List ℕ → List ℕ → Request
request directories entries from share start len kind value bytes =
    columns (take directories from) (take directories share) (take entries start) (take entries len)
    (take entries kind) (take entries value) bytes

-- how many directories and entries there are
abbrev pub directories_of : Request → ℕ
directories_of R = length R.from

abbrev pub entries_of : Request → ℕ
entries_of R = length R.kind

-- where the share of directory d starts, and how many entries it has
abbrev pub first_of : Request → ℕ → ℕ
first_of R d = get_or R.from d 0

abbrev pub count_of : Request → ℕ → ℕ
count_of R d = get_or R.share d 0

-- n places of a column from f on
abbrev pub part : ℕ → ℕ → List ℕ → List ℕ
part f n xs = take n (drop f xs)

-- the entries of a directory: its share of each column
pub record Share : Type 0 where
  pub count : ℕ
  pub start : List ℕ
  pub len : List ℕ
  pub kind : List ℕ
  pub value : List ℕ
  pub bytes : List ℕ

abbrev pub share_of : Request → ℕ → Share
share_of R d = record {
  count = count_of R d;
  start = part (first_of R d) (count_of R d) R.start;
  len = part (first_of R d) (count_of R d) R.len;
  kind = part (first_of R d) (count_of R d) R.kind;
  value = part (first_of R d) (count_of R d) R.value;
  bytes = R.bytes;
}

-- the name of the i-th entry of a directory, as it is given
abbrev pub given_name : Share → ℕ → List ℕ
given_name S = name_at (names_in S.bytes S.start S.len)

-- whether the i-th entry of a directory is a directory itself, and which
abbrev pub is_directory : Share → ℕ → Bool
is_directory S i = eqb (get_or S.kind i 0) 1

abbrev pub value_of : Share → ℕ → ℕ
value_of S i = get_or S.value i 0

-- how many of the numbers below n pass a test
abbrev pub tally : (ℕ → Bool) → ℕ → ℕ
tally f zero = 0
tally f (suc n) = pick (f n) (suc (tally f n)) (tally f n)

-- the i-th entry of a directory names directory x
abbrev pub names : Share → ℕ → ℕ → Bool
names S x i = is_directory S i && eqb (value_of S i) x

-- how often directory x is named by the directories below n
abbrev pub namings : Request → ℕ → ℕ → ℕ
namings R x zero = 0
namings R x (suc n) = namings R x n + tally (names (share_of R n) x) (count_of R n)

-- the i-th entry of directory d, where it is a directory, names a later one of n
abbrev pub names_later : Share → ℕ → ℕ → ℕ → Bool
names_later S n d i = pick (is_directory S i) (ltb d (value_of S i) && ltb (value_of S i) n) true

-- the share of directory d lies in the list, and its directories are later ones
abbrev pub is_share : Request → ℕ → Bool
is_share R d = leb (first_of R d + count_of R d) (entries_of R)
    && every (names_later (share_of R d) (directories_of R) d) (count_of R d)

-- directory x is the root, or named exactly once
abbrev pub named_once : Request → ℕ → Bool
named_once R x = pick (eqb x 0) true (eqb (namings R x (directories_of R)) 1)

-- THE RULE: there is a directory, every share is one, and every directory but the root is named exactly once
unfoldable pub is_tree : Request → Bool
is_tree R =
    ltb 0 (directories_of R) && (every (is_share R) (directories_of R) && every (named_once R) (directories_of R))
