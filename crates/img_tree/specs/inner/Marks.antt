-- The columns that are looked at to see whether directories are a tree, and the marks that are set on the way: one
-- for each directory, 1 where it has been named and 0 where not. Assumes nothing.
use Rattle.std.specs.Prelude.{ℕ, ◌+◌, ◌≤◌, ◌<◌, ◌≡◌, Bool, true, ◌&&◌, List, [], ltb, leb, eqb, length, get_or, set}
use Rattle.units.specs.Told.{pick}
use Rattle.avl_arena.specs.Test.{every}
use Rattle.img_model.specs.Shares.{Request, Share, part, tally, names, names_later}

-- a column for each directory is as long as another, and so is one for each entry; there is a mark for each directory
pub record Even (R : Request) (marks : ℕ) : Type 0 where
  pub shared : length R.share ≡ length R.from
  pub valued : length R.value ≡ length R.kind
  pub marked : marks ≡ length R.from

-- the same for one directory's n entries
abbrev pub entries : ℕ → List ℕ → List ℕ → Share
entries n kind value = record { count = n; start = []; len = []; kind = kind; value = value; bytes = [] }

-- ---- one entry

-- an entry of directory d can name directory x: it is a later one, there is one, and it has no mark
unfoldable pub is_free : List ℕ → ℕ → ℕ → Bool
is_free named d x = ltb d x && (ltb x (length named) && eqb (get_or named x 0) 0)

-- the marks with x named: as they were, where it cannot be
unfoldable pub marked_at : List ℕ → ℕ → ℕ → List ℕ
marked_at named d x = pick (is_free named d x) (set named x 1) named

-- the same for an entry of any kind: a file names no directory
unfoldable pub is_entry_free : List ℕ → ℕ → ℕ → ℕ → Bool
is_entry_free named d kind x = pick (eqb kind 1) (is_free named d x) true

unfoldable pub entry_marked : List ℕ → ℕ → ℕ → ℕ → List ℕ
entry_marked named d kind x = pick (eqb kind 1) (marked_at named d x) named

-- ---- the entries of one directory

-- no mark but 0 and 1
pub record Marks (named : List ℕ) : Type 0 where
  pub low : (x : ℕ) → x < length named → get_or named x 0 ≤ 1

-- how often x has been named, with a share's entries
abbrev pub times : List ℕ → Share → ℕ → ℕ
times named S x = get_or named x 0 + tally (names S x) S.count

-- the entries of directory d can all be marked: the directories that they name are later ones, and none is named twice
unfoldable pub is_markable : List ℕ → ℕ → Share → Bool
is_markable named d S =
    every (names_later S (length named) d) S.count && every (λ x. leb (times named S x) 1) (length named)

-- they all are marked
pub record Marked (named : List ℕ) (S : Share) (after : List ℕ) : Type 0 where
  pub kept : length after ≡ length named
  pub counted : (x : ℕ) → x < length named → get_or after x 0 ≡ times named S x

-- the same for n entries from the place f on, which have to be in the list
unfoldable pub is_part_markable : List ℕ → ℕ → ℕ → ℕ → List ℕ → List ℕ → Bool
is_part_markable named d f n kind value =
    leb (f + n) (length kind) && is_markable named d (entries n (part f n kind) (part f n value))

-- ---- all directories

-- x is the root, or marked
unfoldable pub is_named : List ℕ → ℕ → Bool
is_named named x = pick (eqb x 0) true (eqb (get_or named x 0) 1)
