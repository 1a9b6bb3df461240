-- Planning with lent memory: the 6 that comes first, then what Plan says, and what is left of all that was lent.
-- Assumes nothing.
use Rattle.std.specs.Prelude.{ℕ, min, Bool, true, ◌&&◌, List, [], ◌∷◌, ◌++◌, leb, length, take, drop}
use Rattle.units.specs.Told.{Told, gives, refuses, pick}
use Rattle.units.specs.Lent.{cleared_if}
use Rattle.img_model.specs.Shares.{Request, request}
use Rattle.img_model.specs.Plan.{Plan, plan_of}

-- what is asked: how many directories and entries, and the columns of both (Shares says what they mean)
pub record Asked : Type 0 where
  pub directories : ℕ
  pub entries : ℕ
  pub from : List ℕ
  pub share : List ℕ
  pub start : List ℕ
  pub len : List ℕ
  pub kind : List ℕ
  pub value : List ℕ
  pub bytes : List ℕ

abbrev pub asked : ℕ → ℕ → List ℕ → List ℕ → List ℕ → List ℕ → List ℕ → List ℕ → List ℕ → Asked
asked directories entries from share start len kind value bytes = record {
  directories = directories;
  entries = entries;
  from = from;
  share = share;
  start = start;
  len = len;
  kind = kind;
  value = value;
  bytes = bytes;
}

-- what is lent: the size and the sector of each table, the sector of each entry; and scratch: a size for each
-- directory, the columns of a tree, an order
pub record Lent : Type 0 where
  pub sizes : List ℕ
  pub tables : List ℕ
  pub sectors : List ℕ
  pub sized : List ℕ
  pub left : List ℕ
  pub right : List ℕ
  pub parent : List ℕ
  pub height : List ℕ
  pub key : List ℕ
  pub size : List ℕ
  pub order : List ℕ

abbrev pub lent : List ℕ → List ℕ → List ℕ → List ℕ → List ℕ → List ℕ → List ℕ → List ℕ → List ℕ → List ℕ → List ℕ
    → Lent
lent sizes tables sectors sized left right parent height key size order = record {
  sizes = sizes;
  tables = tables;
  sectors = sectors;
  sized = sized;
  left = left;
  right = right;
  parent = parent;
  height = height;
  key = key;
  size = size;
  order = order;
}

-- the length of the shortest column that has a place for each directory, for each entry, and for each node of a tree
abbrev pub by_directory : Asked → Lent → ℕ
by_directory A L = min (length A.from)
    (min (length A.share) (min (length L.sizes) (min (length L.tables) (length L.sized))))

abbrev pub by_entry : Asked → Lent → ℕ
by_entry A L =
    min (length A.start)
    (min (length A.len)
    (min (length A.kind) (min (length A.value) (min (length L.sectors) (length L.order)))))

abbrev pub by_node : Lent → ℕ
by_node L = min (length L.left)
    (min (length L.right)
    (min (length L.parent) (min (length L.height) (min (length L.key) (length L.size)))))

-- each share, as far as the entries go, has its places in columns of n
unfoldable pub fits : ℕ → ℕ → List ℕ → Bool
fits n entries [] = true
fits n entries (c ∷ cs) = leb (min c entries) n && fits n entries cs

-- every column is long enough (else 6)
unfoldable pub has_room : Asked → Lent → Bool
has_room A L =
    leb A.directories (by_directory A L)
    && (leb A.entries (by_entry A L) && fits (by_node L) A.entries (take A.directories A.share))

-- the columns as far as the counts go
abbrev pub request_in : Asked → Request
request_in A = request A.directories A.entries A.from A.share A.start A.len A.kind A.value
    A.bytes

-- THE PLAN
unfoldable pub image_of : Asked → Lent → Told Plan
image_of A L =
    pick (has_room A L) (plan_of (request_in A) (length L.order) (take A.directories L.tables)
    (take A.entries L.sectors)) (refuses 6 [])

-- the answer: the next free sector
abbrev pub answer_of : Told Plan → Told ℕ
answer_of (gives p) = gives p.taken.free
answer_of (refuses k vs) = refuses k vs

abbrev pub answer_in : Asked → Lent → Told ℕ
answer_in A L = answer_of (image_of A L)

-- a column afterwards: what the plan has for its first n places, the rest unchanged; all unchanged after a refusal
abbrev pub column_after : Told Plan → (Plan → List ℕ) → ℕ → List ℕ → List ℕ
column_after (gives p) column n xs = column p ++ drop n xs
column_after (refuses k vs) column n xs = xs

-- ALL THAT WAS LENT, AFTERWARDS; scratch is unchanged after the first 6, else all zero
unfoldable pub lent_after : Asked → Lent → Lent
lent_after A L = record {
  sizes = column_after (image_of A L) (λ p. p.sizes) A.directories L.sizes;
  tables = column_after (image_of A L) (λ p. p.taken.tables) A.directories L.tables;
  sectors = column_after (image_of A L) (λ p. p.taken.sectors) A.entries L.sectors;
  sized = cleared_if (has_room A L) L.sized;
  left = cleared_if (has_room A L) L.left;
  right = cleared_if (has_room A L) L.right;
  parent = cleared_if (has_room A L) L.parent;
  height = cleared_if (has_room A L) L.height;
  key = cleared_if (has_room A L) L.key;
  size = cleared_if (has_room A L) L.size;
  order = cleared_if (has_room A L) L.order;
}
