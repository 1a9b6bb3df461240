-- THE SCOPE'S PROVED CASES, as a single table: each row says what is put in and what must come out, and `Holds`
-- what that means. Assumes nothing.
use Rattle.std.specs.Prelude.{ℕ, ◌+◌, ◌/◌, ◌≡◌, length, replicate}
use mathlib.Core.List.{List, [], ◌∷◌, ◌++◌, map, Memᴰ}
use Rattle.units.specs.Told.{Told, gives, refuses}
use Rattle.units.specs.declared.Region.{Region}
use Rattle.std.specs.declared.cmp.Ordering.{Ordering}
use Rattle.std.specs.declared.cmp.Ordering.TheVariants.{Less}
use Rattle.name_role.specs.Roles.{given_order}
use Rattle.layout_node.specs.Header.{entry_length}
use Rattle.dirtab_entry.specs.declared.Kind.{Kind}
use Rattle.dirtab_entry.specs.declared.Kind.TheVariants.{File, Directory}
use Rattle.dirtab_entry.specs.Entry.{stored_size, check_of}
use Rattle.read_lookup.specs.Lookup.{Finding, lookup_of}
use Rattle.read_walk.specs.Walk.{walk_of}
use Rattle.avl_model.specs.declared.Place.TheVariants.{Root}
use Rattle.avl_model.specs.declared.Spot.TheVariants.{Same}
use Rattle.avl_model.specs.Tree.{Tree}
use Rattle.avl_model.specs.Laws.{All, least}
use Rattle.avl_model.specs.Seek.{spot_in}
use Rattle.table_model.specs.Entry.{Entry, Item}
use Rattle.table_model.specs.Place.{start_after, items}
use Rattle.table_model.specs.Table.{size_of, table_bytes, place_of}
use Rattle.table_model.specs.Said.{Fits, LinkFits}
use Rattle.agree.specs.Given.{Given, given_name, entry_of, tree_of}

-- what a row says of an item: its name, offset, links and sector
pub record Row : Type 0 where
  pub name : List ℕ
  pub offset : ℕ
  pub left : ℕ
  pub right : ℕ
  pub sector : ℕ

abbrev pub row : List ℕ → ℕ → ℕ → ℕ → ℕ → Row
row n o l r s = record { name = n; offset = o; left = l; right = r; sector = s }

abbrev pub rows : List Item → List Row
rows = map (λ (y : Item). row y.entry.name y.offset y.left y.right y.sector)

-- the table of a list, from a start sector on, with alignment 1; and where it stands when it is read: at sector 33,
-- in a window that is its bytes
abbrev pub items_of : List Given → ℕ → List Item
items_of gs s = items (entry_of gs) 1 0 s (tree_of gs)

abbrev pub bytes_of : List Given → ℕ → List ℕ
bytes_of gs s = table_bytes (entry_of gs) 1 s (tree_of gs)

abbrev pub region_of : List Given → Region
region_of gs = record { sector = record { 0 = 33 }; size = size_of (entry_of gs) (tree_of gs) }

-- an answer of a lookup: the offset and the headers read
pub record Hit : Type 0 where
  pub offset : ℕ
  pub headers : ℕ

abbrev pub hit : Told Finding → Told Hit
hit (gives x) = gives (record { offset = x.offset; headers = x.headers })
hit (refuses k vs) = refuses k vs

pub data Case : Type 0 where
  -- entries in this order, from a start sector on: the items in preorder, and the reported size
  written : List Given → ℕ → List Row → ℕ → Case
  -- the same: the bytes
  bytes : List Given → ℕ → List ℕ → Case
  -- the same: the offsets that a walk lists
  walked : List Given → ℕ → List ℕ → Case
  -- the same: what a lookup of a name answers under a rule
  looked : List Given → ℕ → ℕ → List ℕ → Told Hit → Case
  -- after these entries, a name that is there already: the number of the entry that has it
  duplicate : List Given → List ℕ → ℕ → Case
  -- two names and their order
  ordered : List ℕ → List ℕ → Ordering → Case
  -- a name's length and the entry's
  long : ℕ → ℕ → Case
  -- an entry by itself: what adding answers
  checked : List ℕ → Kind → ℕ → Told (Unit {0}) → Case
  -- a kind, a size as it is given and as it is stored
  stored : Kind → ℕ → ℕ → Case
  -- where an entry of so many bytes starts after what ends at an offset: the end, the bytes, the start
  starts : ℕ → ℕ → ℕ → Case
  -- a height and the fewest entries at it
  fewest : ℕ → ℕ → Case

abbrev pub Holds : Case → Type 0
Holds (written gs s xs n) = (rows (items_of gs s) ≡ xs) × (size_of (entry_of gs) (tree_of gs) ≡ n)
Holds (bytes gs s b) = bytes_of gs s ≡ b
Holds (walked gs s os) = walk_of (bytes_of gs s) (record { 0 = 33 }) (region_of gs) (length gs) ≡ gives os
Holds (looked gs s rule name a) =
    hit (lookup_of rule (bytes_of gs s) (record { 0 = 33 }) (region_of gs) name) ≡ a
Holds (duplicate gs name i) = spot_in (λ j. given_order name (given_name gs j)) (tree_of gs) Root ≡ Same i
Holds (ordered a b o) = given_order a b ≡ o
Holds (long n m) = entry_length n ≡ m
Holds (checked name kind size a) = check_of name (record { start = 0; len = length name; kind = kind; size = size }) ≡ a
Holds (stored kind n m) = stored_size kind n ≡ m
Holds (starts e n o) = start_after e n ≡ o
Holds (fewest h n) = least h ≡ n

-- a file of size n
abbrev file : List ℕ → ℕ → Given
file name n = record { name = name; kind = File; size = n }

-- files of size 1 with names of one byte
abbrev pub a : Given
a = file (0x61 ∷ []) 1

abbrev pub b : Given
b = file (0x62 ∷ []) 1

abbrev pub c : Given
c = file (0x63 ∷ []) 1

-- `ab` of size 5, `abb`
abbrev ab : Given
ab = file (0x61 ∷ 0x62 ∷ []) 5

abbrev abb : Given
abb = file (0x61 ∷ 0x62 ∷ 0x62 ∷ []) 0

-- the preorder b, a, c
abbrev bac : List Row
bac = row (0x62 ∷ []) 0 4 8 34 ∷ row (0x61 ∷ []) 16 0 0 35 ∷ row (0x63 ∷ []) 32 0 0 36 ∷ []

-- five files of which the last, `f`, is the root's right child and stands at 1,020: its link is 255
abbrev at_1020 : List Given
at_1020 =
    file (0x64 ∷ replicate 254 0x78) 0 ∷ file (0x62 ∷ replicate 254 0x78) 0 ∷ file (0x66 ∷ []) 0
    ∷ file (0x61 ∷ replicate 254 0x78) 0
    ∷ file (0x63 ∷ replicate 189 0x78) 0 ∷ []

-- THE TABLE
abbrev pub starred : List Case
starred =
    written [] 33 [] 2048
    ∷ bytes [] 33 (replicate 2048 0xff)
    ∷ walked [] 33 []
    ∷ written (ab ∷ []) 33 (row (0x61 ∷ 0x62 ∷ []) 0 0 0 33 ∷ []) 16
    ∷ bytes (ab ∷ []) 33
    ((0x00 ∷ 0x00 ∷ 0x00 ∷ 0x00 ∷ 0x21 ∷ 0x00 ∷ 0x00 ∷ 0x00 ∷ 0x05 ∷ 0x00 ∷ 0x00 ∷ 0x00
    ∷ 0x20 ∷ 0x02 ∷ 0x61 ∷ 0x62 ∷ []) ++ replicate 2032 0xff)
    ∷ written (a ∷ b ∷ c ∷ []) 34 bac 48
    ∷ walked (a ∷ b ∷ c ∷ []) 34 (0 ∷ 16 ∷ 32 ∷ [])
    ∷ looked (a ∷ b ∷ c ∷ []) 34 1 (0x43 ∷ []) (gives (record { offset = 32; headers = 2 }))
    ∷ looked (a ∷ b ∷ c ∷ []) 34 1 (0x64 ∷ []) (refuses 22 (2 ∷ []))
    ∷ written (c ∷ a ∷ b ∷ []) 34 bac 48
    ∷ duplicate (abb ∷ []) (0x41 ∷ 0x42 ∷ 0x42 ∷ []) 0
    ∷ ordered (0x61 ∷ 0x62 ∷ 0x62 ∷ []) (0x61 ∷ 0x5f ∷ 0x62 ∷ []) Less
    ∷ ordered (0x61 ∷ 0x62 ∷ 0x63 ∷ []) (0x61 ∷ 0x62 ∷ 0x63 ∷ 0x64 ∷ []) Less
    ∷ long 255 272
    ∷ checked (replicate 255 0x61) File 0 (gives tt)
    ∷ checked (replicate 256 0x61) File 0 (refuses 3 [])
    ∷ starts 2032 16 2032
    ∷ starts 2040 16 2048
    ∷ stored Directory 2049 4096
    ∷ stored Directory 4294965248 4294965248
    ∷ checked (0x61 ∷ []) Directory 4294965248 (gives tt)
    ∷ checked (0x61 ∷ []) Directory 4294965249 (refuses 5 [])
    ∷ fewest 19 10945
    ∷ fewest 20 17710
    ∷ walked at_1020 33 (0 ∷ 272 ∷ 544 ∷ 816 ∷ 1020 ∷ [])
    ∷ looked at_1020 33 1 (0x66 ∷ []) (refuses 22 (1 ∷ []))
    ∷ looked at_1020 33 2 (0x66 ∷ []) (gives (record { offset = 1020; headers = 2 }))
    ∷ []

abbrev pub Each : List Case → Type 0
Each [] = Unit {0}
Each (x ∷ xs) = Holds x × Each xs

-- THE STATEMENT: each row holds; and of every item of every table, offset 262,128 has the link 65,532, 262,144 is
-- 7, and 262,140 never occurs
pub record Starred : Type 0 where
  pub computed : Each starred
  pub link_65532 : (entry : ℕ → Entry) (align s : ℕ) (x : Tree) (y : Item) → Memᴰ y (items entry align 0 s x)
      → y.offset ≡ 262128
      → (y.offset / 4 ≡ 65532) × LinkFits y
  pub seven : (entry : ℕ → Entry) (align s : ℕ) (x : Tree) (y : Item) → Memᴰ y (items entry align 0 s x)
      → y.offset ≡ 262144
      → place_of entry align s x ≡ refuses 7 []
  pub never : (entry : ℕ → Entry) (align s : ℕ) (x : Tree) → All (λ i. Fits (entry i)) x → (y : Item)
      → Memᴰ y (items entry align 0 s x) → y.offset ≡ 262140 → ⊥
