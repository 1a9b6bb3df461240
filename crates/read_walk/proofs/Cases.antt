-- Hard tables, as one statement over a table of cases, computed: what a walk lists of a table at the first sector of a window. Assumes nothing.
use Prim.Native.Nat.{ℕ}
use mathlib.Core.Path.{◌≡◌, refl}
use mathlib.Core.List.{List, [], ◌∷◌, ◌++◌}
use lib.ListN.{replicate}
use Rattle.units.specs.Told.{Told, gives, refuses}
use Rattle.units.specs.Region.{locate_of}
use Rattle.layout_bytes.specs.Bytes.{all}
use Rattle.layout_node.specs.Header.{header_of, is_blank}
use Rattle.read_entry.specs.Entry.{read_here, read_at}
use Rattle.read_entry.specs.Links.{is_in}
use Rattle.read_walk.specs.Walk.{push, to_entry, walk_from, walk_of}

-- the window's bytes, the table's size, the places of the list, and what is listed
pub record Case : Type 0 where
  pub window : List ℕ
  pub size : ℕ
  pub room : ℕ
  pub answer : Told (List ℕ)

abbrev case : List ℕ → ℕ → ℕ → Told (List ℕ) → Case
case w n room a = record { window = w; size = n; room = room; answer = a }

abbrev pub Holds : Case → Type 0
Holds c = walk_of c.window (record { 0 = 33 }) (record { sector = record { 0 = 33 }; size = c.size }) c.room ≡ c.answer

abbrev pub AllHold : List Case → Type 0
AllHold [] = Unit {0}
AllHold (c ∷ cs) = Holds c × AllHold cs

-- an entry of 16 bytes: a file of size 1 with a name of one byte, and two links, each of a low and a high byte
abbrev file : ℕ → ℕ → ℕ → ℕ → List ℕ
file l₀ l₁ r₀ r₁ = l₀ ∷ l₁ ∷ r₀ ∷ r₁ ∷ 34 ∷ 0 ∷ 0 ∷ 0 ∷ 1 ∷ 0 ∷ 0 ∷ 0 ∷ 32 ∷ 1 ∷ 97 ∷ 255 ∷ []

abbrev pub hard : List Case
hard =
    -- preorder, left before right
    case (file 4 0 8 0 ++ (file 0 0 0 0 ++ file 0 0 0 0)) 48 3 (gives (0 ∷ 16 ∷ 32 ∷ []))
    -- a table of size 0 lists nothing; of size 1 its first entry
    ∷ case (file 0 0 0 0) 0 3 (gives [])
    ∷ case (file 0 0 0 0) 1 3 (gives (0 ∷ []))
    -- an empty table of 0xff, and one of zeros
    ∷ case (replicate 14 255) 2048 0 (gives [])
    ∷ case (replicate 14 0) 2048 0 (gives [])
    -- a shared entry is listed twice
    ∷ case (file 4 0 4 0 ++ file 0 0 0 0) 32 3 (gives (0 ∷ 16 ∷ 16 ∷ []))
    -- an entry that is its own child fills the list; so do two that point at each other
    ∷ case (file 4 0 0 0 ++ file 4 0 0 0) 32 3 (refuses 26 [])
    ∷ case (file 4 0 0 0 ++ (file 8 0 0 0 ++ file 4 0 0 0)) 48 5 (refuses 26 [])
    -- an entry more than the list has places
    ∷ case (file 4 0 8 0 ++ (file 0 0 0 0 ++ file 0 0 0 0)) 48 2 (refuses 26 [])
    -- a link into the middle of another entry: what stands there is read as one; here its links are 34 and 0, and 136 is out of bounds
    ∷ case (file 1 0 0 0 ++ (replicate 4 0)) 136 3 (refuses 23 (136 ∷ []))
    -- a right link out of bounds is met after the whole left subtree, and not before a fault in there
    ∷ case (file 4 0 8 0 ++ file 0 0 0 0) 32 2 (refuses 23 (32 ∷ []))
    ∷ case (file 4 0 255 0 ++ file 255 255 8 0) 32 2 (refuses 23 (32 ∷ []))
    -- 0xffff is absent, 0xff is followed: it leads to 1,020, which is not in this window
    ∷ case (file 255 255 255 255) 16 1 (gives (0 ∷ []))
    ∷ case (file 255 0 0 0) 1021 2 (refuses 24 (1020 ∷ []))
    -- a blank header that a link reaches is passed over
    ∷ case (file 4 0 8 0 ++ (replicate 16 255 ++ file 0 0 0 0)) 48 2 (gives (0 ∷ 32 ∷ []))
    ∷ []

pub hard_tables : AllHold hard
unfolding walk_of walk_from to_entry push is_in read_at locate_of read_here header_of all is_blank
hard_tables = (refl, (refl, (refl, (refl, (refl, (refl, (refl, (refl, (refl, (refl, (refl, (refl, (refl, (refl, (refl, tt)))))))))))))))
