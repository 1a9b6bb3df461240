-- Hard windows, as one statement over a table of cases, computed: what is read at an offset of a table in a window that starts with sector 33. Assumes nothing.
use Prim.Native.Nat.{ℕ}
use mathlib.Core.Path.{◌≡◌, refl}
use mathlib.Core.List.{List, [], ◌∷◌, ◌++◌}
use mathlib.Core.Option.{Option, some, none}
use lib.ListN.{replicate}
use Rattle.units.specs.Told.{Told, gives, refuses}
use Rattle.units.specs.Region.{locate_of}
use Rattle.layout_bytes.specs.Bytes.{all}
use Rattle.layout_node.specs.Header.{header_of, is_blank}
use Rattle.read_entry.specs.Entry.{Placed, read_here, read_at}

-- the window's bytes, the table's first sector and size, the offset, and what is read
pub record Case : Type 0 where
  pub window : List ℕ
  pub sector : ℕ
  pub size : ℕ
  pub offset : ℕ
  pub answer : Told (Option Placed)

abbrev case : List ℕ → ℕ → ℕ → ℕ → Told (Option Placed) → Case
case w s n o a = record { window = w; sector = s; size = n; offset = o; answer = a }

abbrev pub Holds : Case → Type 0
Holds c = read_at c.window (record { 0 = 33 }) (record { sector = record { 0 = c.sector }; size = c.size }) c.offset ≡ c.answer

abbrev pub AllHold : List Case → Type 0
AllHold [] = Unit {0}
AllHold (c ∷ cs) = Holds c × AllHold cs

-- the header of a file of size 1 at sector 34, with no children and a name of n bytes
abbrev head : ℕ → List ℕ
head n = 0 ∷ 0 ∷ 0 ∷ 0 ∷ 34 ∷ 0 ∷ 0 ∷ 0 ∷ 1 ∷ 0 ∷ 0 ∷ 0 ∷ 32 ∷ n ∷ []

abbrev found : ℕ → ℕ → Told (Option Placed)
found n p = gives (some (record {
  header = record { left = record { 0 = 0 }; right = record { 0 = 0 }; sector = record { 0 = 34 }; size = 1; attributes = 32; name_len = n };
  place = p;
}))

abbrev pub hard : List Case
hard =
    -- a window that ends in the middle of a header, of a name, and just after a name
    case (replicate 13 0) 33 2048 0 (refuses 24 (0 ∷ []))
    ∷ case (head 2 ++ (97 ∷ [])) 33 2048 0 (refuses 24 (0 ∷ []))
    ∷ case (head 2 ++ (97 ∷ 98 ∷ [])) 33 2048 0 (found 2 0)
    -- fourteen bytes of 0xff, and of 0, at the window's end: no entry; thirteen of 0xff and another byte: an entry, whose name is cut
    ∷ case (replicate 14 255) 33 2048 0 (gives none)
    ∷ case (replicate 14 0) 33 2048 0 (gives none)
    ∷ case (0 ∷ replicate 13 255) 33 2048 0 (refuses 24 (0 ∷ []))
    -- names of length 0 and 255
    ∷ case (head 0) 33 2048 0 (found 0 0)
    ∷ case (head 255 ++ replicate 255 97) 33 2048 0 (found 255 0)
    ∷ case (head 255 ++ replicate 254 97) 33 2048 0 (refuses 24 (0 ∷ []))
    -- regions of size 0 and 1
    ∷ case (head 0) 33 0 0 (refuses 23 (0 ∷ []))
    ∷ case (head 0) 33 1 0 (found 0 0)
    ∷ case (head 0) 33 1 1 (refuses 23 (1 ∷ []))
    -- a region that starts before the window, and one past it
    ∷ case (head 0) 32 2048 0 (refuses 24 (0 ∷ []))
    ∷ case (head 0) 32 4096 2048 (found 0 0)
    ∷ case (head 0) 34 2048 0 (refuses 24 (0 ∷ []))
    -- the largest numbers
    ∷ case (head 0) 4294967295 4294967295 4294967294 (refuses 24 (4294967294 ∷ []))
    ∷ case (head 0) 4294967295 4294967295 4294967295 (refuses 23 (4294967295 ∷ []))
    ∷ []

pub hard_windows : AllHold hard
unfolding read_at locate_of read_here header_of all is_blank
hard_windows = (refl, (refl, (refl, (refl, (refl, (refl, (refl, (refl, (refl, (refl, (refl, (refl, (refl, (refl, (refl, (refl, (refl, tt)))))))))))))))))
