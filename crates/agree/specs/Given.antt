-- A list of entries as they are given, put into a tree one after the other, and what is supposed of one that is
-- written. Assumes nothing.
use Rattle.std.specs.Prelude.{ℕ, zero, suc, ◌+◌, ◌≤◌, ◌<◌, ◌≡◌, true, false, List, [], ◌∷◌, map, length, get_or}
use Rattle.units.specs.Told.{gives}
use Rattle.units.specs.declared.Sector.{Sector}
use Rattle.units.specs.declared.Region.{Region}
use Rattle.name_role.specs.Roles.{given_keys, given_order}
use Rattle.dirtab_entry.specs.declared.Kind.{Kind}
use Rattle.dirtab_entry.specs.declared.Kind.TheVariants.{File}
use Rattle.dirtab_entry.specs.Entry.{is_directory, any_bad}
use Rattle.avl_model.specs.Tree.{Tree, leaf, δ, ins}
use Rattle.avl_model.specs.Names.{is_less}
use Rattle.table_model.specs.Entry.{Entry, Item, entry_with}
use Rattle.table_model.specs.Table.{Placing, size_of, table_bytes, place_of}
use Rattle.agree.specs.Written.{Stand}

-- an entry as it is given: its name, its kind and its size
pub record Given : Type 0 where
  pub name : List ℕ
  pub kind : Kind
  pub size : ℕ

-- the largest size of a directory that can be rounded
abbrev pub largest_directory : ℕ
largest_directory = 4294965248

-- what adding asks of it by itself (1, 2, 3, 5): a name of 1 to 255 bytes, each from 1 to 127, and a size of four
-- bytes, a directory's so that it can be rounded
pub record Good (g : Given) : Type 0 where
  pub some : 1 ≤ length g.name
  pub short : length g.name ≤ 255
  pub ascii : any_bad g.name ≡ false
  pub small : g.size ≤ 4294967295
  pub roundable : is_directory g.kind ≡ true → g.size ≤ largest_directory

-- as a table has it
abbrev pub stored : Given → Entry
stored g = entry_with g.name g.kind g.size

-- the entry with number i of a list
abbrev pub numbered : List Given → ℕ → Given
numbered gs i = get_or gs i (record { name = []; kind = File; size = 0 })

abbrev pub entry_of : List Given → ℕ → Entry
entry_of gs i = stored (numbered gs i)

-- the tree of the first n entries, put in one after the other by their given names
unfoldable pub grown : (ℕ → List ℕ) → ℕ → Tree
grown name zero = leaf
grown name (suc n) = ins (λ i. is_less (given_order (name n) (name i))) n (grown name n)

-- the given name of the entry with number i
abbrev pub given_name : List Given → ℕ → List ℕ
given_name gs i = (numbered gs i).name

abbrev pub tree_of : List Given → Tree
tree_of gs = grown (given_name gs) (length gs)

-- a list that can be written from sector s on
pub record Admitted (align s : ℕ) (gs : List Given) : Type 0 where
  pub aligned : 1 ≤ align
  pub few : length gs ≤ 16384
  pub good : (i : ℕ) → i < length gs → Good (numbered gs i)
  -- no two names are equal once raised
  pub differ : (i j : ℕ) → i < length gs → j < length gs → given_keys (given_name gs i) ≡ given_keys (given_name gs j)
      → i ≡ j
  -- neither 7 nor 8 is met
  pub placing : Placing
  pub placed : place_of (entry_of gs) align s (tree_of gs) ≡ gives placing

-- WHAT IS SUPPOSED: the bytes of its table stand in a window at the region's sector, and the region has the
-- reported size
pub record WrittenList (align s : ℕ) (gs : List Given) (w : List ℕ) (first : Sector) (t : Region) : Type 0 where
  pub admitted : Admitted align s gs
  pub stand : Stand w first t.sector (table_bytes (entry_of gs) align s (tree_of gs))
  pub sized : t.size ≡ size_of (entry_of gs) (tree_of gs)

-- how often a number stands in a list
abbrev pub times : ℕ → List ℕ → ℕ
times j [] = 0
times j (k ∷ ks) = δ k j + times j ks

-- the items are the entries with numbers below n, each once: in the order of some numbers, of which each below n
-- stands there once, and no other
pub record EachOnce (entry : ℕ → Entry) (n : ℕ) (xs : List Item) : Type 0 where
  pub numbers : List ℕ
  pub entries : map (λ (y : Item). y.entry) xs ≡ map entry numbers
  pub once : (i : ℕ) → i < n → times i numbers ≡ 1
  pub others : (i : ℕ) → n ≤ i → times i numbers ≡ 0
