-- A planned image in a window, the parts of a path that lead through it, and what such a path finds. Assumes nothing.
use Rattle.std.specs.Prelude.{ℕ, ◌+◌, ◌*◌, ◌<◌, ◌≡◌, Bool, true, false, eqb, length}
use mathlib.Core.List.{List, [], ◌∷◌, ◌++◌, Memᴰ}
use Rattle.std.proofs.Math.Option.{some}
use Rattle.units.specs.Told.{Told, gives, refuses, pick}
use Rattle.units.specs.declared.Sector.{Sector}
use Rattle.units.specs.declared.Region.{Region}
use Rattle.name_role.specs.Roles.{bad_sought}
use Rattle.read_entry.specs.Entry.{Placed, read_at, name_of}
use Rattle.lookup_way.specs.Along.{Along, Real, Clear, Cut}
use Rattle.table_model.specs.Entry.{Item}
use Rattle.table_model.specs.Table.{table_bytes}
use Rattle.img_model.specs.Shares.{Request, share_of, directories_of, count_of, is_directory, value_of}
use Rattle.img_model.specs.Plan.{table_in, entries_at, Plan}
use Rattle.agree.specs.Written.{Stand, SizedFor}
use Rattle.agree.specs.Agreement.{placed_at, Same}
use Rattle.agree_plan.specs.Planned.{
  tree_at,
  root_sector,
  start_sector,
  items_at,
  Planned,
  Disjoint,
  sector_at,
  table_sector,
}

-- WHAT IS SUPPOSED: a plan that is given, no entry of which is in two shares, and a window in which each
-- directory's table stands at its planned sector
pub record Imaged (R : Request) (places : ℕ) (tables sectors : List ℕ) (p : Plan) (w : List ℕ) (first : Sector) :
    Type 0 where
  pub planned : Planned R places tables sectors p
  pub apart : Disjoint R
  pub stand : (d : ℕ) → d < directories_of R
      → Stand w first (record { 0 = table_sector p d })
      (table_bytes (entries_at R p.sizes d) 1 (start_sector R p.sizes d) (tree_at R p.sizes d))

-- where the search starts: the root table, at sector 33, with the size that it reports
abbrev pub root_of : Plan → Region
root_of p = record { sector = record { 0 = root_sector }; size = table_in p.sizes 0 }

-- a region in which directory d's table is read: at its planned sector, with the size that it reports or more, up
-- to that size rounded
pub record RegionFor (p : Plan) (d : ℕ) (t : Region) : Type 0 where
  pub at : t.sector.0 ≡ table_sector p d
  pub sized : SizedFor (table_in p.sizes d) t.size

-- some byte is a slash (47)
unfoldable pub any_slash : List ℕ → Bool
any_slash [] = false
any_slash (x ∷ xs) = pick (eqb x 47) true (any_slash xs)

-- a part of a path: it is not empty, has no slash and can be sought
pub record PathPart (a : List ℕ) : Type 0 where
  pub some : 0 < length a
  pub plain : any_slash a ≡ false
  pub good : bad_sought a ≡ false

-- parts with a slash between each two
abbrev pub joined : List (List ℕ) → List ℕ
joined [] = []
joined (a ∷ []) = a
joined (a ∷ b ∷ cs) = a ++ (47 ∷ joined (b ∷ cs))

-- THE PARTS LEAD from directory d to entry j of directory e: the first is the name, raised, of an entry i of
-- directory d; if it is not the last, that entry is a directory, and the others lead on from the directory that it
-- names
pub data Leads (R : Request) (p : Plan) : ℕ → List (List ℕ) → ℕ → ℕ → Type 0 where
  last : (d i : ℕ) (a : List ℕ) → i < count_of R d → PathPart a → Same a (entries_at R p.sizes d i).name
      → Leads R p d (a ∷ []) d i
  into : (d i e j : ℕ) (a b : List ℕ) (cs : List (List ℕ)) → i < count_of R d → PathPart a
      → Same a (entries_at R p.sizes d i).name → is_directory (share_of R d) i ≡ true
      → Leads R p (value_of (share_of R d) i) (b ∷ cs) e j → Leads R p d (a ∷ b ∷ cs) e j

-- the region of the table that an entry names
abbrev pub region_of : Placed → Region
region_of x = record { sector = x.header.sector; size = x.header.size }

-- THE WAY OF THE PARTS, as it is read: in the table of a region an entry that has the first part for its name,
-- raised, with the links that lead to it from the table's first entry; and if it is not the last part, the way of
-- the others in the table that this entry names. `ks` are the links of all these tables, and y is the last entry
pub data Way (w : List ℕ) (first : Sector) : Region → List (List ℕ) → List ℕ → Placed → Type 0 where
  here : (t : Region) (a : List ℕ) (o : ℕ) (y : Placed) (ks : List ℕ) → read_at w first t o ≡ gives (some y)
      → Same a (name_of w y.place y.header.name_len)
      → Along (read_at w first t) 0 o ks → Way w first t (a ∷ []) ks y
  on : (t : Region) (a b : List ℕ) (cs : List (List ℕ)) (o : ℕ) (x y : Placed) (ks ls : List ℕ)
      → read_at w first t o ≡ gives (some x)
      → Same a (name_of w x.place x.header.name_len) → Along (read_at w first t) 0 o ks
      → Way w first (region_of x) (b ∷ cs) ls y → Way w first t (a ∷ b ∷ cs) (ks ++ ls) y

-- THE ANSWER is the planned entry j of directory e, unless a link on the way is taken for absent; then 22.
-- `answer absent` is the answer where the links of a set are taken for absent
pub record Finds (R : Request) (p : Plan) (w : List ℕ) (first : Sector) (t : Region) (parts : List (List ℕ)) (e j : ℕ)
    (answer : List ℕ → Told Placed) : Type 0 where
  -- the planned entry: the item of directory e's table that is entry j with its planned sector. The table's first
  -- byte is at `place` of the window
  pub item : Item
  pub among : Memᴰ item (items_at R p.sizes e)
  pub entry_is : item.entry ≡ entries_at R p.sizes e j
  pub sector_is : item.sector ≡ sector_at R p e j
  pub place : ℕ
  pub at_sector : 2048 * table_sector p e ≡ 2048 * first.0 + place
  -- the way to it, and its links. None of them is 0 or 65,535, so that of them rule one takes exactly 255 for absent,
  -- and rule two none
  pub links : List ℕ
  pub way : Way w first t parts links (placed_at place item)
  pub real : Real links
  -- it is the only one: any way of the parts along links of which none is 0 or 65,535 has these links and this end
  pub one_way : (ks : List ℕ) (y : Placed) → Way w first t parts ks y → Real ks
      → (ks ≡ links) × (y ≡ placed_at place item)
  -- the answer
  pub found : (absent : List ℕ) → Clear absent links → answer absent ≡ gives (placed_at place item)
  pub lost : (absent : List ℕ) → Cut absent links → answer absent ≡ refuses 22 []

-- NOTHING ELSE IS FOUND: what any parts find from directory d on is a planned entry to which they lead; else the
-- answer is 22, or 27 where some first parts of them lead to a file and more follow
pub data Only (R : Request) (p : Plan) (first : Sector) (d : ℕ) (parts : List (List ℕ)) : Told Placed → Type 0 where
  finds : (e j place : ℕ) (item : Item) → Leads R p d parts e j → item.entry ≡ entries_at R p.sizes e j
      → item.sector ≡ sector_at R p e j
      → 2048 * table_sector p e ≡ 2048 * first.0 + place → Only R p first d parts (gives (placed_at place item))
  misses : Only R p first d parts (refuses 22 [])
  meets : (e j : ℕ) (front : List (List ℕ)) (b : List ℕ) (cs : List (List ℕ)) → parts ≡ front ++ (b ∷ cs)
      → Leads R p d front e j → is_directory (share_of R e) j ≡ false
      → Only R p first d parts (refuses 27 [])

-- parts of a path, one or more
abbrev pub AllParts : List (List ℕ) → Type 0
AllParts [] = ⊥
AllParts (a ∷ []) = PathPart a
AllParts (a ∷ b ∷ cs) = PathPart a × AllParts (b ∷ cs)
