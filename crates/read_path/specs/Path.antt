-- What a path leads to: leading slashes go, one trailing slash goes, the rest is split at each slash, and each part
-- is looked up in the table that the part before it names. Assumes nothing.
use Rattle.std.specs.Prelude.{ℕ, List, [], ◌∷◌, eqb, Result, Ok, Err}
use Rattle.units.specs.Told.{Told, gives, refuses, pick}
use Rattle.units.specs.declared.Sector.{Sector}
use Rattle.units.specs.declared.Region.{Region}
use Rattle.name_role.specs.Roles.{bad_sought}
use Rattle.layout_node.specs.Header.{is_directory}
use Rattle.read_entry.specs.Entry.{Placed}
use Rattle.read_entry.specs.Entry as reading
use Rattle.read_entry.specs.Links.{absent_under, under_rule}
use Rattle.read_lookup.specs.Lookup.{Finding, lookup_by}
use Rattle.read_path.specs.declared.PathError.{PathError}
use Rattle.read_path.specs.declared.PathError.TheVariants as error

-- leading slashes (47) go
unfoldable pub trim : List ℕ → List ℕ
trim [] = []
trim (x ∷ xs) = pick (eqb x 47) (trim xs) (x ∷ xs)

-- a byte in front of the first part
abbrev pub grow : ℕ → List (List ℕ) → List (List ℕ)
grow x [] = (x ∷ []) ∷ []
grow x (p ∷ ps) = (x ∷ p) ∷ ps

-- split at each slash: one part more than there are slashes
unfoldable pub split : List ℕ → List (List ℕ)
split [] = [] ∷ []
split (x ∷ xs) = pick (eqb x 47) ([] ∷ split xs) (grow x (split xs))

-- an empty last part goes, which is one trailing slash
unfoldable pub unended : List (List ℕ) → List (List ℕ)
unended [] = []
unended ([] ∷ []) = []
unended ((y ∷ ys) ∷ []) = (y ∷ ys) ∷ []
unended (p ∷ q ∷ ps) = p ∷ unended (q ∷ ps)

-- the answer of the last part: as its lookup gives it, 22 without its count
abbrev pub last_of : Told Finding → Told Placed
last_of (gives x) = gives x.entry
last_of (refuses k vs) = pick (eqb k 22) (refuses 22 []) (refuses k vs)

-- where a part before the last leads: into its table, or to the path's answer
pub data Turns : Type 0 where
  into : Region → Turns
  stops : Told Placed → Turns

-- its entry must be a directory (else 27)
abbrev pub turn_of : Told Finding → Turns
turn_of (gives x) =
    pick (is_directory x.entry.header)
    (into (record { sector = x.entry.header.sector; size = x.entry.header.size }))
    (stops (refuses 27 []))
turn_of (refuses k vs) = stops (last_of (refuses k vs))

abbrev pub onward : Turns → (Region → Told Placed) → Told Placed
onward (into t) next = next t
onward (stops a) next = a

-- the parts, one after the other, each looked up by a lookup that takes these links for absent; no part is 28
unfoldable pub parts_from : List ℕ → List ℕ → Sector → Region → List (List ℕ) → Told Placed
parts_from absent w first t [] = refuses 28 []
parts_from absent w first t (p ∷ []) = last_of (lookup_by absent w first t p)
parts_from absent w first t (p ∷ q ∷ ps) =
    onward (turn_of (lookup_by absent w first t p)) (λ u. parts_from absent w first u (q ∷ ps))

-- the answer of a path whose parts are looked up so: 2, then the parts
unfoldable pub path_by : List ℕ → List ℕ → Sector → Region → List ℕ → Told Placed
path_by absent w first t path =
    pick (bad_sought path) (refuses 2 []) (parts_from absent w first t (unended (split (trim path))))

-- the answer of a path under the rule of a number, one rule for all its parts: 29, then as by the rule's links
unfoldable pub path_of : ℕ → List ℕ → Sector → Region → List ℕ → Told Placed
path_of rule w first t path = under_rule (absent_under rule) (λ absent. path_by absent w first t path)

-- what each answer of the code stands for
abbrev pub told : Result Placed PathError → Told Placed
told (Ok x) = gives x
told (Err error.BadRule) = refuses 29 []
told (Err error.BadByte) = refuses 2 []
told (Err error.DirectoryEmpty) = refuses 21 []
told (Err error.DoesNotExist) = refuses 22 []
told (Err (error.Read e)) = reading.refused e
told (Err error.Looped) = refuses 25 []
told (Err error.IsNotDirectory) = refuses 27 []
told (Err error.NoDirent) = refuses 28 []
