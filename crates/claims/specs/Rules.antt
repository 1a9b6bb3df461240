-- THE TWO RULES of a lookup and of a path, for all windows, tables, names and paths. What is found under them in
-- tables that were written here is said in Found.antt and Image.antt. Assumes nothing.
use Rattle.std.specs.Prelude.{ℕ, ◌≡◌, List, [], ◌∷◌}
use Rattle.units.specs.Told.{Told, gives, refuses}
use Rattle.units.specs.declared.Sector.{Sector}
use Rattle.units.specs.declared.Region.{Region}
use Rattle.read_lookup.specs.Lookup.{Finding, lookup_by, lookup_of}
use Rattle.read_path.specs.Path.{path_by, path_of}

-- `under rule` is the answer under the rule of a number, `by absent` the answer where the links of a set are absent:
-- rule one has 0 and 255, rule two 0 and 65,535, which are absent for the walk; and 29 is answered exactly where the
-- number is neither 1 nor 2, whatever else is wrong
pub record RulesOf {A : Type 0} (under : ℕ → Told A) (by : List ℕ → Told A) : Type 0 where
  pub one : under 1 ≡ by (0 ∷ 255 ∷ [])
  pub two : under 2 ≡ by (0 ∷ 65535 ∷ [])
  pub other : (rule : ℕ) → (rule ≡ 1 → ⊥) → (rule ≡ 2 → ⊥) → under rule ≡ refuses 29 []
  pub no_other : (rule : ℕ) (vs : List ℕ) → under rule ≡ refuses 29 vs → (rule ≡ 1 → ⊥) × (rule ≡ 2 → ⊥)

-- AND WHAT DOES NOT HOLD of every table: a name that rule one finds and rule two does not
pub record OneAlone : Type 0 where
  pub window : List ℕ
  pub first : Sector
  pub table : Region
  pub name : List ℕ
  pub found : Finding
  pub under_one : lookup_of 1 window first table name ≡ gives found
  pub under_two : lookup_of 2 window first table name ≡ refuses 22 (1 ∷ [])

pub record Rules : Type 0 where
  pub lookups : (w : List ℕ) (first : Sector) (t : Region) (name : List ℕ)
      → RulesOf (λ rule. lookup_of rule w first t name) (λ absent. lookup_by absent w first t name)
  -- one rule for all parts of a path
  pub paths : (w : List ℕ) (first : Sector) (t : Region) (path : List ℕ)
      → RulesOf (λ rule. path_of rule w first t path) (λ absent. path_by absent w first t path)
  pub one_alone : OneAlone
