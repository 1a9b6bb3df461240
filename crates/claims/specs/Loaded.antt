-- THE LIMITS LOADER: what it answers and when, and that a file that was planned is loaded. Said of what `load_limits`
-- is proved to answer. (limits_rule/specs/Outcome.antt has the conditions and the causes; what is supposed of an image
-- beside its plan is in agree_limits/specs/Loaded.antt.) Assumes nothing.
use Rattle.std.specs.Prelude.{ℕ, ◌≡◌, true, false, List, [], ◌∷◌}
use Rattle.units.specs.Told.{gives}
use Rattle.units.specs.declared.Sector.{Sector}
use Rattle.layout_volume.specs.declared.Descriptor.{Descriptor}
use Rattle.read_entry.specs.Entry.{Placed}
use Rattle.read_entry.specs.Links.{is_in}
use Rattle.limits_rule.specs.Limits.{Limits, volume_in, limits_of}
use Rattle.limits_rule.specs.Outcome.{Marked, loaded, Accepts, Outcome}
use Rattle.img_model.specs.Shares.{share_of, is_directory}
use Rattle.img_model.specs.Image.{Asked, Lent, request_in}
use Rattle.agree_plan.specs.Image.{joined, Leads}
use Rattle.agree_causes.specs.Plans.{GivenIn}
use Rattle.agree_limits.specs.Loaded.{Described, FileLoaded}
use Rattle.claims.specs.Image.{ImageRead}

-- of a window, a path, a time and a greatest age
pub record Loading (w : List ℕ) (first : Sector) (path : List ℕ) (time age : ℕ) : Type 0 where
  -- ACCEPTED exactly where the conditions hold: the answer is then the found file's sector and size, and the stamp
  pub accepted : (d : Descriptor) (x : Placed) → Accepts w first path time age d x
      → limits_of w first path time age ≡ loaded d x
  pub only : (limits_of w first path time age).number ≡ 0
      → (d : Descriptor) × (x : Placed) × Accepts w first path time age d x
  -- of which the first is that both marks stand, at sector 32 of the image wherever the window starts
  pub marked : Marked w first → (d : Descriptor) × (volume_in w first ≡ gives d)
  pub marks : (d : Descriptor) → volume_in w first ≡ gives d → Marked w first
  -- REFUSED by the first cause in the order: whatever is answered has its cause, and a cause has one answer
  pub outcome : Outcome w first path time age (limits_of w first path time age)
  pub outcome_one : (r : Limits) → Outcome w first path time age r → r ≡ limits_of w first path time age
  -- with nothing to go on with
  pub nothing : ((limits_of w first path time age).number ≡ 0 → ⊥)
      → ((limits_of w first path time age).sector.0 ≡ 0) × ((limits_of w first path time age).size ≡ 0)
      × ((limits_of w first path time age).stamp ≡ 0)
  -- the numbers are these, and 29 is none of them
  pub known : is_in (limits_of w first path time age).number
      (0 ∷ 20 ∷ 40 ∷ 41 ∷ 42 ∷ 2 ∷ 28 ∷ 21 ∷ 22 ∷ 23 ∷ 24 ∷ 25 ∷ 27 ∷ 43 ∷ []) ≡ true
  pub not_29 : (limits_of w first path time age).number ≡ 29 → ⊥

abbrev pub LoadsExactly : Type 0
LoadsExactly = (w : List ℕ) (first : Sector) (path : List ℕ) (time age : ℕ) → Loading w first path time age

-- WHAT WAS PLANNED IS LOADED: a window has the tables of a planned image and its descriptor, and the parts of a path
-- lead to a file of the plan
abbrev pub PlannedLoads : Type 0
PlannedLoads = (A : Asked) (m : Lent) (f : ℕ) (q : GivenIn A m f) (w : List ℕ) (first : Sector)
    → ImageRead (request_in A) q.plan w first → (d : Descriptor) → Described q.plan w first d
    → (e j : ℕ) (parts : List (List ℕ)) → Leads (request_in A) q.plan 0 parts e j
    → is_directory (share_of (request_in A) e) j ≡ false
    → FileLoaded (request_in A) q.plan e j d (λ time age. limits_of w first (joined parts) time age)
