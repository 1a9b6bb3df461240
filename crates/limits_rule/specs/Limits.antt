-- What the limits loader answers: a file's sector and size and the volume's stamp, together; or the number of a refusal
-- with all three 0. The order of refusals is 20, 40, 41, 42, the path's, 43. Times and ages count 100 ns, as a stamp
-- does. Assumes nothing.
use Rattle.std.specs.Prelude.{ℕ, ◌*◌, ◌-◌, List, [], ltb, leb, drop}
use Rattle.std.specs.Prelude.{Result, Ok, Err}
use Rattle.std.proofs.Math.Option.{Option, some, none}
use Rattle.units.specs.Told.{Told, gives, refuses, pick}
use Rattle.units.specs.declared.Sector.{Sector}
use Rattle.layout_node.specs.declared.Header.{Header}
use Rattle.layout_node.specs.Header.{is_directory}
use Rattle.layout_volume.specs.declared.Descriptor.{Descriptor}
use Rattle.layout_volume.specs.Descriptor.{read_of, date_of}
use Rattle.read_path.specs.Path.{path_of}
use Rattle.read_path.specs.declared.PathError.{PathError}
use Rattle.read_path.specs.Path as following
use Rattle.limits_rule.specs.declared.Limits.{Limits as Found}
use Rattle.limits_rule.specs.declared.LimitsError.{LimitsError}
use Rattle.limits_rule.specs.declared.LimitsError.TheVariants as error

-- what the loader answers: a file's first sector and size and the stamp of its volume, together, with number 0; or the
-- number of a refusal, and then all three are 0
pub record Limits : Type 0 where
  pub number : ℕ
  pub sector : Sector
  pub size : ℕ
  pub stamp : ℕ

-- the volume's descriptor, which stands at sector 32 of the image, wherever the window starts; 20 where the window
-- starts past it, or a mark differs or is cut
unfoldable pub volume_in : List ℕ → Sector → Told Descriptor
volume_in w first = pick (leb first.0 32) (read_of (drop (2048 * (32 - first.0)) w)) (refuses 20 [])

-- a date that allows loading: there is one (else 40), the time is not before it (else 41), and the time less the date
-- is at most the greatest age (else 42)
unfoldable pub allowed_at : (time age : ℕ) → Option ℕ → Told ℕ
allowed_at time age none = refuses 40 []
allowed_at time age (some stamp) =
    pick (ltb time stamp) (refuses 41 []) (pick (ltb age (time - stamp)) (refuses 42 []) (gives stamp))

-- what is loaded of an entry, by its header, with the volume's stamp: it must be a file (else 43)
unfoldable pub file_of : ℕ → Header → Told Limits
file_of stamp h =
    pick (is_directory h) (refuses 43 [])
    (gives (record { number = 0; sector = h.sector; size = h.size; stamp = stamp }))

-- what comes after an answer: it goes on from what was given, and a refusal stays
abbrev pub and_then : {A B : Type 0} → Told A → (A → Told B) → Told B
and_then (gives x) next = next x
and_then (refuses k vs) next = refuses k vs

-- the descriptor, its date, the path from the root under rule two, the file
unfoldable pub load_of : List ℕ → Sector → List ℕ → (time age : ℕ) → Told Limits
load_of w first path time age =
    and_then (volume_in w first) (λ d.
    and_then (allowed_at time age (date_of d.stamp)) (λ stamp.
    and_then (path_of 2 w first d.root path) (λ x. file_of stamp x.header)))

-- a refusal keeps its number alone: sector, size and stamp are 0
abbrev pub refused_by : ℕ → Limits
refused_by k = record { number = k; sector = record { 0 = 0 }; size = 0; stamp = 0 }

abbrev pub answered : Told Limits → Limits
answered (gives x) = x
answered (refuses k vs) = refused_by k

-- the answer
unfoldable pub limits_of : List ℕ → Sector → List ℕ → (time age : ℕ) → Limits
limits_of w first path time age = answered (load_of w first path time age)

-- what a path's refusal stands for: it stays (nothing is given, so nothing comes after it)
abbrev pub refused_path : PathError → Told Limits
refused_path e = and_then (following.told (Err e)) (λ x. file_of 0 x.header)

-- what each answer of the code stands for
abbrev pub told : Result Found LimitsError → Told Limits
told (Ok x) = gives (record { number = 0; sector = x.sector; size = x.size; stamp = x.stamp })
told (Err error.NoVolume) = refuses 20 []
told (Err error.NoDate) = refuses 40 []
told (Err error.NotYet) = refuses 41 []
told (Err error.TooOld) = refuses 42 []
told (Err (error.Path e)) = refused_path e
told (Err error.IsDirectory) = refuses 43 []
