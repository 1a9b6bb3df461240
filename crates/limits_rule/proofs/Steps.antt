-- What each step of the loader answers: by the date, by the entry, and by the descriptor before them. Assumes nothing.
use Prim.Native.Nat.{ℕ, ◌-◌, ◌≤◌, ◌<◌}
use mathlib.Core.Path.{◌≡◌, refl, sym, ap, ◌∙◌}
use mathlib.Core.Bool.{true, false}
use mathlib.Core.List.{List, []}
use mathlib.Core.Option.{some, none}
use borrow.Author.Tests.{lt-ltb, le-ltb}
use Rattle.units.specs.Told.{Told, gives, refuses}
use Rattle.units.specs.declared.Sector.{Sector}
use Rattle.layout_node.specs.declared.Header.{Header}
use Rattle.layout_node.specs.Header.{is_directory}
use Rattle.layout_volume.specs.declared.Descriptor.{Descriptor}
use Rattle.layout_volume.specs.Descriptor.{date_of}
use Rattle.read_path.specs.Path.{path_of}
use Rattle.limits_rule.specs.Limits.{Limits, volume_in, allowed_at, file_of, and_then, load_of, refused_by, answered, limits_of}

-- ---- the date: none, or a stamp
pub undated : (time age : ℕ) → allowed_at time age none ≡ refuses 40 []
unfolding allowed_at
undated time age = refl

module _ (time age stamp : ℕ) where
  pub before : time < stamp → allowed_at time age (some stamp) ≡ refuses 41 []
  unfolding allowed_at
  before h = rw (lt-ltb time stamp h)

  pub older : stamp ≤ time → age < time - stamp → allowed_at time age (some stamp) ≡ refuses 42 []
  unfolding allowed_at
  older h k = rw (le-ltb time stamp h, lt-ltb age (time - stamp) k)

  pub allowed : stamp ≤ time → time - stamp ≤ age → allowed_at time age (some stamp) ≡ gives stamp
  unfolding allowed_at
  allowed h k = rw (le-ltb time stamp h, le-ltb age (time - stamp) k)

-- ---- the entry: a file, or a directory
module _ (stamp : ℕ) (h : Header) where
  pub file_told : is_directory h ≡ false → file_of stamp h ≡ gives (record { number = 0; sector = h.sector; size = h.size; stamp = stamp })
  unfolding file_of
  file_told e = rw e

  pub directory_told : is_directory h ≡ true → file_of stamp h ≡ refuses 43 []
  unfolding file_of
  directory_told e = rw e

  pub file : is_directory h ≡ false → answered (file_of stamp h) ≡ record { number = 0; sector = h.sector; size = h.size; stamp = stamp }
  file e = ap answered (file_told e)

  pub directory : is_directory h ≡ true → answered (file_of stamp h) ≡ refused_by 43
  directory e = ap answered (directory_told e)

-- ---- the descriptor, and what comes after it and after its date
abbrev pub from_root : List ℕ → Sector → List ℕ → Descriptor → ℕ → Told Limits
from_root w first path d stamp = and_then (path_of 2 w first d.root path) (λ x. file_of stamp x.header)

module _ (w : List ℕ) (first : Sector) (path : List ℕ) (time age : ℕ) where
  pub without_volume_told : volume_in w first ≡ refuses 20 [] → load_of w first path time age ≡ refuses 20 []
  unfolding load_of
  without_volume_told e = rw e

  pub by_volume_told : (d : Descriptor) → volume_in w first ≡ gives d
      → load_of w first path time age ≡ and_then (allowed_at time age (date_of d.stamp)) (from_root w first path d)
  unfolding load_of
  by_volume_told d e = rw e

  -- the answer is what was told, a refusal by its number alone
  pub answered_told : answered (load_of w first path time age) ≡ limits_of w first path time age
  unfolding limits_of
  answered_told = refl

  pub without_volume : volume_in w first ≡ refuses 20 [] → limits_of w first path time age ≡ refused_by 20
  without_volume e = sym answered_told ∙ ap answered (without_volume_told e)

  pub by_volume : (d : Descriptor) → volume_in w first ≡ gives d
      → limits_of w first path time age ≡ answered (and_then (allowed_at time age (date_of d.stamp)) (from_root w first path d))
  by_volume d e = sym answered_told ∙ ap answered (by_volume_told d e)
