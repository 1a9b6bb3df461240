-- The answer is that of the first cause: every outcome is there with its cause, and a cause has one answer. Assumes nothing.
use Prim.Native.Nat.{ℕ, zero, suc, ◌-◌, ◌≤◌, ◌<◌}
use native.Mathlib.Omega.{arith}
use mathlib.Core.Path.{◌≡◌, refl, sym, ap, subst, ◌∙◌}
use mathlib.Core.Bool.{Bool, true, false}
use mathlib.Core.List.{List}
use mathlib.Core.Option.{Option, some, none}
use lib.Dec.{ltb}
use borrow.Author.Tests.{ltb-true, ltb-false}
use Rattle.units.specs.Told.{Told, gives, refuses}
use Rattle.units.specs.declared.Sector.{Sector}
use Rattle.layout_node.specs.Header.{is_directory}
use Rattle.layout_volume.specs.declared.Descriptor.{Descriptor}
use Rattle.layout_volume.specs.Descriptor.{date_of}
use Rattle.layout_volume.proofs.Stamp as stamps
use Rattle.read_entry.specs.declared.Placed.{Placed}
use Rattle.read_path.specs.Path.{path_of}
use Rattle.limits_rule.specs.Limits.{Limits, volume_in, allowed_at, file_of, and_then, answered, limits_of}
use Rattle.limits_rule.specs.Outcome.{Allows, Outcome, accepted, no_volume, no_date, clock_back, too_old, by_path, not_a_file}
use Rattle.limits_rule.proofs.Steps.{undated, before, older, allowed, file, directory, from_root, without_volume, by_volume}
use Rattle.limits_rule.proofs.Marks.{volume_20, unmarked_volume, refused_unmarked}

module _ (w : List ℕ) (first : Sector) (path : List ℕ) (time age : ℕ) where
  -- THE ANSWER OF A CAUSE: by the descriptor and its date, which is none or the stamp, and by the path
  by_date : (d : Descriptor) (x : Option ℕ) (t : Told ℕ) → volume_in w first ≡ gives d → date_of d.stamp ≡ x → allowed_at time age x ≡ t
      → limits_of w first path time age ≡ answered (and_then t (from_root w first path d))
  by_date d x t v e a =
      by_volume w first path time age d v ∙ ap (λ (t : Told ℕ). answered (and_then t (from_root w first path d))) (ap (allowed_at time age) e ∙ a)

  date : (stamp : ℕ) → 0 < stamp → date_of stamp ≡ some stamp
  date stamp h = stamps.a_date stamp (λ e. omega arith)

  by_found : (d : Descriptor) (a : Told Placed) → Allows w first path time age d → path_of 2 w first d.root path ≡ a
      → limits_of w first path time age ≡ answered (and_then a (λ x. file_of d.stamp x.header))
  by_found d a h e =
      by_date d _ _ h.volume (date d.stamp h.dated) (allowed time age d.stamp h.begun h.fresh)
      ∙ ap (λ (t : Told Placed). answered (and_then t (λ x. file_of d.stamp x.header))) e

  -- a cause has one answer
  pub outcome_one : (r : Limits) → Outcome w first path time age r → r ≡ limits_of w first path time age
  outcome_one r (accepted d x a) = sym (by_found d (gives x) a.allows a.found ∙ file d.stamp x.header a.file)
  outcome_one r (no_volume h) = sym (without_volume w first path time age (unmarked_volume w first h))
  outcome_one r (no_date d v e) = sym (by_date d none _ v (ap date_of e ∙ stamps.no_date) (undated time age))
  outcome_one r (clock_back d v h k) = sym (by_date d _ _ v (date d.stamp h) (before time age d.stamp k))
  outcome_one r (too_old d v h k l) = sym (by_date d _ _ v (date d.stamp h) (older time age d.stamp k l))
  outcome_one r (by_path d k vs h e) = sym (by_found d (refuses k vs) h e)
  outcome_one r (not_a_file d x h e k) = sym (by_found d (gives x) h e ∙ directory d.stamp x.header k)

  -- EVERY OUTCOME HAS ITS CAUSE: which of them it is, step by step
  abbrev Here : Type 0
  Here = (r : Limits) × Outcome w first path time age r

  of_kind : (d : Descriptor) (x : Placed) → Allows w first path time age d → path_of 2 w first d.root path ≡ gives x
      → (b : Bool) → is_directory x.header ≡ b → Here
  of_kind d x h e true k = (_, not_a_file d x h e k)
  of_kind d x h e false k = (_, accepted d x (record { allows = h; found = e; file = k }))

  of_path : (d : Descriptor) → Allows w first path time age d → (a : Told Placed) → path_of 2 w first d.root path ≡ a → Here
  of_path d h (gives x) e = of_kind d x h e (is_directory x.header) refl
  of_path d h (refuses k vs) e = (_, by_path d k vs h e)

  of_age : (d : Descriptor) → volume_in w first ≡ gives d → 0 < d.stamp → d.stamp ≤ time → (b : Bool) → ltb age (time - d.stamp) ≡ b → Here
  of_age d v h k true e = (_, too_old d v h k (ltb-true age (time - d.stamp) e))
  of_age d v h k false e =
      of_path d (record { volume = v; dated = h; begun = k; fresh = ltb-false age (time - d.stamp) e }) (path_of 2 w first d.root path) refl

  of_time : (d : Descriptor) → volume_in w first ≡ gives d → 0 < d.stamp → (b : Bool) → ltb time d.stamp ≡ b → Here
  of_time d v h true e = (_, clock_back d v h (ltb-true time d.stamp e))
  of_time d v h false e = of_age d v h (ltb-false time d.stamp e) (ltb age (time - d.stamp)) refl

  of_stamp : (d : Descriptor) → volume_in w first ≡ gives d → (n : ℕ) → d.stamp ≡ n → Here
  of_stamp d v zero e = (_, no_date d v e)
  of_stamp d v (suc n) e = of_time d v (omega arith) (ltb time d.stamp) refl

  of_volume : (a : Told Descriptor) → volume_in w first ≡ a → Here
  of_volume (gives d) e = of_stamp d e d.stamp refl
  of_volume (refuses k vs) e = (_, no_volume (refused_unmarked w first (volume_20 w first k vs e)))

  pub outcome : Outcome w first path time age (limits_of w first path time age)
  outcome =
      let h = of_volume (volume_in w first) refl in
      subst (Outcome w first path time age) (outcome_one h.0 h.1) h.1
