-- One turn of the search: the child that is chosen, and the place that it hangs at. Assumes nothing.
use Rattle.std.proofs.Common.{ℕ, ◌≤◌, ◌<◌, ◌≡◌, refl, sym, ap, subst, Bool, true, false, List, length, get_or, arith, ltb, ne_eqb, ltb-true, ltb-false}
use Rattle.units.specs.Told.{pick}
use Rattle.std.specs.declared.cmp.Ordering.{Ordering}
use Rattle.std.specs.declared.cmp.Ordering.TheVariants.{Less, Greater}
use Rattle.avl_model.specs.declared.Place.{Place}
use Rattle.avl_model.specs.declared.Place.TheVariants.{Root, Left, Right}
use Rattle.avl_model.specs.declared.Spot.{Spot}
use Rattle.avl_model.specs.Tree.{none}
use Rattle.avl_model.specs.Names.{Names, name_at, to_name}
use Rattle.avl_model.proofs.Seeking.{Seeking, depth, go_left, go_right, less_left, less_right}
use Rattle.avl_keyed.specs.inner.Key.{key_for, place_from}
use Rattle.avl_keyed.proofs.ByKey.{Bytes, key_less, key_greater}

-- the place below a node
place_is : (at : ℕ) (less : Bool) → at < none → pick less (Left at) (Right at) ≡ place_from at less
place_is at less h = sym (ap (λ (b : Bool). pick b Root (pick less (Left at) (Right at))) (ne_eqb at none (λ e. omega arith)))

module _ {L R : List ℕ} {by : ℕ → Ordering} {P : ℕ → Type 0} (small : length L ≤ none) {at : ℕ} {q : Place} {goal : Spot} (k : Seeking L R by P at q goal) (h : at < none) where
  turned : (less : Bool) → by at ≡ pick less Less Greater
      → Seeking L R by P (pick less (get_or L at 0) (get_or R at 0)) (pick less (Left at) (Right at)) goal × (depth L R (pick less (get_or L at 0) (get_or R at 0)) < depth L R at)
  turned true e = (go_left small k h e, less_left small k h)
  turned false e = (go_right small k h e, less_right small k h)

  module _ {to : ℕ} (less : Bool) (e : to ≡ pick less (get_or L at 0) (get_or R at 0)) (f : by at ≡ pick less Less Greater) where
    pub chosen : Seeking L R by P to (place_from at less) goal
    chosen =
        subst (λ (v : ℕ). Seeking L R by P v (place_from at less) goal) (sym e)
        (subst (λ (p : Place). Seeking L R by P (pick less (get_or L at 0) (get_or R at 0)) p goal) (place_is at less h) (turned less f).0)

    pub lower : depth L R to < depth L R at
    lower = subst (λ (v : ℕ). depth L R v < depth L R at) (sym e) (turned less f).1

-- where the keys differ they tell the order; b is the name of the node
pub by_key : (N : Names) (a : List ℕ) → Bytes a → (at : ℕ) {b : List ℕ} → b ≡ name_at N at → Bytes b → {k q : ℕ} → k ≡ key_for a → q ≡ key_for (name_at N at) → (k ≡ q → ⊥) → to_name N a at ≡ pick (ltb k q) Less Greater
unfolding to_name
by_key N a ba at e bb {k} {q} k-is q-is ne = tells (ltb k q) refl
  where
    bn : Bytes (name_at N at)
    bn = subst Bytes e bb

    tells : (b : Bool) → ltb k q ≡ b → to_name N a at ≡ pick b Less Greater
    tells true f = key_less a (name_at N at) ba bn (omega (arith, ltb-true k q f))
    tells false f = key_greater a (name_at N at) ba bn (omega (arith, ltb-false k q f))
