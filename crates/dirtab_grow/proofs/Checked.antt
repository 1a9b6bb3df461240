-- What a step makes of what its checks and its search say. Assumes nothing.
use Rattle.std.proofs.Common.{ℕ, ◌≤◌, ◌<◌, ◌≡◌, sym, ap, ◌∙◌, Bool, List, [], ◌∷◌, lt-ltb, le-ltb, Result, Ok}
use Rattle.units.specs.Told.{Told, gives, refuses, pick}
use Rattle.dirtab_entry.specs.declared.Cause.{Cause}
use Rattle.dirtab_entry.specs.declared.Entry as given
use Rattle.dirtab_entry.specs.Entry.{check_of, told}
use Rattle.avl_model.specs.declared.Place.{Place}
use Rattle.avl_model.specs.declared.Place.TheVariants.{Root}
use Rattle.avl_model.specs.declared.Spot.{Spot}
use Rattle.avl_model.specs.declared.Spot.TheVariants.{Same, Free}
use Rattle.avl_model.specs.Tree.{Tree}
use Rattle.avl_model.specs.Names.{Names, name_at, to_name, by_name}
use Rattle.avl_model.specs.Seek.{spot_in}
use Rattle.avl_keyed.specs.inner.Key.{key_for}
use Rattle.dirtab_grow.specs.inner.Growing.{step_of}

-- an entry that its check takes; x is the entry as it is read
pub passes : (B : List ℕ) {r : Result (Unit {0}) Cause} {x y : given.Entry} → told r ≡ check_of B x → x ≡ y → r ≡ Ok tt → check_of B y ≡ gives tt
passes B f e o = sym (ap (check_of B) e) ∙ sym f ∙ ap told o

-- the key of its name
pub key_of_name : (N : Names) (i : ℕ) {a : List ℕ} {k : ℕ} → a ≡ name_at N i → k ≡ key_for a → k ≡ key_for (name_at N i)
key_of_name N i e g = g ∙ ap key_for e

-- where the search for its name came to
pub found : (N : Names) (i : ℕ) (t : Tree) {a : List ℕ} {r v : Spot} → a ≡ name_at N i → r ≡ spot_in (to_name N a) t Root → r ≡ v → spot_in (by_name N i) t Root ≡ v
found N i t e f g = ap (λ (b : List ℕ). spot_in (to_name N b) t Root) (sym e) ∙ sym f ∙ g

module _ {s : Spot} (i : ℕ) where
  pub seat_same : {j : ℕ} → s ≡ Same j → (x : Told Tree) → refuses 4 (i ∷ []) ≡ step_of (gives tt) s i x
  seat_same e x = ap (λ (v : Spot). step_of (gives tt) v i x) (sym e)

  pub seat_full : {q : Place} → s ≡ Free q → 16384 ≤ i → (x : Told Tree) → refuses 6 (i ∷ []) ≡ step_of (gives tt) s i x
  seat_full e h x = sym (ap (λ (v : Spot). step_of (gives tt) v i x) e ∙ ap (λ (b : Bool). pick b x (refuses 6 (i ∷ []))) (le-ltb i 16384 h))

  pub seat_free : {q : Place} → s ≡ Free q → i < 16384 → (x : Told Tree) → x ≡ step_of (gives tt) s i x
  seat_free e h x = sym (ap (λ (v : Spot). step_of (gives tt) v i x) e ∙ ap (λ (b : Bool). pick b x (refuses 6 (i ∷ []))) (lt-ltb i 16384 h))
