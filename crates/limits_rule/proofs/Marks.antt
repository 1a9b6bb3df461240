-- A descriptor is read exactly where both marks stand; of anything else the answer is 20. Assumes nothing.
use Prim.Native.Nat.{ℕ, ◌-◌, ◌*◌}
use native.Mathlib.Omega.{arith}
use mathlib.Core.Path.{◌≡◌, refl, sym, ap, ◌∙◌}
use mathlib.Core.Bool.{Bool, true, false, ◌&&◌}
use mathlib.Core.List.{List, [], ◌∷◌}
use lib.Dec.{eqb, leb}
use lib.ListN.{take, drop}
use lib.Seq.{drop-drop}
use borrow.Author.Tests.{eqb-true, leb-true, le-leb}
use Rattle.units.specs.Told.{Told, gives, refuses, pick}
use Rattle.units.specs.declared.Sector.{Sector}
use Rattle.layout_volume.specs.declared.Descriptor.{Descriptor}
use Rattle.layout_volume.specs.Descriptor.{mark, same_list, read_of}
use Rattle.layout_volume.proofs.Same.{same_self}
use Rattle.limits_rule.specs.Limits.{volume_in}
use Rattle.limits_rule.specs.Outcome.{Marked}

both : (a b : Bool) → a && b ≡ true → (a ≡ true) × (b ≡ true)
both true b e = (refl, e)
both false b e = let z : ◌≡◌ {A = ℕ} 0 1 = cc in absurd (omega arith)

-- two lists that compare as the same are equal
same_is : (p q : List ℕ) → same_list p q ≡ true → p ≡ q
unfolding same_list
same_is [] [] e = refl
same_is [] (y ∷ ys) e = let z : ◌≡◌ {A = ℕ} 0 1 = cc in absurd (omega arith)
same_is (x ∷ xs) [] e = let z : ◌≡◌ {A = ℕ} 0 1 = cc in absurd (omega arith)
same_is (x ∷ xs) (y ∷ ys) e =
    let b = both (eqb x y) (same_list xs ys) e in
    let head : x ≡ y = eqb-true x y b.0 in
    let tail : xs ≡ ys = same_is xs ys b.1 in
    cc

-- the refusal is 20, without values
abbrev Is20 : ℕ → List ℕ → Type 0
Is20 k vs = ◌≡◌ {A = Told Descriptor} (refuses k vs) (refuses 20 [])

-- reading by the two tests of its marks
module _ (d : Descriptor) where
  both_give : (a b : Bool) → a ≡ true → b ≡ true → pick (a && b) (gives d) (refuses 20 []) ≡ gives d
  both_give a b e k = rw (e, k)

  gives_by : (a b : Bool) (e : Descriptor) → pick (a && b) (gives d) (refuses 20 []) ≡ gives e → (a ≡ true) × (b ≡ true)
  gives_by true true e q = (refl, refl)
  gives_by true false e q = let z : ◌≡◌ {A = ℕ} 0 1 = cc in absurd (omega arith)
  gives_by false b e q = let z : ◌≡◌ {A = ℕ} 0 1 = cc in absurd (omega arith)

  refuses_by : (a b : Bool) (k : ℕ) (vs : List ℕ) → pick (a && b) (gives d) (refuses 20 []) ≡ refuses k vs → Is20 k vs
  refuses_by true true k vs q = let z : ◌≡◌ {A = ℕ} 0 1 = cc in absurd (omega arith)
  refuses_by true false k vs q = sym q
  refuses_by false b k vs q = sym q

module _ (s : List ℕ) where
  read_marks : (d : Descriptor) → read_of s ≡ gives d → (take 20 s ≡ mark) × (take 20 (drop 2028 s) ≡ mark)
  unfolding read_of
  read_marks d e =
      let t = gives_by _ (same_list (take 20 s) mark) (same_list (take 20 (drop 2028 s)) mark) d e in
      (same_is _ _ t.0, same_is _ _ t.1)

  read_20 : (k : ℕ) (vs : List ℕ) → read_of s ≡ refuses k vs → Is20 k vs
  unfolding read_of
  read_20 k vs e = refuses_by _ (same_list (take 20 s) mark) (same_list (take 20 (drop 2028 s)) mark) k vs e

  marks_read : take 20 s ≡ mark → take 20 (drop 2028 s) ≡ mark → (d : Descriptor) × (read_of s ≡ gives d)
  unfolding read_of
  marks_read a b = (_, both_give _ (same_list (take 20 s) mark) (same_list (take 20 (drop 2028 s)) mark) (rw a (same_self mark)) (rw b (same_self mark)))

-- and at sector 32, by the test of where the window starts
reach_gives : (b : Bool) (x : Told Descriptor) (d : Descriptor) → pick b x (refuses 20 []) ≡ gives d → (b ≡ true) × (x ≡ gives d)
reach_gives true x d e = (refl, e)
reach_gives false x d e = let z : ◌≡◌ {A = ℕ} 0 1 = cc in absurd (omega arith)

reach_refuses : (b : Bool) (x : Told Descriptor) (k : ℕ) (vs : List ℕ) → (x ≡ refuses k vs → Is20 k vs)
    → pick b x (refuses 20 []) ≡ refuses k vs → Is20 k vs
reach_refuses true x k vs f e = f e
reach_refuses false x k vs f e = sym e

module _ (w : List ℕ) (first : Sector) where
  pub volume_marked : (d : Descriptor) → volume_in w first ≡ gives d → Marked w first
  unfolding volume_in
  volume_marked d e =
      let r = reach_gives (leb first.0 32) _ d e in
      let m = read_marks (drop (2048 * (32 - first.0)) w) d r.1 in
      record {
        reaches = leb-true first.0 32 r.0;
        front = m.0;
        back = sym (ap (take 20) (drop-drop 2028 (2048 * (32 - first.0)) w)) ∙ m.1;
      }

  pub marked_volume : Marked w first → (d : Descriptor) × (volume_in w first ≡ gives d)
  unfolding volume_in
  marked_volume m =
      let r = marks_read (drop (2048 * (32 - first.0)) w) m.front (ap (take 20) (drop-drop 2028 (2048 * (32 - first.0)) w) ∙ m.back) in
      (r.0, simp (le-leb first.0 32 m.reaches) r.1)

  -- a refusal is 20, without values
  pub volume_20 : (k : ℕ) (vs : List ℕ) → volume_in w first ≡ refuses k vs → volume_in w first ≡ refuses 20 []
  unfolding volume_in
  volume_20 k vs e =
      e ∙ reach_refuses (leb first.0 32) (read_of (drop (2048 * (32 - first.0)) w)) k vs (read_20 (drop (2048 * (32 - first.0)) w) k vs) e

  unmarked_by : (x : Told Descriptor) → volume_in w first ≡ x → (Marked w first → ⊥) → volume_in w first ≡ refuses 20 []
  unmarked_by (gives d) e h = absurd (h (volume_marked d e))
  unmarked_by (refuses k vs) e h = volume_20 k vs e

  pub unmarked_volume : (Marked w first → ⊥) → volume_in w first ≡ refuses 20 []
  unmarked_volume h = unmarked_by (volume_in w first) refl h

  pub refused_unmarked : volume_in w first ≡ refuses 20 [] → Marked w first → ⊥
  refused_unmarked e m = let g = (marked_volume m).1 in let z : ◌≡◌ {A = ℕ} 0 1 = cc in omega arith
