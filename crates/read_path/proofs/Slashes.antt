-- Which slashes of a path matter, for every window, table and set of absent links. Assumes nothing.
use Prim.Native.Nat.{ℕ, zero, suc, ◌<◌}
use mathlib.Core.Path.{◌≡◌, refl, sym, ap, ◌∙◌}
use mathlib.Core.Bool.{Bool, true, false}
use mathlib.Core.List.{List, [], ◌∷◌, ◌++◌, append_assoc}
use native.Mathlib.Omega.{arith}
use borrow.Author.Tests.{ne_eqb}
use lib.Dec.{eqb}
use lib.ListN.{length, replicate}
use Rattle.units.specs.Told.{refuses, pick}
use Rattle.units.specs.declared.Sector.{Sector}
use Rattle.units.specs.declared.Region.{Region}
use Rattle.name_role.specs.Roles.{bad_sought}
use Rattle.name_role.proofs.Roles.{none_good, slash_good}
use Rattle.read_lookup.specs.Lookup.{lookup_by}
use Rattle.read_path.specs.Path.{trim, grow, split, unended, last_of, turn_of, onward, parts_from, path_by}
use Rattle.read_path.proofs.Parts.{Some, some_split, some_left, unended_more}

-- a byte in front of parts of which some are left
grow-unended : (y : ℕ) (ps : List (List ℕ)) → Some (unended ps) → unended (grow y ps) ≡ grow y (unended ps)
unfolding unended
grow-unended y [] s = let z : ◌≡◌ {A = ℕ} 0 1 = cc s.2 in absurd (omega arith)
grow-unended y ([] ∷ []) s = let z : ◌≡◌ {A = ℕ} 0 1 = cc s.2 in absurd (omega arith)
grow-unended y ((x ∷ xs) ∷ []) s = refl
grow-unended y (p ∷ q ∷ ps) s = refl

-- the parts that are left of a byte in front of a text that is not empty
unended_cons : (y : ℕ) (l : List ℕ) (b : Bool) → 0 < length l →
    unended (pick b ([] ∷ split l) (grow y (split l))) ≡ pick b ([] ∷ unended (split l)) (grow y (unended (split l)))
unended_cons y l true h = unended_more [] (split l) (some_split l)
unended_cons y l false h = grow-unended y (split l) (some_left l h)

long : (m : List ℕ) (x : ℕ) (r : List ℕ) → 0 < length (m ++ (x ∷ r))
long [] x r = omega arith
long (y ∷ m) x r = omega arith

either_false : (b : Bool) → pick b true false ≡ b
either_false true = refl
either_false false = refl

module _ (x : ℕ) (other : x ≡ 47 → ⊥) where
  -- after a byte that is no slash, one more slash adds no part
  split_slash : (m : List ℕ) → unended (split (m ++ (x ∷ 47 ∷ []))) ≡ unended (split (m ++ (x ∷ [])))
  unfolding split unended
  split_slash [] = rw (ne_eqb x 47 other)
  split_slash (y ∷ m) =
      unended_cons y (m ++ (x ∷ 47 ∷ [])) (eqb y 47) (long m x (47 ∷ []))
      ∙ ap (λ (ps : List (List ℕ)). pick (eqb y 47) ([] ∷ ps) (grow y ps)) (split_slash m)
      ∙ sym (unended_cons y (m ++ (x ∷ [])) (eqb y 47) (long m x []))

  trim_slash : (l : List ℕ) → unended (split (trim (l ++ (x ∷ 47 ∷ [])))) ≡ unended (split (trim (l ++ (x ∷ []))))
  unfolding trim
  trim_slash [] = rw (ne_eqb x 47 other) (split_slash [])
  trim_slash (y ∷ l) = go (eqb y 47) (trim_slash l)
    where
      go : (b : Bool) → unended (split (trim (l ++ (x ∷ 47 ∷ [])))) ≡ unended (split (trim (l ++ (x ∷ [])))) →
          unended (split (pick b (trim (l ++ (x ∷ 47 ∷ []))) (y ∷ (l ++ (x ∷ 47 ∷ []))))) ≡ unended (split (pick b (trim (l ++ (x ∷ []))) (y ∷ (l ++ (x ∷ [])))))
      go true IH = IH
      go false IH = split_slash (y ∷ l)

-- one more slash, at either end, makes no path bad
bad_leading : (path : List ℕ) → bad_sought (47 ∷ path) ≡ bad_sought path
bad_leading path = slash_good [] path ∙ rw none_good

bad_trailing : (l : List ℕ) (x : ℕ) → bad_sought (l ++ (x ∷ 47 ∷ [])) ≡ bad_sought (l ++ (x ∷ []))
bad_trailing l x =
    ap bad_sought (sym (append_assoc l (x ∷ []) (47 ∷ []))) ∙ slash_good (l ++ (x ∷ [])) [] ∙ rw none_good (either_false (bad_sought (l ++ (x ∷ []))))

slashes_good : (n : ℕ) → bad_sought (replicate n 47) ≡ false
slashes_good zero = none_good
slashes_good (suc n) = bad_leading (replicate n 47) ∙ slashes_good n

no_text : (n : ℕ) → trim (replicate n 47) ≡ []
unfolding trim
no_text zero = refl
no_text (suc n) = no_text n

module _ (absent w : List ℕ) (first : Sector) (t : Region) where
  -- a leading slash goes
  pub leading_goes : (path : List ℕ) → path_by absent w first t (47 ∷ path) ≡ path_by absent w first t path
  unfolding path_by trim
  leading_goes path = rw (bad_leading path)

  -- one trailing slash, after a byte x that is none, goes
  pub trailing_goes : (l : List ℕ) (x : ℕ) → (x ≡ 47 → ⊥) → path_by absent w first t (l ++ (x ∷ 47 ∷ [])) ≡ path_by absent w first t (l ++ (x ∷ []))
  unfolding path_by
  trailing_goes l x other = rw (bad_trailing l x, trim_slash x other l)

  -- slashes alone, however many, and the empty path are 28
  pub slashes_alone : (n : ℕ) → path_by absent w first t (replicate n 47) ≡ refuses 28 []
  unfolding path_by split unended parts_from
  slashes_alone n = rw (slashes_good n, no_text n)

  -- `a/` leads where `a` does
  pub a_slash : path_by absent w first t (97 ∷ 47 ∷ []) ≡ path_by absent w first t (97 ∷ [])
  a_slash = trailing_goes [] 97 (λ e. omega arith)

  -- `a//` looks for the empty name inside a
  pub a_two_slashes : path_by absent w first t (97 ∷ 47 ∷ 47 ∷ []) ≡ onward (turn_of (lookup_by absent w first t (97 ∷ []))) (λ u. last_of (lookup_by absent w first u []))
  unfolding path_by bad_sought trim split unended parts_from
  a_two_slashes = refl

  -- the empty path, `/` and `//` are 28
  pub empty_path : path_by absent w first t [] ≡ refuses 28 []
  empty_path = slashes_alone 0

  pub one_slash : path_by absent w first t (47 ∷ []) ≡ refuses 28 []
  one_slash = slashes_alone 1

  pub two_slashes : path_by absent w first t (47 ∷ 47 ∷ []) ≡ refuses 28 []
  two_slashes = slashes_alone 2

-- the parts that are left of `a`, `a/`, `a//`, `/a/b`, `/`, `//` and the empty path
pub parts_left :
    (unended (split (trim (97 ∷ []))) ≡ (97 ∷ []) ∷ [])
    × (unended (split (trim (97 ∷ 47 ∷ []))) ≡ (97 ∷ []) ∷ [])
    × (unended (split (trim (97 ∷ 47 ∷ 47 ∷ []))) ≡ (97 ∷ []) ∷ [] ∷ [])
    × (unended (split (trim (47 ∷ 97 ∷ 47 ∷ 98 ∷ []))) ≡ (97 ∷ []) ∷ (98 ∷ []) ∷ [])
    × (unended (split (trim (47 ∷ []))) ≡ [])
    × (unended (split (trim (47 ∷ 47 ∷ []))) ≡ [])
    × (unended (split (trim [])) ≡ [])
unfolding trim split unended
parts_left = (refl, refl, refl, refl, refl, refl, refl)
