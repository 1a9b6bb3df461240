-- The parts of a path that is joined of parts. Assumes nothing.
use Prim.Native.Nat.{ℕ, ◌<◌}
use native.Mathlib.Omega.{arith}
use mathlib.Core.Path.{◌≡◌, refl, sym, ap, ◌∙◌}
use mathlib.Core.Bool.{Bool, true, false}
use mathlib.Core.List.{List, [], ◌∷◌, ◌++◌, append-nil}
use lib.Dec.{eqb}
use lib.ListN.{length}
use Rattle.units.specs.Told.{refuses, pick}
use Rattle.units.specs.declared.Sector.{Sector}
use Rattle.units.specs.declared.Region.{Region}
use Rattle.name_role.specs.Roles.{bad_sought}
use Rattle.name_role.proofs.Roles.{slash_good}
use Rattle.read_path.specs.Path.{trim, grow, split, unended, parts_from, path_by}
use Rattle.agree_plan.specs.Image.{any_slash, PathPart, joined, AllParts}

-- of two bytes' tests
first_false : (b c : Bool) → pick b true c ≡ false → (b ≡ false) × (c ≡ false)
first_false true c e = let z : ◌≡◌ {A = ℕ} 0 1 = cc in absurd (omega arith)
first_false false c e = (refl, e)

-- a part without a slash is split off whole
split_part : (a : List ℕ) → any_slash a ≡ false → split a ≡ a ∷ []
unfolding split any_slash
split_part [] e = refl
split_part (x ∷ a) e =
    let f = first_false (eqb x 47) (any_slash a) e in
    ap (λ (b : Bool). pick b ([] ∷ split a) (grow x (split a))) f.0 ∙ ap (grow x) (split_part a f.1)

split_first : (a rest : List ℕ) → any_slash a ≡ false → split (a ++ (47 ∷ rest)) ≡ a ∷ split rest
unfolding split any_slash
split_first [] rest e = refl
split_first (x ∷ a) rest e =
    let f = first_false (eqb x 47) (any_slash a) e in
    ap (λ (b : Bool). pick b ([] ∷ split (a ++ (47 ∷ rest))) (grow x (split (a ++ (47 ∷ rest))))) f.0 ∙ ap (grow x) (split_first a rest f.1)

-- nothing is trimmed from it
trim_part : (a rest : List ℕ) → PathPart a → trim (a ++ rest) ≡ a ++ rest
unfolding trim any_slash
trim_part [] rest p = absurd (omega (arith, p.some))
trim_part (x ∷ a) rest p =
    ap (λ (b : Bool). pick b (trim (a ++ rest)) (x ∷ (a ++ rest))) (first_false (eqb x 47) (any_slash a) p.plain).0

-- a path that is joined of parts can be sought, as they can
joined_good : (cs : List (List ℕ)) → AllParts cs → bad_sought (joined cs) ≡ false
joined_good [] p = absurd p
joined_good (a ∷ []) p = p.good
joined_good (a ∷ b ∷ cs) p = slash_good a (joined (b ∷ cs)) ∙ rw p.0.good (joined_good (b ∷ cs) p.1)

split-joined : (cs : List (List ℕ)) → AllParts cs → split (joined cs) ≡ cs
split-joined [] p = absurd p
split-joined (a ∷ []) p = split_part a p.plain
split-joined (a ∷ b ∷ cs) p = split_first a (joined (b ∷ cs)) p.0.plain ∙ ap (λ (z : List (List ℕ)). a ∷ z) (split-joined (b ∷ cs) p.1)

some_left : (a : List ℕ) → 0 < length a → unended (a ∷ []) ≡ a ∷ []
unfolding unended
some_left [] h = absurd (omega arith)
some_left (x ∷ a) h = refl

unended_parts : (cs : List (List ℕ)) → AllParts cs → unended cs ≡ cs
unfolding unended
unended_parts [] p = refl
unended_parts (a ∷ []) p = some_left a p.some
unended_parts (a ∷ b ∷ cs) p = ap (λ (z : List (List ℕ)). a ∷ z) (unended_parts (b ∷ cs) p.1)

trim-joined : (cs : List (List ℕ)) → AllParts cs → trim (joined cs) ≡ joined cs
trim-joined [] p = absurd p
trim-joined (a ∷ []) p = trim_alone a p
  where
    trim_alone : (a : List ℕ) → PathPart a → trim a ≡ a
    trim_alone a q = ap trim (sym (append-nil a)) ∙ trim_part a [] q ∙ append-nil a
trim-joined (a ∷ b ∷ cs) p = trim_part a (47 ∷ joined (b ∷ cs)) p.0

-- A PATH THAT IS JOINED OF PARTS leads where they do
pub joined_path : (absent w : List ℕ) (first : Sector) (t : Region) (cs : List (List ℕ)) → AllParts cs → path_by absent w first t (joined cs) ≡ parts_from absent w first t cs
unfolding path_by
joined_path absent w first t cs p =
    ap (λ (b : Bool). pick b (refuses 2 []) (parts_from absent w first t (unended (split (trim (joined cs)))))) (joined_good cs p)
    ∙ ap (λ (z : List ℕ). parts_from absent w first t (unended (split z))) (trim-joined cs p)
    ∙ ap (λ (z : List (List ℕ)). parts_from absent w first t (unended z)) (split-joined cs p)
    ∙ ap (parts_from absent w first t) (unended_parts cs p)
