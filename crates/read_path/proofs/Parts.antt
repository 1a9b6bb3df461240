-- A path's parts, as a loop over the path takes them: the first part, and what is left. Assumes nothing.
use Rattle.std.proofs.Common.{◌≡◌, ℕ, zero, suc, ◌+◌, ◌-◌, ◌≤◌, ◌<◌, Bool, true, false, List, [], ◌∷◌, eqb, leb, length, take, drop, length-drop, drop_of_length-le, refl, sym, ap, ◌∙◌, arith, Result}
use Rattle.std.proofs.Math.Seq.{take-length, drop-drop}
use native.Mathlib.Decide.{ℕ_discrete}
use borrow.Author.Tests.{leb-true, leb-false}
use Rattle.units.specs.Told.{Told, refuses, pick}
use Rattle.units.specs.declared.Sector.{Sector}
use Rattle.units.specs.declared.Region.{Region}
use Rattle.read_entry.specs.Entry.{Placed}
use Rattle.read_lookup.specs.Lookup.{Finding, lookup_by}
use Rattle.read_path.specs.declared.PathError.{PathError}
use Rattle.read_path.specs.Path.{Turns, stops, grow, split, unended, last_of, turn_of, onward, parts_from, told}
use Rattle.read_path.specs.Path as Path
use Rattle.read_path.specs.inner.Path.{first_len}

-- no slash: one part, the whole
only_by : (x : ℕ) (xs : List ℕ) (b : Bool) → (first_len xs ≡ length xs → split xs ≡ xs ∷ []) → pick b zero (suc (first_len xs)) ≡ suc (length xs) → pick b ([] ∷ split xs) (grow x (split xs)) ≡ (x ∷ xs) ∷ []
only_by x xs true IH e = absurd (omega arith)
only_by x xs false IH e = rw (IH (omega arith))

only_part : (l : List ℕ) → first_len l ≡ length l → split l ≡ l ∷ []
unfolding first_len split
only_part [] e = refl
only_part (x ∷ xs) e = only_by x xs (eqb x 47) (only_part xs) e

-- a slash: the part before it, and the parts after it
first_by : (x : ℕ) (xs : List ℕ) (b : Bool) → (first_len xs < length xs → split xs ≡ take (first_len xs) xs ∷ split (drop (suc (first_len xs)) xs)) →
    pick b zero (suc (first_len xs)) < suc (length xs) →
    pick b ([] ∷ split xs) (grow x (split xs)) ≡ take (pick b zero (suc (first_len xs))) (x ∷ xs) ∷ split (drop (suc (pick b zero (suc (first_len xs)))) (x ∷ xs))
first_by x xs true IH h = refl
first_by x xs false IH h = rw (IH (omega arith))

first_part : (l : List ℕ) → first_len l < length l → split l ≡ take (first_len l) l ∷ split (drop (suc (first_len l)) l)
unfolding first_len split
first_part [] h = absurd (omega arith)
first_part (x ∷ xs) h = first_by x xs (eqb x 47) (first_part xs) h

-- of a text that is not empty some part is left
abbrev pub Some : List (List ℕ) → Type 0
Some ps = (q : List ℕ) × (qs : List (List ℕ)) × (ps ≡ q ∷ qs)

pub some_split : (l : List ℕ) → Some (split l)
unfolding split
some_split [] = ([], [], refl)
some_split (x ∷ xs) = go (eqb x 47) (some_split xs)
  where
    go : (b : Bool) → Some (split xs) → Some (pick b ([] ∷ split xs) (grow x (split xs)))
    go true s = ([], split xs, refl)
    go false s = (x ∷ s.0, s.1, rw s.2)

some_long : (x : ℕ) (p : List ℕ) (ps : List (List ℕ)) → Some (unended ((x ∷ p) ∷ ps))
unfolding unended
some_long x p [] = (x ∷ p, [], refl)
some_long x p (q ∷ ps) = (x ∷ p, unended (q ∷ ps), refl)

pub some_left : (l : List ℕ) → 0 < length l → Some (unended (split l))
unfolding split
some_left [] h = absurd (omega arith)
some_left (x ∷ xs) h = go (eqb x 47) (some_split xs)
  where
    go : (b : Bool) → Some (split xs) → Some (unended (pick b ([] ∷ split xs) (grow x (split xs))))
    go true s = rw s.2 ([], unended (s.0 ∷ s.1), unfold unended in refl)
    go false s = rw s.2 (some_long x s.0 s.1)

-- a part in front of others
pub unended_more : (p : List ℕ) (ps : List (List ℕ)) → Some ps → unended (p ∷ ps) ≡ p ∷ unended ps
unfolding unended
unended_more p ps s = rw s.2

-- the parts of a text l, from a table on
module _ (absent w : List ℕ) (first : Sector) (t : Region) where
  -- nothing is left
  no_part : (l : List ℕ) → length l ≤ 0 → parts_from absent w first t (unended (split l)) ≡ refuses 28 []
  unfolding split unended parts_from
  no_part [] h = refl
  no_part (x ∷ xs) h = absurd (omega arith)

  -- the last part: to the end, or to one slash before it
  whole : (l : List ℕ) → 0 < length l → first_len l ≡ length l → parts_from absent w first t (unended (split l)) ≡ last_of (lookup_by absent w first t (take (first_len l) l))
  unfolding unended parts_from
  whole [] h e = absurd (omega arith)
  whole (x ∷ xs) h e = rw (only_part (x ∷ xs) e, e, take-length (x ∷ xs))

  slashed : (l : List ℕ) → first_len l < length l → length l ≤ suc (first_len l) → parts_from absent w first t (unended (split l)) ≡ last_of (lookup_by absent w first t (take (first_len l) l))
  unfolding split unended parts_from
  slashed l h k = rw (first_part l h, drop_of_length-le l k)

  last_part : (l : List ℕ) → 0 < length l → first_len l ≤ length l → length l ≤ first_len l + 1 → parts_from absent w first t (unended (split l)) ≡ last_of (lookup_by absent w first t (take (first_len l) l))
  last_part l h k m = go (ℕ_discrete (first_len l) (length l))
    where
      go : Dec (first_len l ≡ length l) → parts_from absent w first t (unended (split l)) ≡ last_of (lookup_by absent w first t (take (first_len l) l))
      go (yes e) = whole l h e
      go (no d) = slashed l (omega arith) (omega arith)

  -- a part before the last
  more_parts : (l : List ℕ) → first_len l + 1 < length l →
      parts_from absent w first t (unended (split l)) ≡ onward (turn_of (lookup_by absent w first t (take (first_len l) l))) (λ u. parts_from absent w first u (unended (split (drop (suc (first_len l)) l))))
  unfolding parts_from
  more_parts l h =
      let rest : List ℕ = drop (suc (first_len l)) l in
      let left : Some (unended (split rest)) = some_left rest (simp length-drop (omega arith)) in
      rw (first_part l (omega arith), unended_more (take (first_len l) l) (split rest) (some_split rest), left.2)

-- where a part leads, the last or one before it
abbrev pub turn_at : Bool → Told Finding → Turns
turn_at last a = pick last (stops (last_of a)) (turn_of a)

-- the last part leads into no table
not_last : (b : Bool) (a : Told Finding) (u : Region) → Path.into u ≡ turn_at b a → b ≡ false
not_last true a u e = let z : ◌≡◌ {A = ℕ} 0 1 = cc in absurd (omega arith)
not_last false a u e = refl

-- a turn of the loop, with a text l left of the path, in the table t; x is the answer of the whole
module _ (absent w : List ℕ) (first : Sector) (t : Region) (l : List ℕ) (x : Told Placed) (so_far : x ≡ parts_from absent w first t (unended (split l))) where
  pub at_end : length l ≤ 0 → refuses 28 [] ≡ x
  at_end h = sym (so_far ∙ no_part absent w first t l h)

  module _ (more : length l ≡ 0 → ⊥) (n : ℕ) (len : n ≡ first_len l) (part after : List ℕ) (part-is : part ≡ take n l) (after-is : after ≡ drop n l) (cut : length after + n ≡ length l)
      (a : Told Finding) (looked : a ≡ lookup_by absent w first t part) where
    -- it is the last part
    pub last : length after ≤ 1 → x ≡ last_of a
    last h = so_far ∙ last_part absent w first t l (omega arith) (omega arith) (omega arith) ∙ rw (looked, part-is, len)

    -- more is left
    pub went : 1 < length after → (next : List ℕ) → next ≡ drop 1 after → x ≡ onward (turn_of a) (λ u. parts_from absent w first u (unended (split next)))
    went h next is =
        let k : n + 1 ≡ suc n = omega arith in
        let d : next ≡ drop (suc n) l = is ∙ ap (drop 1) after-is ∙ drop-drop 1 n l ∙ ap (λ (i : ℕ). drop i l) k in
        so_far ∙ more_parts absent w first t l (omega arith) ∙ rw (d, looked, part-is, len)

    -- a refusal of its lookup is the answer, be it the last part or not
    pub refused : ((next : Region → Told Placed) → onward (turn_of a) next ≡ last_of a) → x ≡ last_of a
    refused stays = by_len (leb (length after) 1) refl
      where
        by_len : (b : Bool) → leb (length after) 1 ≡ b → x ≡ last_of a
        by_len true h = last (leb-true _ _ h)
        by_len false h = went (leb-false _ _ h) (drop 1 after) refl ∙ stays _

    -- either way
    turned : (b : Bool) → leb (length after) 1 ≡ b → (next : List ℕ) → next ≡ drop 1 after → x ≡ onward (turn_at b a) (λ u. parts_from absent w first u (unended (split next)))
    turned true h next is = last (leb-true _ _ h)
    turned false h next is = went (leb-false _ _ h) next is

    -- if it leads into a table, the path goes on behind the slash, and there is what is left of it
    pub more_left : (u : Region) → Path.into u ≡ turn_at (leb (length after) 1) a → (j : ℕ) → j ≡ n + 1 → j ≤ length l
    more_left u at j d = omega (arith, leb-false (length after) 1 (not_last (leb (length after) 1) a u at))

    pub into : (u : Region) → Path.into u ≡ turn_at (leb (length after) 1) a → (next : List ℕ) → next ≡ drop 1 after → x ≡ parts_from absent w first u (unended (split next))
    into u at next is = turned _ refl next is ∙ rw (← at)

    -- if it stops with an answer of the code, that is the answer
    pub stop : (f : Result Placed PathError) → stops (told f) ≡ turn_at (leb (length after) 1) a → told f ≡ x
    stop f at = sym (turned _ refl (drop 1 after) refl ∙ rw (← at))
