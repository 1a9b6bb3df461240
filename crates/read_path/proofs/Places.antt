-- Where the leading slashes of a text end, and its first part, as places of the first byte that passes a test. Assumes nothing.
use Rattle.std.proofs.Common.{◌≡◌, ℕ, zero, suc, ◌+◌, Bool, true, false, cond, not, List, [], ◌∷◌, eqb, ltb, length, drop, ◌≤◌, refl, sym, ap, ◌∙◌, arith, Option, Some, None, unwrap_or}
use Rattle.std.specs.List.{position_or_len, prefix_len}
use Rattle.std.proofs.lemmas.List.Recursion.{is_position_or_len}
use Rattle.std.proofs.lemmas.List.Sums.{prefix_len-le-length}
use borrow.Author.Tests.{ltb-false}
use Rattle.units.specs.Told.{pick}
use Rattle.read_path.specs.Path.{trim}
use Rattle.read_path.specs.inner.Path.{first_len}

-- the place that is found, or the length
pub place_or_len : (test : ℕ → Bool) (xs : List ℕ) (r : Option ℕ) → r ≡ cond (ltb (position_or_len test xs) (length xs)) (Some (position_or_len test xs)) None → unwrap_or r (length xs) ≡ position_or_len test xs
place_or_len test xs r e = rw e (taken _ refl)
  where
    n : ℕ
    n = position_or_len test xs

    taken : (b : Bool) → ltb n (length xs) ≡ b → unwrap_or (cond b (Some n) None) (length xs) ≡ n
    taken true h = refl
    taken false h = let k : length xs ≤ n = ltb-false _ _ h in let l : n ≤ length xs = prefix_len-le-length (λ x. not (test x)) xs in omega arith

first_by : (b : Bool) (n : ℕ) → pick b zero (suc n) ≡ cond b 0 (1 + n)
first_by true n = refl
first_by false n = omega arith

pub first_len_is : (xs : List ℕ) → first_len xs ≡ position_or_len (λ x. eqb x 47) xs
unfolding first_len
first_len_is xs = is_position_or_len first_len (λ x. eqb x 47) refl (λ x ys. first_by (eqb x 47) (first_len ys)) xs

trim_by : (b : Bool) (n x : ℕ) (xs : List ℕ) → trim xs ≡ drop n xs → pick b (trim xs) (x ∷ xs) ≡ drop (cond (not (not b)) (1 + n) 0) (x ∷ xs)
trim_by true n x xs e = let d : 1 + n ≡ suc n = omega arith in rw d e
trim_by false n x xs e = refl

pub trim_is : (xs : List ℕ) → trim xs ≡ drop (position_or_len (λ x. not (eqb x 47)) xs) xs
unfolding trim
trim_is [] = refl
trim_is (x ∷ xs) = trim_by (eqb x 47) (position_or_len (λ y. not (eqb y 47)) xs) x xs (trim_is xs)
