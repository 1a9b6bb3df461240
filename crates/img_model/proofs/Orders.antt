-- Where the orders of the directories stand: the last directory's first. Assumes nothing.
use Prim.Native.Nat.{ℕ, zero, suc, ◌+◌, ◌-◌, ◌≤◌, ◌<◌}
use native.Mathlib.Omega.{arith}
use mathlib.Core.Path.{◌≡◌, refl, sym, ap, subst, ◌∙◌}
use mathlib.Core.List.{List, [], ◌∷◌}
use lib.ListN.{length, get_or, take, drop, length-drop}
use lib.Seq.{drop-cons, drop-drop, drop-length, drop-nil, take-take, length-take-le}
use Rattle.img_model.specs.Shares.{part}
use Rattle.img_model.specs.Plan.{total}

-- a list counts its element d, and those after it
pub total_step : (l : List ℕ) (d : ℕ) → d < length l → total (drop d l) ≡ get_or l d 0 + total (drop (suc d) l)
unfolding total
total_step l d h = ap total (drop-cons l d 0 h)

pub total_none : (l : List ℕ) (d : ℕ) → length l ≡ d → total (drop d l) ≡ 0
unfolding total
total_none l d e = ap (λ (k : ℕ). total (drop k l)) (sym e) ∙ ap total (drop-length l)

less_in_all : (l : List ℕ) (k : ℕ) → total (drop k l) ≤ total l
unfolding total
less_in_all l zero = omega arith
less_in_all [] (suc k) = omega arith
less_in_all (x ∷ l) (suc k) = omega (arith, less_in_all l k)

-- fewer directories count no more
pub total_down : (l : List ℕ) (d x : ℕ) → d ≤ x → total (drop x l) ≤ total (drop d l)
total_down l d x h =
    let k : d + (x - d) ≡ x = omega arith in
    subst (λ (y : ℕ). total (drop y l) ≤ total (drop d l)) k
    (subst (λ (m : List ℕ). total m ≤ total (drop d l)) (drop-drop (x - d) d l) (less_in_all (drop d l) (x - d)))

pub total_all : (l : List ℕ) (d : ℕ) → total (drop d l) ≤ total l
total_all l d = less_in_all l d

-- a part of what lies before `at` is the same in two lists that agree there
drop-take : (a n : ℕ) (xs : List ℕ) → take n (drop a xs) ≡ drop a (take (a + n) xs)
drop-take zero n xs = ap (λ (k : ℕ). take k xs) {x = n} {y = 0 + n} (omega arith)
drop-take (suc a) n [] = lhs n ∙ sym (ap (drop (suc a)) (lhs (suc a + n)) ∙ drop-nil (suc a))
  where
    lhs : (k : ℕ) → ◌≡◌ {A = List ℕ} (take k []) []
    lhs zero = refl
    lhs (suc k) = refl
drop-take (suc a) n (x ∷ xs) = drop-take a n xs ∙ ap (λ (k : ℕ). drop (suc a) (take k (x ∷ xs))) {x = suc (a + n)} {y = suc a + n} (omega arith)

pub part_kept : (a n at : ℕ) (xs ys : List ℕ) → a + n ≤ at → take at ys ≡ take at xs → part a n ys ≡ part a n xs
part_kept a n at xs ys h e =
    drop-take a n ys ∙
    ap (drop a) (sym (take-take (a + n) at ys h) ∙ ap (take (a + n)) e ∙ take-take (a + n) at xs h) ∙
    sym (drop-take a n xs)

-- a part inside a list is as long as it is said to be
pub length_part : (f n : ℕ) (xs : List ℕ) → f + n ≤ length xs → length (part f n xs) ≡ n
length_part f n xs h = length-take-le n (drop f xs) (let e : length (drop f xs) ≡ length xs - f = length-drop f xs in omega arith)
