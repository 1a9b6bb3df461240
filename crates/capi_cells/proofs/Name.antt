-- The name of an entry, as the place where it starts and its length say it.
use Prim.Native.Nat.{ℕ, zero, suc, ◌+◌, ◌≤◌, min}
use mathlib.Core.Path.{◌≡◌, refl, sym, ap, ◌∙◌}
use mathlib.Core.Bool.{Bool, true, false}
use mathlib.Core.List.{List, [], ◌∷◌}
use native.Mathlib.Omega.{arith}
use lib.Dec.{leb}
use lib.ListN.{length, take, drop, drop_of_length-le}
use borrow.Author.Tests.{leb-true, leb-false}
use Rattle.read_entry.specs.Entry.{name_of}
use Rattle.capi_cells.specs.Cells.{start_of_name}

-- what is taken is taken again by its length
taken_again : (n : ℕ) (xs : List ℕ) → take (length (take n xs)) xs ≡ take n xs
taken_again zero xs = refl
taken_again (suc n) [] = refl
taken_again (suc n) (x ∷ xs) = ap (λ ys. x ∷ ys) (taken_again n xs)

-- past the end nothing is left
dropped_by : (b : Bool) (k : ℕ) (w : List ℕ) → leb k (length w) ≡ b → drop (min k (length w)) w ≡ drop k w
dropped_by true k w e =
    let h : k ≤ length w = leb-true k (length w) e in
    let m : min k (length w) ≡ k = omega arith in
    ap (λ i. drop i w) m
dropped_by false k w e =
    let h : length w ≤ k = omega (arith, leb-false k (length w) e) in
    let m : length w ≤ min k (length w) = omega arith in
    drop_of_length-le w m ∙ sym (drop_of_length-le w h)

pub name_is : (w : List ℕ) (place n : ℕ) (name : List ℕ) (start : ℕ) →
    name ≡ name_of w place n → start ≡ start_of_name w place → take (length name) (drop start w) ≡ name_of w place n
unfolding name_of
name_is w place n name start e h =
    ap (λ (s : ℕ). take (length name) (drop s w)) h
    ∙ (ap (λ (r : List ℕ). take (length r) (drop (start_of_name w place) w)) e
    ∙ (ap (λ (r : List ℕ). take (length (take n (drop (place + 14) w))) r) (dropped_by _ (place + 14) w refl)
    ∙ taken_again n (drop (place + 14) w)))
