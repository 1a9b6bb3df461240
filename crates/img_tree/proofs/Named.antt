-- The last look at the marks: that of every directory but the root is 1. Assumes nothing.
use Rattle.std.proofs.Common.{ℕ, zero, suc, ◌<◌, ◌≡◌, refl, sym, ap, ap₂, ◌∙◌, Bool, true, false, ◌&&◌, List, [], ◌∷◌, eqb, length, get_or, drop, arith}
use Rattle.std.proofs.lemmas.Bool.{ne_eqb}
use Rattle.std.specs.List.{list_all}
use Rattle.units.specs.Told.{pick}
use Rattle.avl_arena.specs.Test.{every}
use Rattle.img_tree.specs.inner.Marks.{is_named}

and_over : (a b c : Bool) → ((a && b) && c) ≡ (a && (b && c))
and_over true b c = refl
and_over false b c = refl

and_none : (a : Bool) → (true && a) ≡ (a && true)
and_none true = refl
and_none false = refl

-- a test of each number up to m, the first one first
every_shift : (f : ℕ → Bool) (m : ℕ) → every f (suc m) ≡ (f 0 && every (λ j. f (suc j)) m)
every_shift f zero = and_none (f 0)
every_shift f (suc m) =
    ap (λ b. b && f (suc m)) (every_shift f m) ∙ and_over (f 0) (every (λ j. f (suc j)) m) (f (suc m))

-- a test of each number as one of each element
every_list : (f : ℕ → Bool) (p : ℕ → Bool) (xs : List ℕ) → ((j : ℕ) → j < length xs → f j ≡ p (get_or xs j 0))
    → every f (length xs) ≡ list_all p xs
every_list f p [] h = refl
every_list f p (x ∷ xs) h =
    every_shift f (length xs)
    ∙ ap₂ ◌&&◌ (h 0 (omega arith)) (every_list (λ j. f (suc j)) p xs (λ j k. h (suc j) (omega arith)))

later : (n j : ℕ) → pick (eqb (suc j) 0) true (eqb n 1) ≡ eqb n 1
later n j = ap (λ b. pick b true (eqb n 1)) (ne_eqb (suc j) 0 (λ e. omega arith))

pub all_named : (named : List ℕ) → list_all (λ m. eqb m 1) (drop 1 named) ≡ every (is_named named) (length named)
unfolding is_named
all_named [] = refl
all_named (x ∷ xs) =
    sym (every_shift (is_named (x ∷ xs)) (length xs)
    ∙ every_list (λ j. is_named (x ∷ xs) (suc j)) (λ m. eqb m 1) xs (λ j h. later (get_or xs j 0) j))
