-- What the functions of the arena check compute, over plain functions and lists.
use Rattle.std.proofs.Common.{◌≡◌, refl, sym, ap, ◌∙◌, ℕ, zero, suc, ◌+◌, Bool, true, false, ◌&&◌, [], ◌∷◌, ◌++◌, add-zero, arith}
use Rattle.std.specs.List.{list_all, range_with_len}
use Rattle.std.proofs.lemmas.List.Folds.{list_all-append}
use Rattle.avl_model.specs.Lists.{Lists}
use Rattle.avl_model.specs.Names.{Names}
use Rattle.avl_arena.specs.Test.{every, holds_tree}
use Rattle.avl_arena.specs.HeldTree.{Places}
use Rattle.avl_arena.proofs.Sound.{sound}

-- a number more
range_more : (a n : ℕ) → range_with_len a (suc n) ≡ range_with_len a n ++ ((a + n) ∷ [])
range_more a zero = rw (add-zero a)
range_more a (suc n) = let e : (a + 1) + n ≡ a + suc n = omega arith in rw (range_more (a + 1) n, e)

and_true : (a b : Bool) → (a && (b && true)) ≡ (a && b)
and_true true true = refl
and_true true false = refl
and_true false b = refl

-- a test of each number below n, one after another
pub every_number : (f : ℕ → Bool) (n : ℕ) → list_all f (range_with_len 0 n) ≡ every f n
every_number f zero = refl
every_number f (suc n) =
    let e : 0 + n ≡ n = omega arith in
    ap (list_all f) (range_more 0 n) ∙ list_all-append f (range_with_len 0 n) ((0 + n) ∷ [])
    ∙ rw (e, every_number f n) (and_true (every f n) (f n))

-- a tree that is held has places for its names
pub places_of : (S : Lists) (N : Names) (n : ℕ) (b : Bool) → b ≡ holds_tree S N n → b ≡ true → Places S N n
places_of S N n b e h = (sound S N n (sym e ∙ h)).places
