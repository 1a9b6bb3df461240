-- What a list holds after a walk, or after a check that lists as a walk does: what is kept, and zeros past it. Assumes nothing.
use Prim.Native.Nat.{ℕ, ◌-◌}
use mathlib.Core.Path.{◌≡◌, refl, ap₂}
use mathlib.Core.List.{List, ◌++◌}
use native.Mathlib.Nat.{sub-zero}
use lib.ListN.{length, take, replicate}
use Rattle.std.specs.Prelude.{Result, Ok, Err}
use Rattle.units.specs.Told.{Told, gives, refuses}
use Rattle.read_walk.specs.declared.WalkError.{WalkError}
use Rattle.read_walk.specs.declared.WalkError.TheVariants as walk_error
use Rattle.read_walk.specs.Walk.{counted, listed, told}
use Rattle.read_walk.specs.inner.Run.{kept_of, listed_of}

-- the number that an answer gives; 0 for a refusal
abbrev pub count_of : Told ℕ → ℕ
count_of (gives n) = n
count_of (refuses k vs) = 0

-- what an answer keeps of the list is what it is told as giving
pub kept_told : (a : Result ℕ WalkError) → kept_of a ≡ count_of (told a)
kept_told (Ok n) = refl
kept_told (Err walk_error.Room) = refl
kept_told (Err (walk_error.Read e)) = refl
kept_told (Err walk_error.WalkFull) = refl

-- x is what is listed, and n places of the list l hold it
pub cleared_list : (x : Told (List ℕ)) (n : ℕ) (l : List ℕ) → n ≡ count_of (counted x) → take n l ≡ listed_of x
    → take n l ++ replicate (length l - n) 0 ≡ listed x (length l)
cleared_list (gives xs) n l e s = ap₂ ◌++◌ s (rw e)
cleared_list (refuses k vs) n l e s = rw (e, sub-zero)
