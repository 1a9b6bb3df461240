-- What an answer stands for is one-to-one: no two answers are told alike. Assumes nothing.
use Rattle.std.proofs.Common.{ℕ, ◌≡◌, refl, sym, ap, ◌∙◌, get_or, eqb, Result, Ok, Err}
use Rattle.units.specs.declared.Sector.{Sector}
use Rattle.units.specs.Told.{Told, gives, refuses, pick}
use Rattle.img_take.specs.declared.PlacingError.{PlacingError}
use Rattle.img_take.specs.declared.PlacingError.TheVariants as error
use Rattle.img_take.specs.inner.Forward.{told_placed}

-- the answer again from what is told of it
placed_back : Told ℕ → Result Sector PlacingError
placed_back (gives s) = Ok (record { 0 = s })
placed_back (refuses k vs) = Err (pick (eqb k 7) (error.TooManyDirectoryEntries (get_or vs 0 0)) (error.SectorOverflow (get_or vs 0 0)))

placed_again : (a : Result Sector PlacingError) → placed_back (told_placed a) ≡ a
unfolding placed_back
placed_again (Ok s) = refl
placed_again (Err (error.TooManyDirectoryEntries d)) = refl
placed_again (Err (error.SectorOverflow d)) = refl

pub placed_one : (a b : Result Sector PlacingError) → told_placed a ≡ told_placed b → a ≡ b
placed_one a b e = sym (placed_again a) ∙ ap placed_back e ∙ placed_again b
