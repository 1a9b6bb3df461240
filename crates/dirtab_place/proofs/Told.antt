-- What an answer stands for is one-to-one: no two answers are told alike. Assumes nothing.
use Rattle.std.proofs.Common.{ℕ, ◌≡◌, refl, sym, ap, ◌∙◌, Result, Ok, Err}
use Rattle.units.specs.Told.{Told, gives, refuses}
use Rattle.units.specs.declared.Sector.{Sector}
use Rattle.layout_sector.specs.declared.SectorOverflow.{SectorOverflow}
use Rattle.dirtab_place.specs.declared.TooManyDirectoryEntries.{TooManyDirectoryEntries}
use Rattle.dirtab_place.specs.inner.Places.{told_end, told_free}

-- the answers again from what is told of them
end_back : Told ℕ → Result ℕ TooManyDirectoryEntries
end_back (gives e) = Ok e
end_back (refuses k vs) = Err (record {})

free_back : Told ℕ → Result Sector SectorOverflow
free_back (gives s) = Ok (record { 0 = s })
free_back (refuses k vs) = Err (record {})

end_again : (a : Result ℕ TooManyDirectoryEntries) → end_back (told_end a) ≡ a
unfolding end_back
end_again (Ok e) = refl
end_again (Err e) = refl

free_again : (a : Result Sector SectorOverflow) → free_back (told_free a) ≡ a
unfolding free_back
free_again (Ok s) = refl
free_again (Err e) = refl

pub end_one : (a b : Result ℕ TooManyDirectoryEntries) → told_end a ≡ told_end b → a ≡ b
end_one a b e = sym (end_again a) ∙ ap end_back e ∙ end_again b

pub free_one : (a b : Result Sector SectorOverflow) → told_free a ≡ told_free b → a ≡ b
free_one a b e = sym (free_again a) ∙ ap free_back e ∙ free_again b
