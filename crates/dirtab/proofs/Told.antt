-- What an answer stands for is one-to-one: no two answers are told alike. Assumes nothing.
use Rattle.std.proofs.Common.{◌≡◌, refl, sym, ap, ◌∙◌, eqb, Result, Ok, Err}
use Rattle.units.specs.Told.{Told, gives, refuses, pick}
use Rattle.table_model.specs.Table.{Placing}
use Rattle.dirtab.specs.declared.Written.{Written}
use Rattle.dirtab.specs.declared.WriteError.{WriteError}
use Rattle.dirtab.specs.declared.WriteError.TheVariants as writing
use Rattle.dirtab.specs.declared.SerialiseError.{SerialiseError}
use Rattle.dirtab.specs.declared.SerialiseError.TheVariants as serialising
use Rattle.dirtab.specs.Serialise.{told_write, told}

-- the answer again from what is told of it
write_back : Told Placing → Result Written WriteError
write_back (gives p) = Ok (record { size = p.size; free = record { 0 = p.free } })
write_back (refuses k vs) = Err (pick (eqb k 7) writing.TooManyDirectoryEntries (pick (eqb k 8) writing.SectorOverflow writing.BufferTooSmall))

back : Told Placing → Result Written SerialiseError
back (gives p) = Ok (record { size = p.size; free = record { 0 = p.free } })
back (refuses k vs) =
    Err (pick (eqb k 12) serialising.BadArena (pick (eqb k 6) serialising.Room
    (serialising.Write (pick (eqb k 7) writing.TooManyDirectoryEntries (pick (eqb k 8) writing.SectorOverflow writing.BufferTooSmall)))))

write_again : (a : Result Written WriteError) → write_back (told_write a) ≡ a
unfolding write_back
write_again (Ok w) = refl
write_again (Err writing.TooManyDirectoryEntries) = refl
write_again (Err writing.SectorOverflow) = refl
write_again (Err writing.BufferTooSmall) = refl

again : (a : Result Written SerialiseError) → back (told a) ≡ a
unfolding back
again (Ok w) = refl
again (Err serialising.BadArena) = refl
again (Err serialising.Room) = refl
again (Err (serialising.Write writing.TooManyDirectoryEntries)) = refl
again (Err (serialising.Write writing.SectorOverflow)) = refl
again (Err (serialising.Write writing.BufferTooSmall)) = refl

pub told_write_one : (a b : Result Written WriteError) → told_write a ≡ told_write b → a ≡ b
told_write_one a b e = sym (write_again a) ∙ ap write_back e ∙ write_again b

pub told_one : (a b : Result Written SerialiseError) → told a ≡ told b → a ≡ b
told_one a b e = sym (again a) ∙ ap back e ∙ again b
