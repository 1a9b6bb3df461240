-- What the loader's answer stands for is one-to-one: no two answers are told alike. Assumes nothing.
use Rattle.std.proofs.Common.{◌≡◌, ℕ, List, refl, sym, ap, ◌∙◌, eqb, get_or, Result, Ok, Err}
use Rattle.units.specs.Told.{Told, gives, refuses, pick}
use Rattle.units.specs.declared.Offset.{Offset}
use Rattle.read_entry.specs.declared.ReadError.TheVariants.{OutOfBounds, Truncated}
use Rattle.read_path.specs.declared.PathError.{PathError}
use Rattle.read_path.specs.declared.PathError.TheVariants as path_error
use Rattle.limits_rule.specs.declared.Limits.{Limits as Found}
use Rattle.limits_rule.specs.declared.LimitsError.{LimitsError}
use Rattle.limits_rule.specs.declared.LimitsError.TheVariants as error
use Rattle.limits_rule.specs.Limits.{Limits, told}

-- the offset that a refusal carries
abbrev offset_in : List ℕ → Offset
offset_in vs = record { 0 = get_or vs 0 0 }

-- the answer again from what is told of it
refusal : ℕ → List ℕ → LimitsError
refusal k vs =
    pick (eqb k 20) error.NoVolume
    (pick (eqb k 40) error.NoDate
    (pick (eqb k 41) error.NotYet
    (pick (eqb k 42) error.TooOld
    (pick (eqb k 43) error.IsDirectory
    (pick (eqb k 29) (error.Path path_error.BadRule)
    (pick (eqb k 2) (error.Path path_error.BadByte)
    (pick (eqb k 21) (error.Path path_error.DirectoryEmpty)
    (pick (eqb k 22) (error.Path path_error.DoesNotExist)
    (pick (eqb k 23) (error.Path (path_error.Read (OutOfBounds (offset_in vs))))
    (pick (eqb k 24) (error.Path (path_error.Read (Truncated (offset_in vs))))
    (pick (eqb k 25) (error.Path path_error.Looped)
    (pick (eqb k 27) (error.Path path_error.IsNotDirectory) (error.Path path_error.NoDirent)))))))))))))

back : Told Limits → Result Found LimitsError
back (gives x) = Ok (record { sector = x.sector; size = x.size; stamp = x.stamp })
back (refuses k vs) = Err (refusal k vs)

back-told : (a : Result Found LimitsError) → back (told a) ≡ a
unfolding back refusal
back-told (Ok x) = refl
back-told (Err error.NoVolume) = refl
back-told (Err error.NoDate) = refl
back-told (Err error.NotYet) = refl
back-told (Err error.TooOld) = refl
back-told (Err (error.Path path_error.BadRule)) = refl
back-told (Err (error.Path path_error.BadByte)) = refl
back-told (Err (error.Path path_error.DirectoryEmpty)) = refl
back-told (Err (error.Path path_error.DoesNotExist)) = refl
back-told (Err (error.Path (path_error.Read (OutOfBounds o)))) = refl
back-told (Err (error.Path (path_error.Read (Truncated o)))) = refl
back-told (Err (error.Path path_error.Looped)) = refl
back-told (Err (error.Path path_error.IsNotDirectory)) = refl
back-told (Err (error.Path path_error.NoDirent)) = refl
back-told (Err error.IsDirectory) = refl

pub told_one : (a b : Result Found LimitsError) → told a ≡ told b → a ≡ b
told_one a b e = sym (back-told a) ∙ ap back e ∙ back-told b
