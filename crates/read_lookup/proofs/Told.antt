-- What a lookup's answer stands for is one-to-one: no two answers are told alike. Assumes nothing.
use Rattle.std.proofs.Common.{◌≡◌, ℕ, List, refl, sym, ap, ◌∙◌, eqb, get_or, Result, Ok, Err}
use Rattle.units.specs.Told.{Told, gives, refuses, pick}
use Rattle.units.specs.declared.Offset.{Offset}
use Rattle.read_entry.specs.declared.ReadError.TheVariants.{OutOfBounds, Truncated}
use Rattle.read_lookup.specs.declared.Found.{Found}
use Rattle.read_lookup.specs.declared.LookupError.{LookupError}
use Rattle.read_lookup.specs.declared.LookupError.TheVariants.{BadRule, BadByte, DirectoryEmpty, DoesNotExist, Read, Looped}
use Rattle.read_lookup.specs.Lookup.{Finding, told}

-- the offset that a refusal carries
abbrev carried : List ℕ → Offset
carried vs = record { 0 = get_or vs 0 0 }

-- the answer again from what is told of it
refusal : ℕ → List ℕ → LookupError
refusal k vs =
    pick (eqb k 29) BadRule
    (pick (eqb k 2) BadByte
    (pick (eqb k 21) DirectoryEmpty
    (pick (eqb k 22) (DoesNotExist (get_or vs 0 0))
    (pick (eqb k 23) (Read (OutOfBounds (carried vs))) (pick (eqb k 24) (Read (Truncated (carried vs))) Looped)))))

back : Told Finding → Result Found LookupError
back (gives x) = Ok (record { entry = x.entry; offset = record { 0 = x.offset }; headers = x.headers })
back (refuses k vs) = Err (refusal k vs)

back-told : (a : Result Found LookupError) → back (told a) ≡ a
unfolding back refusal
back-told (Ok f) = refl
back-told (Err BadRule) = refl
back-told (Err BadByte) = refl
back-told (Err DirectoryEmpty) = refl
back-told (Err (DoesNotExist n)) = refl
back-told (Err (Read (OutOfBounds o))) = refl
back-told (Err (Read (Truncated o))) = refl
back-told (Err Looped) = refl

pub told_one : (a b : Result Found LookupError) → told a ≡ told b → a ≡ b
told_one a b e = sym (back-told a) ∙ ap back e ∙ back-told b
