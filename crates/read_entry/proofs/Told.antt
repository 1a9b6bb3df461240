-- What a reading's answer stands for is one-to-one: no two answers are told alike. Assumes nothing.
use Rattle.std.proofs.Common.{◌≡◌, refl, sym, ap, ◌∙◌, eqb, get_or, Result, Ok, Err, Some, None, Option as Maybe}
use Rattle.std.proofs.Math.Option.{Option, some, none}
use Rattle.units.specs.Told.{Told, gives, refuses, pick}
use Rattle.read_entry.specs.declared.ReadError.{ReadError}
use Rattle.read_entry.specs.declared.ReadError.TheVariants.{OutOfBounds, Truncated}
use Rattle.read_entry.specs.Entry.{Placed, told}

-- the answer again from what is told of it
back : Told (Option Placed) → Result (Maybe Placed) ReadError
back (gives (some x)) = Ok (Some x)
back (gives none) = Ok None
back (refuses k vs) = Err (pick (eqb k 23) (OutOfBounds (record { 0 = get_or vs 0 0 })) (Truncated (record { 0 = get_or vs 0 0 })))

back-told : (a : Result (Maybe Placed) ReadError) → back (told a) ≡ a
unfolding back
back-told (Ok (Some x)) = refl
back-told (Ok None) = refl
back-told (Err (OutOfBounds o)) = refl
back-told (Err (Truncated o)) = refl

pub told_one : (a b : Result (Maybe Placed) ReadError) → told a ≡ told b → a ≡ b
told_one a b e = sym (back-told a) ∙ ap back e ∙ back-told b
