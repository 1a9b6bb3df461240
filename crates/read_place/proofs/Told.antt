-- What an answer stands for is one-to-one: no two answers are told alike. Assumes nothing.
use Rattle.std.proofs.Common.{◌≡◌, ℕ, List, refl, sym, ap, ◌∙◌, eqb, get_or, Result, Ok, Err, Some, None, Option as Maybe}
use Rattle.std.proofs.Math.Option.{Option, some, none}
use Rattle.units.specs.Told.{Told, gives, refuses, pick}
use Rattle.units.specs.declared.Offset.{Offset}
use Rattle.units.specs.declared.Region.{Region}
use Rattle.read_entry.specs.declared.ReadError.{ReadError}
use Rattle.read_entry.specs.declared.ReadError.TheVariants.{OutOfBounds, Truncated}
use Rattle.read_place.specs.declared.EnterError.{EnterError}
use Rattle.read_place.specs.declared.EnterError.TheVariants.{DoesNotExist, Read, IsNotDirectory}
use Rattle.read_place.specs.Place.{entered, linked}

-- the offset that a refusal carries
abbrev carried : List ℕ → Offset
carried vs = record { 0 = get_or vs 0 0 }

-- the answer again from what is told of it
back_entered : Told Region → Result Region EnterError
back_entered (gives t) = Ok t
back_entered (refuses k vs) =
    Err (pick (eqb k 22) DoesNotExist (pick (eqb k 23) (Read (OutOfBounds (carried vs))) (pick (eqb k 24) (Read (Truncated (carried vs))) IsNotDirectory)))

entered_back : (a : Result Region EnterError) → back_entered (entered a) ≡ a
unfolding back_entered
entered_back (Ok t) = refl
entered_back (Err DoesNotExist) = refl
entered_back (Err (Read (OutOfBounds o))) = refl
entered_back (Err (Read (Truncated o))) = refl
entered_back (Err IsNotDirectory) = refl

pub entered_one : (a b : Result Region EnterError) → entered a ≡ entered b → a ≡ b
entered_one a b e = sym (entered_back a) ∙ ap back_entered e ∙ entered_back b

back_linked : Told (Option ℕ) → Result (Maybe Offset) ReadError
back_linked (gives (some o)) = Ok (Some (record { 0 = o }))
back_linked (gives none) = Ok None
back_linked (refuses k vs) = Err (pick (eqb k 23) (OutOfBounds (carried vs)) (Truncated (carried vs)))

linked_back : (a : Result (Maybe Offset) ReadError) → back_linked (linked a) ≡ a
unfolding back_linked
linked_back (Ok (Some o)) = refl
linked_back (Ok None) = refl
linked_back (Err (OutOfBounds o)) = refl
linked_back (Err (Truncated o)) = refl

pub linked_one : (a b : Result (Maybe Offset) ReadError) → linked a ≡ linked b → a ≡ b
linked_one a b e = sym (linked_back a) ∙ ap back_linked e ∙ linked_back b
