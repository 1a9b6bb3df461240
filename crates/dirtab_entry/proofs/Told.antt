-- The number of a cause is one-to-one, and so is what an answer stands for: no two answers are told alike. Assumes nothing.
use Rattle.std.proofs.Common.{ℕ, ◌≡◌, refl, sym, ap, ◌∙◌, eqb, Result, Ok, Err}
use Rattle.units.specs.Told.{Told, gives, refuses, pick}
use Rattle.dirtab_entry.specs.declared.Cause.{Cause}
use Rattle.dirtab_entry.specs.declared.Cause.TheVariants.{EmptyName, BadByte, NameTooLong, SizeOverflow, DuplicateFileName, Room}
use Rattle.dirtab_entry.specs.Entry.{cause_number, told}

-- what a number stands for: f of the cause that has it, and x where none has
unfoldable pub for_number : {A : Type 0} → (Cause → A) → A → ℕ → A
for_number f x n =
    pick (eqb n 1) (f EmptyName) (pick (eqb n 2) (f BadByte) (pick (eqb n 3) (f NameTooLong) (pick (eqb n 4) (f DuplicateFileName)
    (pick (eqb n 5) (f SizeOverflow) (pick (eqb n 6) (f Room) x)))))

pub for_number_lem : {A : Type 0} (f : Cause → A) (x : A) (c : Cause) → for_number f x (cause_number c) ≡ f c
unfolding for_number
for_number_lem f x EmptyName = refl
for_number_lem f x BadByte = refl
for_number_lem f x NameTooLong = refl
for_number_lem f x SizeOverflow = refl
for_number_lem f x DuplicateFileName = refl
for_number_lem f x Room = refl

-- no two causes have one number
pub number_one : (a b : Cause) → cause_number a ≡ cause_number b → a ≡ b
number_one a b e = sym (for_number_lem (λ c. c) Room a) ∙ ap (for_number (λ c. c) Room) e ∙ for_number_lem (λ c. c) Room b

-- what holds of the six numbers holds of each cause's
pub each_number : (P : ℕ → Type 0) → P 1 → P 2 → P 3 → P 4 → P 5 → P 6 → (c : Cause) → P (cause_number c)
each_number P one two three four five six EmptyName = one
each_number P one two three four five six BadByte = two
each_number P one two three four five six NameTooLong = three
each_number P one two three four five six DuplicateFileName = four
each_number P one two three four five six SizeOverflow = five
each_number P one two three four five six Room = six

-- the answer again from what is told of it
back : Told (Unit {0}) → Result (Unit {0}) Cause
back (gives u) = Ok u
back (refuses k vs) = for_number Err (Ok tt) k

back-told : (a : Result (Unit {0}) Cause) → back (told a) ≡ a
unfolding back
back-told (Ok u) = refl
back-told (Err c) = for_number_lem Err (Ok tt) c

-- no two answers of a check are told alike
pub told_one : (a b : Result (Unit {0}) Cause) → told a ≡ told b → a ≡ b
told_one a b e = sym (back-told a) ∙ ap back e ∙ back-told b
