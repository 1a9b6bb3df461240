-- What each answer stands for is one-to-one: no two answers are told alike. Assumes nothing.
use Rattle.std.proofs.Common.{ℕ, ◌≡◌, refl, sym, ap, ◌∙◌}
use Rattle.std.proofs.Math.Option.{Option, some, none}
use Rattle.units.specs.Told.{Told, gives, refuses}
use Rattle.layout_volume.specs.declared.Descriptor.{Descriptor}
use Rattle.layout_volume.specs.declared.BufferTooSmall.{BufferTooSmall}
use Rattle.layout_volume.specs.declared.NoVolume.{NoVolume}
use Rattle.std.specs.Prelude.{Result, Ok, Err, Some, None}
use Rattle.std.specs.Prelude.{Option as RustOption}
use Rattle.layout_volume.specs.Descriptor.{write_told, read_told, date_told}

-- the answers again from what is told of them
written_back : Told (Unit {0}) → Result (Unit {0}) BufferTooSmall
written_back (gives u) = Ok tt
written_back (refuses k vs) = Err (record {})

read_back : Told Descriptor → Result Descriptor NoVolume
read_back (gives d) = Ok d
read_back (refuses k vs) = Err (record {})

date_back : Option ℕ → RustOption ℕ
date_back none = None
date_back (some stamp) = Some stamp

written_back_told : (a : Result (Unit {0}) BufferTooSmall) → written_back (write_told a) ≡ a
unfolding written_back
written_back_told (Ok u) = refl
written_back_told (Err e) = refl

read_back_told : (a : Result Descriptor NoVolume) → read_back (read_told a) ≡ a
unfolding read_back
read_back_told (Ok d) = refl
read_back_told (Err e) = refl

date_back_told : (a : RustOption ℕ) → date_back (date_told a) ≡ a
unfolding date_back
date_back_told None = refl
date_back_told (Some stamp) = refl

-- no two answers of a writing are told alike
pub write_told_one : (a b : Result (Unit {0}) BufferTooSmall) → write_told a ≡ write_told b → a ≡ b
write_told_one a b e = sym (written_back_told a) ∙ ap written_back e ∙ written_back_told b

-- no two answers of a reading are told alike
pub read_told_one : (a b : Result Descriptor NoVolume) → read_told a ≡ read_told b → a ≡ b
read_told_one a b e = sym (read_back_told a) ∙ ap read_back e ∙ read_back_told b

-- no two dates are told alike
pub date_told_one : (a b : RustOption ℕ) → date_told a ≡ date_told b → a ≡ b
date_told_one a b e = sym (date_back_told a) ∙ ap date_back e ∙ date_back_told b
