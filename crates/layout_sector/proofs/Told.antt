-- What an answer stands for is one-to-one: no two answers are told alike. Assumes nothing.
use Rattle.std.proofs.Common.{◌≡◌, refl, sym, ap, ◌∙◌}
use Rattle.units.specs.Told.{Told, gives, refuses}
use Rattle.units.specs.declared.Sector.{Sector}
use Rattle.layout_sector.specs.declared.SectorCounter.{SectorCounter}
use Rattle.layout_sector.specs.declared.SectorOverflow.{SectorOverflow}
use Rattle.std.specs.Prelude.{Result, Ok, Err}
use Rattle.layout_sector.specs.Counter.{Run, told}

-- the answer again from what is told of it
back : Told Run → Result (Sector × SectorCounter) SectorOverflow
back (gives r) = Ok (record { 0 = r.start }, record { next = record { 0 = r.free } })
back (refuses k vs) = Err (record {})

back-told : (a : Result (Sector × SectorCounter) SectorOverflow) → back (told a) ≡ a
unfolding back
back-told (Ok p) = refl
back-told (Err e) = refl

-- no two answers of a taking are told alike
pub told_one : (a b : Result (Sector × SectorCounter) SectorOverflow) → told a ≡ told b → a ≡ b
told_one a b e = sym (back-told a) ∙ ap back e ∙ back-told b
