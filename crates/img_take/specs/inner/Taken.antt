-- The code's columns of what is taken. Assumes nothing.
use Rattle.std.specs.Prelude.{◌≡◌, length}
use Rattle.img_model.specs.Plan as plan
use Rattle.img_take.specs.declared.Taking.{Taking}
use Rattle.img_take.specs.inner.Forward.{taking}

-- what is taken so far
abbrev pub taking_in : Taking → plan.Taking
taking_in t = taking t.tables.now t.sectors.now t.counter.next.0

-- the columns of b are as long as those of a
abbrev pub IsAsLong : Taking → Taking → Type 0
IsAsLong a b = (length b.tables.now ≡ length a.tables.now) × (length b.sectors.now ≡ length a.sectors.now)

-- both lend the same columns
abbrev pub IsSame : Taking → Taking → Type 0
IsSame a b = (a.tables.ghost_name ≡ b.tables.ghost_name) × (a.sectors.ghost_name ≡ b.sectors.ghost_name)
