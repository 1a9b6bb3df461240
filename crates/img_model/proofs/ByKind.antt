-- What the kind of an entry says of the number in its column. Assumes nothing.
use Rattle.std.proofs.Common.{ℕ, ◌≡◌, Bool, true, false, eqb, refl, sym, ◌∙◌}
use Rattle.units.specs.Told.{pick}
use Rattle.dirtab_entry.specs.declared.Kind.{Kind}
use Rattle.dirtab_entry.specs.declared.Kind.TheVariants.{File, Directory}
use Rattle.dirtab_entry.specs.Entry.{kind_for}

directory_by : (b : Bool) → Directory ≡ pick b Directory File → b ≡ true
directory_by true e = refl
directory_by false e = cc

file_by : (b : Bool) → File ≡ pick b Directory File → b ≡ false
file_by true e = cc
file_by false e = refl

-- 1 is a directory's, any other a file's
pub is_one : (n : ℕ) (kind : Kind) → kind ≡ kind_for n → kind ≡ Directory → eqb n 1 ≡ true
is_one n kind e d = directory_by (eqb n 1) (sym d ∙ e)

pub is_other : (n : ℕ) (kind : Kind) → kind ≡ kind_for n → kind ≡ File → eqb n 1 ≡ false
is_other n kind e f = file_by (eqb n 1) (sym f ∙ e)
