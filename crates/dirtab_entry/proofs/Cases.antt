-- The scope's cases that speak of one entry as it is given. Assumes nothing.
use Rattle.std.proofs.Common.{ℕ, ◌+◌, ◌≤◌, ◌<◌, ◌≡◌, refl, sym, ap, ◌∙◌, false, List, [], arith, length, take, drop, ne_eqb, le-ltb}
use Rattle.std.proofs.Math.Seq.{take-length}
use Rattle.units.specs.Told.{gives, refuses}
use Rattle.dirtab_entry.specs.declared.Kind.{Kind}
use Rattle.dirtab_entry.specs.declared.Kind.TheVariants.{File, Directory}
use Rattle.dirtab_entry.specs.Entry.{any_bad, stored_size, check_of}

-- a directory's size of 2,049 is stored as 4,096
pub directory_2049 : stored_size Directory 2049 ≡ 4096
directory_2049 = refl

-- a directory's size of 4,294,965,248 stays
pub directory_4294965248 : stored_size Directory 4294965248 ≡ 4294965248
directory_4294965248 = refl

-- a file's size of 2,049 stays
pub file_2049 : stored_size File 2049 ≡ 2049
file_2049 = refl

-- every name of 256 bytes, each of them good, is refused 3
pub name_256 : (names : List ℕ) (kind : Kind) (size : ℕ) → length names ≡ 256 → any_bad names ≡ false
    → check_of names (record { start = 0; len = 256; kind = kind; size = size }) ≡ refuses 3 []
unfolding check_of
name_256 names kind size long good =
    let whole : take 256 names ≡ names = ap (λ (n : ℕ). take n names) (sym long) ∙ take-length names in
    let bad : any_bad (take 256 names) ≡ false = ap any_bad whole ∙ good in
    simp (long, bad)

-- any good name
module _ (names : List ℕ) (start len : ℕ) (some : 0 < len) (short : len ≤ 255) (inside : start + len ≤ length names) (good : any_bad (take len (drop start names)) ≡ false) where
  -- is taken with a directory's size of 4,294,965,248
  pub directory_taken : check_of names (record { start = start; len = len; kind = Directory; size = 4294965248 }) ≡ gives tt
  unfolding check_of
  directory_taken = simp (ne_eqb len 0 (λ e. omega arith), le-ltb _ _ inside, good, le-ltb _ _ short)

  -- and with 4,294,965,249 is refused 5
  pub directory_refused : check_of names (record { start = start; len = len; kind = Directory; size = 4294965249 }) ≡ refuses 5 []
  unfolding check_of
  directory_refused = simp (ne_eqb len 0 (λ e. omega arith), le-ltb _ _ inside, good, le-ltb _ _ short)

  -- while a file of any size is taken
  pub file_taken : (size : ℕ) → check_of names (record { start = start; len = len; kind = File; size = size }) ≡ gives tt
  unfolding check_of
  file_taken size = simp (ne_eqb len 0 (λ e. omega arith), le-ltb _ _ inside, good, le-ltb _ _ short)
