-- An entry as it is given: what adding asks of it by itself, 1, 2, 3, 5 in that order, and the size that it is
-- stored with. Assumes nothing.
use Rattle.std.specs.Prelude.{ℕ, ◌+◌, ◌*◌, ◌/◌, Bool, true, false, List, [], ◌∷◌, ltb, eqb, length, take, drop}
use Rattle.std.specs.Prelude.{Result, Ok, Err}
use Rattle.units.specs.Told.{Told, gives, refuses, pick}
use Rattle.dirtab_entry.specs.declared.Kind.{Kind}
use Rattle.dirtab_entry.specs.declared.Kind.TheVariants.{File, Directory}
use Rattle.dirtab_entry.specs.declared.Entry.{Entry}
use Rattle.dirtab_entry.specs.declared.Cause.{Cause}
use Rattle.dirtab_entry.specs.declared.Cause.TheVariants.{
  EmptyName,
  BadByte,
  NameTooLong,
  SizeOverflow,
  DuplicateFileName,
  Room,
}

-- the kind that a column's number says: 1 is a directory, any other a file
abbrev pub kind_for : ℕ → Kind
kind_for n = pick (eqb n 1) Directory File

-- the number of a kind in its column
abbrev pub kind_number : Kind → ℕ
kind_number File = 0
kind_number Directory = 1

abbrev pub is_directory : Kind → Bool
is_directory File = false
is_directory Directory = true

-- up to a multiple of 2,048
abbrev pub rounded : ℕ → ℕ
rounded n = (n + 2047) / 2048 * 2048

-- a directory's size is rounded up to a multiple of 2,048, a file's is not
abbrev pub stored_size : Kind → ℕ → ℕ
stored_size File n = n
stored_size Directory n = rounded n

-- a byte that no name has: 0, or above 127
abbrev pub is_bad : ℕ → Bool
is_bad x = pick (eqb x 0) true (ltb 127 x)

-- some byte is bad
unfoldable pub any_bad : List ℕ → Bool
any_bad [] = false
any_bad (x ∷ xs) = pick (is_bad x) true (any_bad xs)

-- the name at a place of the bytes lent for names
abbrev pub name_in : List ℕ → Entry → List ℕ
name_in names e = take e.len (drop e.start names)

-- of the name: 1 empty; 2 a place that reaches past the bytes lent, or a bad byte; 3 more than 255 bytes
abbrev pub check_name : List ℕ → Entry → Told (Unit {0})
check_name names e =
    pick (eqb e.len 0) (refuses 1 [])
    (pick (ltb (length names) (e.start + e.len)) (refuses 2 [])
    (pick (any_bad (name_in names e)) (refuses 2 [])
    (pick (ltb 255 e.len) (refuses 3 [])
    (gives tt))))

-- of the size: 5 a directory's above 4,294,965,248
abbrev pub check_size : Entry → Told (Unit {0})
check_size e =
    pick (pick (is_directory e.kind) (ltb 4294965248 e.size) false) (refuses 5 []) (gives tt)

-- the next check, where one refuses nothing
abbrev pub if_passed : Told (Unit {0}) → Told (Unit {0}) → Told (Unit {0})
if_passed (gives u) next = next
if_passed (refuses k vs) next = refuses k vs

-- of the entry: the two in turn
unfoldable pub check_of : List ℕ → Entry → Told (Unit {0})
check_of names e = if_passed (check_name names e) (check_size e)

-- the number of a cause
abbrev pub cause_number : Cause → ℕ
cause_number EmptyName = 1
cause_number BadByte = 2
cause_number NameTooLong = 3
cause_number DuplicateFileName = 4
cause_number SizeOverflow = 5
cause_number Room = 6

-- what each answer stands for
abbrev pub told : Result (Unit {0}) Cause → Told (Unit {0})
told (Ok u) = gives tt
told (Err c) = refuses (cause_number c) []
