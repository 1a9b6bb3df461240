-- `read_path::find_path_by` meets its contract: each return of a turn is what the parts of the rest lead to. Assumes nothing.
use Rattle.std.proofs.Common.{◌≡◌, ℕ, ◌+◌, ◌-◌, ◌≤◌, ◌<◌, Bool, true, false, List, [], ◌∷◌, length, drop, length-drop, refl, sym, ap, ◌∙◌, arith, Result, Ok, Err}
use Rattle.std.proofs.Math.Seq.{take_all}
use Rattle.std.specs.Result.{IsErrAnd}
use borrow.Author.Tests.{eqb-true, eqb-false}
use Rattle.units.specs.Told.{Told, gives, refuses}
use Rattle.units.specs.declared.Sector.{Sector}
use Rattle.units.specs.declared.Region.{Region}
use Rattle.name_role.specs.Roles.{bad_sought}
use Rattle.layout_node.specs.Header.{is_directory}
use Rattle.read_entry.specs.Entry.{Placed}
use Rattle.read_lookup.specs.declared.Found.{Found}
use Rattle.read_lookup.specs.declared.LookupError.{LookupError}
use Rattle.read_lookup.specs.declared.LookupError.TheVariants as error
use Rattle.read_lookup.specs.Lookup as lookup
use Rattle.read_path.specs.declared.PathError.{PathError}
use Rattle.read_path.specs.Path.{trim, split, unended, last_of, turn_of, onward, parts_from, path_by, told}
use Rattle.read_path.proofs.Parts.{at_end, last, went, refused}
use Rattle.read_path.proofs.find_path_by.Goals as goal

module _ (w : List ℕ) (first : Sector) (t : Region) (path : List ℕ) (absent : ℕ) where
  bad : true ≡ bad_sought path → refuses 2 [] ≡ path_by (0 ∷ absent ∷ []) w first t path
  unfolding path_by
  bad e = rw (← e)

  begins : false ≡ bad_sought path → (rest : List ℕ) → rest ≡ trim path → path_by (0 ∷ absent ∷ []) w first t path ≡ parts_from (0 ∷ absent ∷ []) w first t (unended (split rest))
  unfolding path_by
  begins e rest is = rw (← e, is)

pub returns-then-is_bad_sought : goal.returns-then-is_bad_sought
returns-then-is_bad_sought c = bad _ _ _ _ _ c.if-is_bad_sought.ensures

pub loop-table-init : goal.loop-table-init
loop-table-init c = begins _ _ _ _ _ c.if-is_bad_sought.ensures _ c.trimmed-rest.ensures

-- a refusal of a part's lookup is no table to go into
stays : (e : LookupError) (next : Region → Told Placed) → onward (turn_of (lookup.told (Err e))) next ≡ last_of (lookup.told (Err e))
stays error.BadRule next = refl
stays error.BadByte next = refl
stays error.DirectoryEmpty next = refl
stays (error.DoesNotExist n) next = refl
stays (error.Read e) next = refl
stays error.Looped next = refl

told_as : (r : Result Placed PathError) (x y : Told Placed) → IsErrAnd r (λ v. told (Err v) ≡ y) → x ≡ y → told r ≡ x
told_as (Ok p) x y is e = elim is [ ]
told_as (Err v) x y is e = is ∙ sym e

same_region : (t : Region) (s : Sector) (n : ℕ) → (t.sector.0 ≡ s.0) × (t.size ≡ n) → record { sector = s; size = n } ≡ t
same_region t s n (at, long) = sym (ap (λ (i : ℕ). let r : Region = record { sector = record { 0 = i }; size = t.size } in r) at ∙ ap (λ (i : ℕ). let r : Region = record { sector = s; size = i } in r) long)

-- an entry before the last part
module _ (x : Told Placed) (f : Found) (next : Region → Told Placed) (leads : x ≡ onward (turn_of (lookup.told (Ok f))) next) where
  file : false ≡ is_directory f.entry.header → refuses 27 [] ≡ x
  file e = sym (leads ∙ rw (← e))

  directory : true ≡ is_directory f.entry.header → (t : Region) → (t.sector.0 ≡ f.entry.header.sector.0) × (t.size ≡ f.entry.header.size) → x ≡ next t
  directory e t is = leads ∙ rw (← e) (ap next (same_region t _ _ is))

pub returns-in_err-entry : goal.returns-in_err-entry
returns-in_err-entry c =
    told_as _ _ _ c.from_residual.ensures.1
    (refused _ _ _ _ _ _ c.loop-table.invariant (eqb-false _ _ (sym c.loop-table-test.ensures)) _ c.part_len.ensures.len _ _ c.split_at.ensures.front c.split_at.ensures.back c.split_at.ensures.back_len _ c.in_err-entry.ensures
    (stays c.in_err-entry.field-0.0))

pub returns-then-after-le1 : goal.returns-then-after-le1
returns-then-after-le1 c =
    sym (last _ _ _ _ _ _ c.loop-table.invariant (eqb-false _ _ (sym c.loop-table-test.ensures)) _ c.part_len.ensures.len _ _ c.split_at.ensures.front c.split_at.ensures.back c.split_at.ensures.back_len _ c.in_ok-entry.ensures
    c.if-after-le1.true)

pub returns-then-not-is_directory : goal.returns-then-not-is_directory
returns-then-not-is_directory c =
    file _ c.in_ok-entry.field-0 _
    (went _ _ _ _ _ _ c.loop-table.invariant (eqb-false _ _ (sym c.loop-table-test.ensures)) _ c.part_len.ensures.len _ _ c.split_at.ensures.front c.split_at.ensures.back c.split_at.ensures.back_len _ c.in_ok-entry.ensures
    c.if-after-le1.false (drop 1 c.split_at.result.1.now) refl)
    c.if-not-is_directory.ensures

pub loop-table-preserved : goal.loop-table-preserved
loop-table-preserved c =
    directory _ c.in_ok-entry.field-0 _
    (went _ _ _ _ _ _ c.loop-table.invariant (eqb-false _ _ (sym c.loop-table-test.ensures)) _ c.part_len.ensures.len _ _ c.split_at.ensures.front c.split_at.ensures.back c.split_at.ensures.back_len _ c.in_ok-entry.ensures
    c.if-after-le1.false _ (take_all _ _ (simp length-drop (omega arith))))
    c.if-not-is_directory.ensures _ c.region-table.ensures

pub returns : goal.returns
returns c = at_end _ _ _ _ _ _ c.loop-table.invariant (let h = eqb-true _ _ (sym c.loop-table-test.ensures) in omega arith)
