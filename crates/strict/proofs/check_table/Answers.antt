-- `strict::check_table` meets its contract, by what its calls ensure. Assumes nothing.
use Prim.Native.Nat.{ℕ, ◌-◌, ◌≤◌, ◌<◌}
use mathlib.Core.Path.{◌≡◌, refl, ap, ◌∙◌}
use mathlib.Core.List.{List, [], ◌∷◌, ◌++◌}
use native.Mathlib.Nat.{sub-zero}
use borrow.Author.Tests.{le-leb, lt-leb, eq-eqb, ne_eqb}
use lib.ListN.{length, take, replicate}
use Rattle.units.specs.declared.Sector.{Sector}
use Rattle.units.specs.Told.{Told}
use Rattle.units.specs.declared.Region.{Region}
use Rattle.read_entry.specs.Entry.{read_at}
use Rattle.std.specs.Prelude.{Result, Ok, Err}
use Rattle.strict_rule.specs.declared.CheckError.{CheckError}
use Rattle.strict_rule.specs.declared.CheckError.TheVariants as check_error
use Rattle.strict_rule.specs.Strict.{root, entered, strict_from, strict_of, told, strict_answer, list_after, scratch_after}
use Rattle.read_walk.specs.inner.Run.{kept_of}
use Rattle.strict.specs.inner.Run.{Runs}
use Rattle.read_walk.proofs.Kept.{count_of, cleared_list}
use Rattle.strict.proofs.Moved.{runs_moved, begins_there}
use borrow.Author.Rules.{rules}
use Rattle.strict.proofs.check_table.Goals as goal

-- what an answer keeps of the list is what it is told as giving
kept_told : (a : Result ℕ CheckError) → kept_of a ≡ count_of (told a)
kept_told (Ok n) = refl
kept_told (Err check_error.Room) = refl
kept_told (Err (check_error.Read e)) = refl
kept_told (Err check_error.WalkFull) = refl
kept_told (Err (check_error.Shared o)) = refl
kept_told (Err (check_error.OutOfOrder o)) = refl
kept_told (Err (check_error.BadPlace o)) = refl

-- the check of a table that has some size
abbrev check_of : List ℕ → Sector → Region → ℕ → Told (List ℕ)
check_of w first t room = strict_from entered w (read_at w first t) t.size room [] (root ∷ [])

-- the answer, the list and the scratch, as the contract has them
abbrev Checks : List ℕ → Sector → Region → List ℕ → List ℕ → Result ℕ CheckError → List ℕ → List ℕ → Type 0
Checks w first t list scratch r l s =
    (told r ≡ strict_answer w first t (length list) (length scratch)) × ((l ≡ list_after w first t list (length scratch)) × (s ≡ scratch_after (length list) scratch))

module _ (w : List ℕ) (first : Sector) (t : Region) (list scratch : List ℕ) where
  no_room : length scratch ≤ length list → Checks w first t list scratch (Err check_error.Room) list scratch
  unfolding strict_answer list_after scratch_after
  no_room h = (rw (le-leb _ _ h), (rw (le-leb _ _ h), rw (le-leb _ _ h)))

  module _ (room : length list < length scratch) where
    empty : t.size ≡ 0 → (l s : List ℕ) → l ≡ replicate (length list) 0 → s ≡ replicate (length scratch) 0 →
        Checks w first t list scratch (Ok 0) l s
    unfolding strict_answer list_after scratch_after strict_of
    empty z l s a b = (
      rw (lt-leb _ _ room, eq-eqb _ _ z),
      (a ∙ rw (lt-leb _ _ room, eq-eqb _ _ z, sub-zero), b ∙ rw (lt-leb _ _ room)),
    )

    ran : (t.size ≡ 0 → ⊥) → (r : Result ℕ CheckError) (l s : List ℕ) → Runs (check_of w first t (length list)) r l → (n : ℕ) → n ≡ kept_of r →
        length l ≡ length list → length s ≡ length scratch → (l₂ s₂ : List ℕ) →
        l₂ ≡ take n l ++ replicate (length l - n) 0 → s₂ ≡ replicate (length s) 0 → Checks w first t list scratch r l₂ s₂
    unfolding strict_answer list_after scratch_after strict_of
    ran z r l s runs n k p q l₂ s₂ a b = (
      rw (lt-leb _ _ room, ne_eqb _ _ z) runs.is,
      ((rw k at a) ∙ cleared_list (check_of w first t (length list)) (kept_of r) l (kept_told r ∙ ap count_of runs.is) runs.listed ∙ rw (p, lt-leb _ _ room, ne_eqb _ _ z), b ∙ rw (lt-leb _ _ room, q)),
    )

within : (x : Told (List ℕ)) (r : Result ℕ CheckError) (l : List ℕ) → Runs x r l → (n : ℕ) → n ≡ kept_of r → n ≤ length l
within x r l s n e = rw e s.within

pub returns-then-scratch-list : goal.returns-then-scratch-list
returns-then-scratch-list c =
    let t = c.args.table in
    let z = no_room t.window.now t.first t.region c.args.list.now c.args.scratch.now (search rules) in
    record { answer = z.0; list = z.1.0; scratch = z.1.1 }

pub returns-then-table-eq0 : goal.returns-then-table-eq0
returns-then-table-eq0 c =
    let t = c.args.table in
    let z = empty t.window.now t.first t.region c.args.list.now c.args.scratch.now (search rules) (search rules) _ _ c.clear.ensures c.clear-then-table-eq0.ensures in
    record { answer = z.0; list = z.1.0; scratch = z.1.1 }

pub run_sized-checked-requires : goal.run_sized-checked-requires
run_sized-checked-requires c = (begins_there c.args.table c.narrowed.result c.narrowed.ensures, search rules)

pub returns : goal.returns
returns c =
    let t = c.args.table in
    let z = ran t.window.now t.first t.region c.args.list.now c.args.scratch.now (search rules) (search rules) _ c.run_sized-checked.new.list c.run_sized-checked.new.scratch
    (runs_moved t c.narrowed.result c.if-table-eq0.false c.narrowed.ensures _ _ _ c.run_sized-checked.ensures) _ c.unwrap_or-n.ensures
    c.run_sized-checked.auto.list c.run_sized-checked.auto.scratch _ _ c.clear_from.ensures c.clear-2.ensures in
    record { answer = z.0; list = z.1.0; scratch = z.1.1 }

pub clear_from-requires : goal.clear_from-requires
clear_from-requires c = search within
