-- `read_walk::walk` meets its contract, by what its calls ensure. Assumes nothing.
use Prim.Native.Nat.{ℕ, ◌-◌, ◌≤◌, ◌<◌}
use mathlib.Core.Path.{◌≡◌, ap, ◌∙◌}
use mathlib.Core.List.{List, [], ◌∷◌, ◌++◌}
use native.Mathlib.Nat.{sub-zero}
use borrow.Author.Tests.{le-leb, lt-leb, eq-eqb, ne_eqb}
use lib.ListN.{length, take, replicate}
use Rattle.units.specs.declared.Sector.{Sector}
use Rattle.units.specs.Told.{Told}
use Rattle.units.specs.declared.Region.{Region}
use Rattle.std.specs.Prelude.{Result, Ok, Err}
use Rattle.read_walk.specs.declared.WalkError.{WalkError}
use Rattle.read_walk.specs.declared.WalkError.TheVariants as walk_error
use Rattle.read_walk.specs.Walk.{walk_of, told, walk_answer, list_after, scratch_after}
use Rattle.read_walk.specs.inner.Run.{kept_of, Runs}
use Rattle.read_walk.proofs.Turn.{walk_on}
use Rattle.read_walk.proofs.Kept.{count_of, kept_told, cleared_list}
use Rattle.read_walk.proofs.Moved.{runs_moved}
use borrow.Author.Rules.{rules}
use Rattle.read_walk.proofs.walk.Goals as goal

-- the answer, the list and the scratch, as the contract has them
abbrev Walks : List ℕ → Sector → Region → List ℕ → List ℕ → Result ℕ WalkError → List ℕ → List ℕ → Type 0
Walks w first t list scratch r l s =
    (told r ≡ walk_answer w first t (length list) (length scratch)) × ((l ≡ list_after w first t list (length scratch)) × (s ≡ scratch_after (length list) scratch))

module _ (w : List ℕ) (first : Sector) (t : Region) (list scratch : List ℕ) where
  no_room : length scratch ≤ length list → Walks w first t list scratch (Err walk_error.Room) list scratch
  unfolding walk_answer list_after scratch_after
  no_room h = (rw (le-leb _ _ h), (rw (le-leb _ _ h), rw (le-leb _ _ h)))

  module _ (room : length list < length scratch) where
    empty : t.size ≡ 0 → (l s : List ℕ) → l ≡ replicate (length list) 0 → s ≡ replicate (length scratch) 0 →
        Walks w first t list scratch (Ok 0) l s
    unfolding walk_answer list_after scratch_after walk_of
    empty z l s a b = (
      rw (lt-leb _ _ room, eq-eqb _ _ z),
      (a ∙ rw (lt-leb _ _ room, eq-eqb _ _ z, sub-zero), b ∙ rw (lt-leb _ _ room)),
    )

    ran : (t.size ≡ 0 → ⊥) → (r : Result ℕ WalkError) (l s : List ℕ) → Runs (walk_on w first t (length list) (0 ∷ [])) r l → (n : ℕ) → n ≡ kept_of r →
        length l ≡ length list → length s ≡ length scratch → (l₂ s₂ : List ℕ) →
        l₂ ≡ take n l ++ replicate (length l - n) 0 → s₂ ≡ replicate (length s) 0 → Walks w first t list scratch r l₂ s₂
    unfolding walk_answer list_after scratch_after walk_of
    ran z r l s runs n k p q l₂ s₂ a b = (
      rw (lt-leb _ _ room, ne_eqb _ _ z) runs.is,
      ((rw k at a) ∙ cleared_list (walk_on w first t (length list) (0 ∷ [])) (kept_of r) l (kept_told r ∙ ap count_of runs.is) runs.listed ∙ rw (p, lt-leb _ _ room, ne_eqb _ _ z), b ∙ rw (lt-leb _ _ room, q)),
    )

within : (x : Told (List ℕ)) (r : Result ℕ WalkError) (l : List ℕ) → Runs x r l → (n : ℕ) → n ≡ kept_of r → n ≤ length l
within x r l s n e = rw e s.within

pub returns-then-scratch-list : goal.returns-then-scratch-list
returns-then-scratch-list c =
    let t = c.args.table in
    let z = no_room t.window.now t.first t.region c.args.list.now c.args.scratch.now (search rules) in
    record { answer = z.0; list = z.1.0; scratch = z.1.1 }

pub returns-then-table-eq0 : goal.returns-then-table-eq0
returns-then-table-eq0 c =
    let t = c.args.table in
    let z = empty t.window.now t.first t.region c.args.list.now c.args.scratch.now (search rules) (search rules) _ _ c.clear.ensures c.clear-then-table-eq0.ensures in
    record { answer = z.0; list = z.1.0; scratch = z.1.1 }

pub returns : goal.returns
returns c =
    let t = c.args.table in
    let z = ran t.window.now t.first t.region c.args.list.now c.args.scratch.now (search rules) (search rules) _ c.run-walked.new.list c.run-walked.new.scratch
    (runs_moved t c.narrowed.result c.if-table-eq0.false c.narrowed.ensures _ _ _ c.run-walked.ensures) _ c.unwrap_or-n.ensures
    c.run-walked.auto.list c.run-walked.auto.scratch _ _ c.clear_from.ensures c.clear-2.ensures in
    record { answer = z.0; list = z.1.0; scratch = z.1.1 }

pub clear_from-requires : goal.clear_from-requires
clear_from-requires c = search within
