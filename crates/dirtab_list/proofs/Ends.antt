-- The ways out of writing a list. Assumes nothing.
use Rattle.std.proofs.Common.{ℕ, ◌≡◌, sym, ap, ◌∙◌, List, length, Result, Err, IsErrAnd}
use Rattle.std.proofs.lemmas.Result.{err_from_is_err_and}
use Rattle.units.specs.Told.{Told, gives, refuses}
use Rattle.avl_model.specs.Tree.{Tree}
use Rattle.table_model.specs.Table.{Placing, place_of, table_bytes}
use Rattle.dirtab.specs.Serialise.{if_fits, if_written}
use Rattle.dirtab.specs.inner.Steps.{writing_of, writing_out}
use Rattle.dirtab_grow.specs.Listing.{Listing, given_in}
use Rattle.dirtab_grow.specs.Grow.{grow}
use Rattle.dirtab.specs.declared.Written.{Written}
use Rattle.dirtab_list.specs.declared.ListError.{ListError}
use Rattle.dirtab_list.specs.Whole.{entry_in, if_grown, table_for, told}
use Rattle.dirtab_list.specs.inner.Steps.{answer_of, output_of}

-- what a `?` makes of a refusal
pub told_refused : (r : Result Written ListError) (e : ListError) → IsErrAnd r (λ x. x ≡ e) → told r ≡ told (Err e)
told_refused r e h = let w = err_from_is_err_and r h in ap told (w.1 ∙ ap (λ (x : ListError). Err x) w.2)

module _ (L : Listing) (s : ℕ) (out : List ℕ) where
  abbrev g : Told Tree
  g = grow L.bytes (given_in L) L.count

  abbrev next : Tree → Told Placing
  next t = if_fits (length out) (place_of (entry_in L) 1 s t)

  abbrev table : Tree → List ℕ
  table t = table_bytes (entry_in L) 1 s t

  -- an entry is refused
  pub refused_answer : {k : ℕ} {vs : List ℕ} → g ≡ refuses k vs → refuses k vs ≡ answer_of L s (length out)
  unfolding answer_of
  refused_answer e = sym (ap (λ (x : Told Tree). if_grown x next) e)

  pub refused_out : {k : ℕ} {vs : List ℕ} → g ≡ refuses k vs → out ≡ output_of L s out
  unfolding output_of
  refused_out e = ap (λ (x : Told Placing). if_written x (table_for g table) out) (refused_answer e)

  -- the tree is there
  pub written_answer : {t : Tree} → g ≡ gives t → writing_of (entry_in L) s t (length out) ≡ answer_of L s (length out)
  unfolding answer_of
  written_answer e = sym (ap (λ (x : Told Tree). if_grown x next) e)

  pub written_out : {t : Tree} → g ≡ gives t → writing_out (entry_in L) s t out ≡ output_of L s out
  unfolding output_of
  written_out {t} e =
      ap (λ (x : Told Placing). if_written x (table t) out) (written_answer e)
      ∙ ap (λ (x : Told Tree). if_written (answer_of L s (length out)) (table_for x table) out) (sym e)
