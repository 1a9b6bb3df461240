-- What the number of a cause carries. Assumes nothing.
use Rattle.std.proofs.Common.{◌≡◌, refl, true, false}
use Rattle.read_entry.specs.Links.{is_in}
use Rattle.dirtab_entry.specs.declared.Cause.{Cause}
use Rattle.dirtab_entry.specs.Entry as given
use Rattle.dirtab_entry.proofs.Told.{each_number}
use Rattle.capi_written.specs.Parts.{of_entry, of_planned, of_directory}

-- every cause's number carries an entry, in a list and in a plan, and none a directory
pub cause_listed : (c : Cause) → is_in (given.cause_number c) of_entry ≡ true
unfolding is_in
cause_listed = each_number (λ k. is_in k of_entry ≡ true) refl refl refl refl refl refl

pub cause_planned : (c : Cause) → is_in (given.cause_number c) of_planned ≡ true
unfolding is_in
cause_planned = each_number (λ k. is_in k of_planned ≡ true) refl refl refl refl refl refl

pub cause_no_directory : (c : Cause) → is_in (given.cause_number c) of_directory ≡ false
unfolding is_in
cause_no_directory = each_number (λ k. is_in k of_directory ≡ false) refl refl refl refl refl refl

-- what a plan's answer needs of them
pub ruleset causes_of_plan = (cause_planned, cause_no_directory)
