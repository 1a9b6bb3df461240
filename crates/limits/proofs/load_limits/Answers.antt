-- `limits::load_limits` meets its contract: by the descriptor, its date and what the path leads to. Assumes nothing.
use Rattle.std.proofs.Common.{ap, ◌∙◌}
use Rattle.limits_rule.specs.declared.LimitsError.TheVariants as error
use Rattle.limits_rule.specs.Limits.{answered}
use Rattle.limits_rule.proofs.Steps.{answered_told}
use Rattle.limits.proofs.Answers.{handed_on, no_volume, not_allowed, no_entry, loaded}
use Rattle.limits.proofs.load_limits.Goals as goal

pub returns-in_err-volume : goal.returns-in_err-volume
returns-in_err-volume c =
    let told = handed_on _ error.NoVolume c.from_residual.ensures _ (no_volume _ _ _ _ _ _ c.volume_in.ensures _ c.in_err-volume.was) in
    record { answer = told; limits = ap answered told ∙ answered_told _ _ _ _ _ }

pub returns-in_err-stamp : goal.returns-in_err-stamp
returns-in_err-stamp c =
    let told = handed_on _ c.in_err-stamp.field-0.0 c.from_residual-in_err-stamp.ensures _ (not_allowed _ _ _ _ _ _ c.volume_in.ensures _ c.in_ok-volume.was _ c.in_err-stamp.ensures) in
    record { answer = told; limits = ap answered told ∙ answered_told _ _ _ _ _ }

pub returns-in_err-entry : goal.returns-in_err-entry
returns-in_err-entry c =
    let told = handed_on _ (error.Path c.in_err-entry.field-0.0) c.from_residual-in_err-entry.ensures _
    (no_entry _ _ _ _ _ _ c.volume_in.ensures _ c.in_ok-volume.was _ c.in_ok-stamp.ensures _ c.find_path_two.ensures _ c.in_err-entry.was) in
    record { answer = told; limits = ap answered told ∙ answered_told _ _ _ _ _ }

pub returns : goal.returns
returns c =
    let told = loaded _ _ _ _ _ _ c.volume_in.ensures _ c.in_ok-volume.was _ c.in_ok-stamp.ensures _ c.find_path_two.ensures _ c.in_ok-entry.was _ c.load_file.ensures in
    record { answer = told; limits = ap answered told ∙ answered_told _ _ _ _ _ }
