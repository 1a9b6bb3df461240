-- A path's refusal keeps its number. Assumes nothing.
use Rattle.std.proofs.Common.{◌≡◌, refl, Err}
use Rattle.units.specs.Told.{number_of}
use Rattle.read_entry.specs.declared.ReadError.TheVariants as read_error
use Rattle.read_path.specs.declared.PathError.{PathError}
use Rattle.read_path.specs.declared.PathError.TheVariants as path_error
use Rattle.read_path.specs.Path as following
use Rattle.limits_rule.specs.Limits.{refused_path}

pub same_number : (e : PathError) → number_of (following.told (Err e)) ≡ number_of (refused_path e)
same_number path_error.BadRule = refl
same_number path_error.BadByte = refl
same_number path_error.DirectoryEmpty = refl
same_number path_error.DoesNotExist = refl
same_number (path_error.Read (read_error.OutOfBounds o)) = refl
same_number (path_error.Read (read_error.Truncated o)) = refl
same_number path_error.Looped = refl
same_number path_error.IsNotDirectory = refl
same_number path_error.NoDirent = refl
