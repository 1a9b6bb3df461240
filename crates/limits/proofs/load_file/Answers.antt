-- `limits::load_file` meets its contract: its test is the definition's. Assumes nothing.
use Rattle.limits.proofs.Answers.{directory, file}
use Rattle.limits.proofs.load_file.Goals as goal

pub returns-then-is_directory : goal.returns-then-is_directory
returns-then-is_directory c = search directory

pub returns : goal.returns
returns c = search file
