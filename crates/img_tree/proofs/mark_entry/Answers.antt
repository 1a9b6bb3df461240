-- `mark_entry` meets its contract.
use Rattle.img_model.proofs.ByKind.{is_one, is_other}
use Rattle.img_tree.proofs.OneMark.{of_directory_lem, of_file}
use Rattle.img_tree.proofs.mark_entry.Goals as goal

pub returns-in-Directory : goal.returns-in-Directory
returns-in-Directory c =
    of_directory_lem _ _ _ _ _ _ (is_one _ _ c.from.ensures c.in-Directory.is) c.mark.ensures.0 c.mark.ensures.1

pub returns-in-File : goal.returns-in-File
returns-in-File c = of_file _ _ _ _ (is_other _ _ c.from.ensures c.in-File.is)
