-- `size_for` meets its contract: the two kinds of entry.
use Rattle.std.proofs.Common.{◌∙◌}
use Rattle.img_model.proofs.ByKind.{is_one, is_other}
use Rattle.img_table.proofs.Sizes.{directory_size, file_size}
use Rattle.img_table.proofs.size_for.Goals as goal

pub bounds-sized-value : goal.bounds-sized-value
bounds-sized-value c = c.requires (is_one _ _ c.from.ensures c.in-Directory.is)

pub returns-in-Directory : goal.returns-in-Directory
returns-in-Directory c =
    let one = is_one _ _ c.from.ensures c.in-Directory.is in
    c.from-in-Directory.ensures ∙ directory_size c.args.kind _ c.args.value one

pub returns-in-File : goal.returns-in-File
returns-in-File c = file_size _ _ _ (is_other _ _ c.from.ensures c.in-File.is)
