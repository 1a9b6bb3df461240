-- `any_bad` meets its contract: what is told of the bytes looked at, and of one byte more (`bad_so_far`).
use Rattle.std.proofs.Common.{rules}
use Rattle.std.proofs.lemmas.Iterator.{YieldsList-from_slice}
use Rattle.std.proofs.lemmas.Iterator.Consumers.{fold_from_yields_List}
use Rattle.dirtab_entry.proofs.Bad.{either, is_any_bad}
use Rattle.dirtab_entry.proofs.any_bad.Goals as goal

pub returns : goal.returns
returns c = is_any_bad _ _ (fold_from_yields_List _ either _ _ c.fold.ensures.ran (YieldsList-from_slice c.args.s.now (search rules)) (λ a x b q k. search rules))
