-- `shortest` meets its contract: the lesser lengths one after another make the least of all.
use Rattle.std.proofs.Common.{refl}
use Rattle.dirtab_list.proofs.Room.{min_assoc}
use Rattle.dirtab_list.proofs.ListScratch.shortest.Goals as goal

pub returns : goal.returns
returns c = rw (c.min-6.ensures, c.min-5.ensures, c.min-4.ensures, c.min-3.ensures, c.min-2.ensures, c.min.ensures) (simp min_assoc refl)
