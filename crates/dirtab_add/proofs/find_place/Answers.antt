-- `find_place` meets its contract: `find_spot` looks for the name in the first count places (`found_at`).
use Rattle.dirtab_add.proofs.Ways.{found_at, name_is}
use Rattle.dirtab_add.proofs.find_place.Goals as goal

pub returns : goal.returns
returns c = let a = c.args in found_at c.names.ensures (name_is a.arena.names.now a.entry) c.find_spot.ensures
