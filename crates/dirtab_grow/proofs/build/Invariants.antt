-- `build`'s loop: the columns keep their lengths, their first i places hold the tree of the first i entries, and that tree
-- with the entries that are left makes the whole (`Building`).
use Rattle.std.proofs.Common.{◌≡◌, true, length}
use Rattle.avl_model.specs.Lent.{names_of, lists_of, IsSame}
use Rattle.dirtab_grow.specs.Listing.{listing_of}
use Rattle.dirtab_grow.specs.inner.Growing.{KeepsLengths}
use Rattle.dirtab_grow.proofs.Turn.{Building}
use Rattle.dirtab_grow.proofs.Rightmost.{Rightmost}
use Rattle.dirtab_grow.proofs.build.Given as goal

abbrev pub invariant-loop-i : goal.invariant-loop-i
invariant-loop-i l = record {
  same : IsSame l.fn.links l.links;
  lengths : KeepsLengths (lists_of l.fn.links) (lists_of l.links);
  key_length : length l.key ≡ length l.fn.key;
  built : (b : Building (listing_of l.count l.entries) (lists_of l.links) l.key l.i-counter) × (l.up ≡ true → Rightmost (names_of l.entries.names) b.t l.i-counter);
}
