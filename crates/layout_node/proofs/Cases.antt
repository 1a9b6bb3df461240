-- The scope's cases that speak of an entry's length. Assumes nothing.
use Rattle.std.proofs.Common.{◌≡◌, refl}
use Rattle.layout_node.specs.Header.{entry_length}

-- a name of 255 bytes: the entry's length is 272
pub length_255 : entry_length 255 ≡ 272
length_255 = refl

-- a name of two bytes: 16
pub length_2 : entry_length 2 ≡ 16
length_2 = refl
