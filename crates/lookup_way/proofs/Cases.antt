-- Off written tables, what rule one finds rule two need not find: `b` has a left link of 65,535, and `a` stands at offset 262,140, where it leads. Computed. Assumes nothing.
use Prim.Native.Nat.{ℕ}
use mathlib.Core.Path.{◌≡◌, refl}
use mathlib.Core.List.{List, [], ◌∷◌, ◌++◌}
use lib.ListN.{replicate}
use Rattle.units.specs.Told.{refuses}
use Rattle.units.specs.Region.{locate_of}
use Rattle.layout_bytes.specs.Bytes.{all}
use Rattle.layout_name.specs.Order.{raised, number_order, list_order}
use Rattle.name_role.specs.Roles.{stored_keys, sought_keys, sought_order, bad_sought}
use Rattle.layout_node.specs.Header.{header_of, is_blank}
use Rattle.read_entry.specs.Entry.{read_here, read_at, name_of}
use Rattle.read_entry.specs.Links.{is_in, absent_under}
use Rattle.read_lookup.specs.Lookup.{by_link, step_at, chain_from, lookup_by, lookup_of}
use Rattle.read_lookup.proofs.Cases.{file, filed, left_65535, look_under}

abbrev pub at_262140 : List ℕ
at_262140 = left_65535 ++ (replicate 262124 255 ++ file 0 0 35 97)

pub found_at_262140 : look_under 1 at_262140 262141 (97 ∷ []) ≡ filed 0 0 35 262140 2
unfolding lookup_of absent_under lookup_by bad_sought chain_from step_at by_link is_in read_at locate_of read_here header_of all is_blank name_of sought_order sought_keys stored_keys list_order number_order raised
found_at_262140 = refl

pub lost_at_262140 : look_under 2 at_262140 262141 (97 ∷ []) ≡ refuses 22 (1 ∷ [])
unfolding lookup_of absent_under lookup_by bad_sought chain_from step_at by_link is_in read_at locate_of read_here header_of all is_blank name_of sought_order sought_keys stored_keys list_order number_order raised
lost_at_262140 = refl
