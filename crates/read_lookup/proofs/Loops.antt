-- Two chains that never end, and so are answered 25: by the law, since an offset is read again. Assumes nothing.
use Prim.Native.Nat.{ℕ}
use mathlib.Core.Path.{◌≡◌, refl, ◌∙◌}
use mathlib.Core.List.{List, [], ◌∷◌, ◌++◌}
use native.Mathlib.Omega.{arith}
use Rattle.units.specs.Told.{refuses}
use Rattle.units.specs.Region.{locate_of}
use Rattle.layout_bytes.specs.Bytes.{all}
use Rattle.layout_name.specs.Order.{raised, number_order, list_order}
use Rattle.name_role.specs.Roles.{stored_keys, sought_keys, sought_order, bad_sought}
use Rattle.layout_node.specs.Header.{header_of, is_blank}
use Rattle.read_entry.specs.Entry.{read_here, read_at, name_of}
use Rattle.read_entry.specs.Links.{is_in, one_absent}
use Rattle.read_lookup.specs.Lookup.{by_link, step_at}
use Rattle.read_lookup.specs.Chain.{offset_from, ReadsAgain}
use Rattle.read_lookup.proofs.Rules.{lookup_by_rule}
use Rattle.read_lookup.proofs.Laws.{again_looped}
use Rattle.read_lookup.proofs.Cases.{file, first, of_size, look}

-- an entry that points at itself: its offset is read again
abbrev itself : List ℕ
itself = file 0 4 34 97 ++ file 0 4 35 98

itself_again : ReadsAgain (step_at one_absent itself first (of_size 32) (122 ∷ [])) 0
unfolding offset_from step_at by_link is_in read_at locate_of read_here header_of all is_blank name_of sought_order sought_keys stored_keys list_order number_order raised
itself_again = record { first = 1; second = 2; later = omega arith; offset = 16; at_first = refl; at_second = refl }

pub itself_looped : look itself 32 (122 ∷ []) ≡ refuses 25 []
itself_looped = (lookup_by_rule itself first (of_size 32) (122 ∷ [])).rule_one ∙ again_looped one_absent itself first (of_size 32) (122 ∷ []) (unfold bad_sought in refl) (λ e. omega arith) itself_again

-- two entries that point at each other
abbrev each_other : List ℕ
each_other = file 0 4 34 97 ++ (file 0 8 35 98 ++ file 0 4 36 99)

each_other_again : ReadsAgain (step_at one_absent each_other first (of_size 48) (122 ∷ [])) 0
unfolding offset_from step_at by_link is_in read_at locate_of read_here header_of all is_blank name_of sought_order sought_keys stored_keys list_order number_order raised
each_other_again = record { first = 1; second = 3; later = omega arith; offset = 16; at_first = refl; at_second = refl }

pub each_other_looped : look each_other 48 (122 ∷ []) ≡ refuses 25 []
each_other_looped = (lookup_by_rule each_other first (of_size 48) (122 ∷ [])).rule_one ∙ again_looped one_absent each_other first (of_size 48) (122 ∷ []) (unfold bad_sought in refl) (λ e. omega arith) each_other_again
