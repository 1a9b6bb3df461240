-- Names by role, computed: case does not count, and what is stored is what was given. Assumes nothing.
use Rattle.std.proofs.Common.{◌≡◌, refl, true, false, [], ◌∷◌}
use Rattle.std.specs.declared.cmp.Ordering.TheVariants.{Less, Equal, Greater}
use Rattle.layout_name.specs.Order.{number_order, list_order, raised}
use Rattle.name_role.specs.Roles.{given_keys, stored_keys, sought_keys, stored_of, given_order, stored_order, sought_order, bad_sought}

-- `abb` and `ABB` are equal, given and stored
pub abb_ABB : (given_order (97 ∷ 98 ∷ 98 ∷ []) (65 ∷ 66 ∷ 66 ∷ []) ≡ Equal) × (stored_order (97 ∷ 98 ∷ 98 ∷ []) (65 ∷ 66 ∷ 66 ∷ []) ≡ Equal)
unfolding given_order stored_order given_keys stored_keys list_order number_order raised
abb_ABB = (refl, refl)

-- `abb` before `a_b`: the raised B, 66, is below the underscore, 95
pub abb_a_b : given_order (97 ∷ 98 ∷ 98 ∷ []) (97 ∷ 95 ∷ 98 ∷ []) ≡ Less
unfolding given_order given_keys list_order number_order raised
abb_a_b = refl

-- sought, `aBc` is the stored `AbC`, and after `ab`
pub sought_abc : (sought_order (97 ∷ 66 ∷ 99 ∷ []) (65 ∷ 98 ∷ 67 ∷ []) ≡ Equal) × (sought_order (97 ∷ 66 ∷ 99 ∷ []) (97 ∷ 98 ∷ []) ≡ Greater)
unfolding sought_order sought_keys stored_keys list_order number_order raised
sought_abc = (refl, refl)

-- `aB` is stored as it is given
pub stored_as_given : stored_of (97 ∷ 66 ∷ []) ≡ 97 ∷ 66 ∷ []
unfolding stored_of
stored_as_given = refl

-- a byte of 127 can be sought, one of 128 cannot
pub byte_128 : (bad_sought (97 ∷ 127 ∷ []) ≡ false) × (bad_sought (97 ∷ 128 ∷ []) ≡ true)
unfolding bad_sought
byte_128 = (refl, refl)
