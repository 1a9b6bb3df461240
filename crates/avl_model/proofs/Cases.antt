-- The worked cases of trees: three names in two orders, and a name that differs by case alone.
use Rattle.std.proofs.Common.{◌≡◌, refl, [], ◌∷◌, map}
use Rattle.layout_name.specs.Order.{list_order, number_order, raised}
use Rattle.name_role.specs.Roles.{given_keys, given_order}
use Rattle.avl_model.specs.declared.Place.TheVariants.{Root}
use Rattle.avl_model.specs.declared.Spot.TheVariants.{Same}
use Rattle.avl_model.specs.Tree.{bal}
use Rattle.avl_model.specs.Order.{order}
use Rattle.avl_model.specs.Names.{Names, names_in, name_at, to_name}
use Rattle.avl_model.specs.inner.Names.{grown}
use Rattle.avl_model.specs.Seek.{spot_in}

-- `a` is 97, `b` 98, `c` 99
abbrev abc : Names
abc = names_in (97 ∷ 98 ∷ 99 ∷ []) (0 ∷ 1 ∷ 2 ∷ []) (1 ∷ 1 ∷ 1 ∷ [])

abbrev cab : Names
cab = names_in (99 ∷ 97 ∷ 98 ∷ []) (0 ∷ 1 ∷ 2 ∷ []) (1 ∷ 1 ∷ 1 ∷ [])

-- `abb`
abbrev abb : Names
abb = names_in (97 ∷ 98 ∷ 98 ∷ []) (0 ∷ []) (3 ∷ [])

-- `a`, `b`, `c`, put in in that order, have the preorder b, a, c
pub a_b_c : map (name_at abc) (order (grown abc 3)) ≡ (98 ∷ []) ∷ (97 ∷ []) ∷ (99 ∷ []) ∷ []
unfolding to_name given_order given_keys list_order number_order raised bal
a_b_c = refl

-- `c`, `a`, `b` have the same preorder
pub c_a_b : map (name_at cab) (order (grown cab 3)) ≡ (98 ∷ []) ∷ (97 ∷ []) ∷ (99 ∷ []) ∷ []
unfolding to_name given_order given_keys list_order number_order raised bal
c_a_b = refl

-- after `abb`, `ABB` is found to be there, at the first
pub abb_ABB : spot_in (to_name abb (65 ∷ 66 ∷ 66 ∷ [])) (grown abb 1) Root ≡ Same 0
unfolding to_name given_order given_keys list_order number_order raised bal
abb_ABB = refl
