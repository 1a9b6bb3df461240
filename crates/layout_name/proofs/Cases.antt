-- The scope's cases that speak of the order of names. Assumes nothing.
use Rattle.std.proofs.Common.{◌≡◌, refl, [], ◌∷◌}
use Rattle.std.specs.declared.cmp.Ordering.TheVariants.{Less, Equal}
use Rattle.layout_name.specs.Order.{number_order, list_order, order_by, raised, name_order}

-- `abb` before `a_b`: the raised B, 66, is below the underscore, 95
pub abb_a_b : name_order (97 ∷ 98 ∷ 98 ∷ []) (97 ∷ 95 ∷ 98 ∷ []) ≡ Less
unfolding name_order order_by list_order number_order raised
abb_a_b = refl

-- `abc` before `abcd`: a proper prefix is less
pub abc_abcd : name_order (97 ∷ 98 ∷ 99 ∷ []) (97 ∷ 98 ∷ 99 ∷ 100 ∷ []) ≡ Less
unfolding name_order order_by list_order number_order raised
abc_abcd = refl

-- `abb` and `ABB` are equal
pub abb_ABB : name_order (97 ∷ 98 ∷ 98 ∷ []) (65 ∷ 66 ∷ 66 ∷ []) ≡ Equal
unfolding name_order order_by list_order number_order raised
abb_ABB = refl
