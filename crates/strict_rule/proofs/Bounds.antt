-- The bounds of a visit, and what they say of a name. Assumes nothing.
--     is_less_says                                      an order that is less
--     under_says, over_says, is_under_lem, is_over_lem          the bound of one entry
--     every_more                                        a test that holds at every offset
--     order_says                                        the bounds of a visit, on both sides
--     left_says, is_left, right_says, is_right          those of a child: its parent's, and the parent
--     Asked                                             what a visit asks of all that is reached from an offset
use Prim.Native.Nat.{ℕ}
use mathlib.Core.Path.{◌≡◌, refl, sym, ap, ap₂, ◌∙◌}
use mathlib.Core.Bool.{Bool, true, ◌&&◌, and-eq-true_iff}
use mathlib.Core.List.{List, [], ◌∷◌}
use mathlib.Core.Option.{Option, some}
use native.Mathlib.Omega.{arith}
use Rattle.units.specs.Told.{Told, gives}
use Rattle.std.specs.declared.cmp.Ordering.{Ordering}
use Rattle.std.specs.declared.cmp.Ordering.TheVariants.{Less, Equal, Greater}
use Rattle.name_role.specs.Roles.{stored_order}
use Rattle.read_entry.specs.declared.Placed.{Placed}
use Rattle.strict_rule.specs.Strict.{Visit, visit_left, visit_right, name_in, name_by, is_less, is_under, is_over, every, ordered}
use Rattle.strict_rule.specs.Accepts.{Reach}
use Rattle.strict_rule.proofs.Clear.{both_first, both_second}

-- an order that is less
pub is_less_says : (o : Ordering) → is_less o ≡ true → o ≡ Less
is_less_says Less e = refl
is_less_says Equal e = let z : ◌≡◌ {A = ℕ} 0 1 = cc in absurd (omega arith)
is_less_says Greater e = let z : ◌≡◌ {A = ℕ} 0 1 = cc in absurd (omega arith)

-- two tests, each as much as another
both_more : (a b c d : Bool) → (a ≡ true → c ≡ true) → (b ≡ true → d ≡ true) → (a && b) ≡ true → (c && d) ≡ true
both_more a b c d f g h = ap₂ ◌&&◌ (f (both_first a b h)) (g (both_second a b h))

-- what holds wherever another test does holds at every offset where that one does
pub every_more : (p q : ℕ → Bool) (os : List ℕ) → ((o : ℕ) → p o ≡ true → q o ≡ true) → every p os ≡ true → every q os ≡ true
unfolding every
every_more p q [] f h = refl
every_more p q (o ∷ os) f h = both_more (p o) (every p os) (q o) (every q os) (f o) (every_more p q os f) h

module _ (w : List ℕ) (f : ℕ → Told (Option Placed)) where
  -- the bound of the entry x at an offset
  module _ (o : ℕ) (x : Placed) (there : f o ≡ gives (some x)) (name : List ℕ) where
    its_name : name_by w (f o) ≡ name_in w x
    its_name = ap (name_by w) there

    pub is_under_lem : stored_order name (name_in w x) ≡ Less → is_under w f name o ≡ true
    is_under_lem e = ap (λ (n : List ℕ). is_less (stored_order name n)) its_name ∙ ap is_less e

    pub under_says : is_under w f name o ≡ true → stored_order name (name_in w x) ≡ Less
    under_says h = is_less_says _ (ap (λ (n : List ℕ). is_less (stored_order name n)) (sym its_name) ∙ h)

    pub is_over_lem : stored_order (name_in w x) name ≡ Less → is_over w f name o ≡ true
    is_over_lem e = ap (λ (n : List ℕ). is_less (stored_order n name)) its_name ∙ ap is_less e

    pub over_says : is_over w f name o ≡ true → stored_order (name_in w x) name ≡ Less
    over_says h = is_less_says _ (ap (λ (n : List ℕ). is_less (stored_order n name)) (sym its_name) ∙ h)

  -- what a visit asks: its bounds on both sides
  pub order_says : (v : Visit) (name : List ℕ) → ordered w f v name ≡ true
      → (every (is_under w f name) v.under ≡ true) × (every (is_over w f name) v.over ≡ true)
  unfolding ordered
  order_says v name h = (and-eq-true_iff _ _).0 h

  -- what a child's visit asks: the bound of the parent, and what the parent's visit asks
  module _ (k : ℕ) (v : Visit) (name : List ℕ) where
    pub left_says : ordered w f (visit_left k v) name ≡ true → (is_under w f name v.offset ≡ true) × (ordered w f v name ≡ true)
    unfolding ordered every
    left_says h =
        let s = order_says (visit_left k v) name h in
        let u = (and-eq-true_iff (is_under w f name v.offset) (every (is_under w f name) v.under)).0 s.0 in
        (u.0, ap₂ ◌&&◌ u.1 s.1)

    pub is_left : is_under w f name v.offset ≡ true → ordered w f v name ≡ true → ordered w f (visit_left k v) name ≡ true
    unfolding ordered every
    is_left p h = let s = order_says v name h in ap₂ ◌&&◌ (ap₂ ◌&&◌ p s.0) s.1

    pub right_says : ordered w f (visit_right k v) name ≡ true → (is_over w f name v.offset ≡ true) × (ordered w f v name ≡ true)
    unfolding ordered every
    right_says h =
        let s = order_says (visit_right k v) name h in
        let u = (and-eq-true_iff (is_over w f name v.offset) (every (is_over w f name) v.over)).0 s.1 in
        (u.0, ap₂ ◌&&◌ s.0 u.1)

    pub is_right : is_over w f name v.offset ≡ true → ordered w f v name ≡ true → ordered w f (visit_right k v) name ≡ true
    unfolding ordered every
    is_right p h = let s = order_says v name h in ap₂ ◌&&◌ s.0 (ap₂ ◌&&◌ p s.1)

  -- every name that is reached from an offset is as a visit asks
  abbrev pub Asked : Visit → ℕ → Type 0
  Asked v o = (p : ℕ) (y : Placed) → Reach f o p → f p ≡ gives (some y) → ordered w f v (name_in w y) ≡ true
