-- Entries that come in order: each goes to the right of the one before it, which is the last of the tree. Assumes nothing.
use Rattle.std.proofs.Common.{ℕ, suc, ◌+◌, ◌-◌, ◌≤◌, ◌<◌, arith, ◌≡◌, refl, sym, ap, ap₂, subst, ◌∙◌, Bool, true, false, List, ltb}
use Rattle.std.specs.declared.cmp.Ordering.{Ordering}
use Rattle.std.specs.declared.cmp.Ordering.TheVariants.{Greater}
use Rattle.layout_name.specs.inner.Order.{opposite}
use Rattle.name_role.specs.Roles.{given_order}
use Rattle.name_role.proofs.Roles.{Compared, given_compared, given_opposite, given_trans}
use Rattle.avl_model.specs.declared.Place.TheVariants.{Root, Left, Right}
use Rattle.avl_model.specs.declared.Spot.{Spot}
use Rattle.avl_model.specs.declared.Spot.TheVariants.{Same, Free}
use Rattle.avl_model.specs.Tree.{Tree, leaf, node, none, ht, turn_left, turn_left_by, turn_right, turn_right_by, bal, bal_by, ins, ins_by}
use Rattle.avl_model.specs.Laws.{All, Ordered}
use Rattle.avl_model.specs.Names.{Names, name_at, to_name, by_name, is_less}
use Rattle.avl_model.specs.inner.Names.{Before}
use Rattle.avl_model.specs.Rep.{Arr, Rep}
use Rattle.avl_model.specs.Seek.{spot_in, spot_by, tree_at}
use Rattle.avl_model.proofs.Avl.{all_map}
use Rattle.avl_model.proofs.Search.{ins_names}
use Rattle.avl_model.proofs.Seeking.{tree_at_is}
use Rattle.avl_keyed.specs.inner.Key.{KeySought}
use Rattle.dirtab_grow.specs.inner.Growing.{After}

-- the last node of a tree, and d where there is none
abbrev pub last_from : ℕ → Tree → ℕ
last_from d leaf = d
last_from d (node l i r) = last_from i r

-- ---- a rotation leaves the last node

left_by : (q : Bool) (x : Tree) (a : ℕ) (y : Tree) (b : ℕ) (z : Tree) (d : ℕ) → last_from d (turn_left_by q x a y b z) ≡ last_from b z
left_by false x a y b z d = refl
left_by true x a leaf b z d = refl
left_by true x a (node y c y2) b z d = refl

turn_left_lem : (x : Tree) (a : ℕ) (r : Tree) (d : ℕ) → last_from d (turn_left x a r) ≡ last_from a r
turn_left_lem x a leaf d = refl
turn_left_lem x a (node y b z) d = left_by (ltb (ht z) (ht y)) x a y b z d

right_by : (q : Bool) (x : Tree) (b : ℕ) (y : Tree) (a : ℕ) (z : Tree) (d : ℕ) → last_from d (turn_right_by q x b y a z) ≡ last_from a z
right_by false x b y a z d = refl
right_by true x b leaf a z d = refl
right_by true x b (node y c y2) a z d = refl

turn_right_lem : (l : Tree) (a : ℕ) (z : Tree) (d : ℕ) → last_from d (turn_right l a z) ≡ last_from a z
turn_right_lem leaf a z d = refl
turn_right_lem (node x b y) a z d = right_by (ltb (ht x) (ht y)) x b y a z d

bal_by_lem : (p q : Bool) (l : Tree) (i : ℕ) (r : Tree) (d : ℕ) → last_from d (bal_by p q l i r) ≡ last_from i r
bal_by_lem true q l i r d = turn_right_lem l i r d
bal_by_lem false true l i r d = turn_left_lem l i r d
bal_by_lem false false l i r d = refl

bal_last : (l : Tree) (i : ℕ) (r : Tree) (d : ℕ) → last_from d (bal l i r) ≡ last_from i r
unfolding bal
bal_last l i r d = bal_by_lem (ltb (suc (ht r)) (ht l)) (ltb (suc (ht l)) (ht r)) l i r d

-- what holds of i and of all of r holds of the last of them
last_in : (P : ℕ → Type 0) (r : Tree) (i : ℕ) → P i → All P r → P (last_from i r)
last_in P leaf i p a = p
last_in P (node x j y) i p a = last_in P y j a.0 a.2

-- ---- a name that is greater than the last node's is greater than those on the way there
module _ (N : Names) (a : List ℕ) where
  on_left : (i j : ℕ) → Before N i j → to_name N a j ≡ Greater → to_name N a i ≡ Greater
  unfolding to_name
  on_left i j b e =
      given_opposite (name_at N i) a
      ∙ ap opposite (given_trans (name_at N i) (name_at N j) a b (given_opposite a (name_at N j) ∙ ap opposite e))

  on_way : (i : ℕ) (r : Tree) → All (λ j. Before N i j) r → to_name N a (last_from i r) ≡ Greater → to_name N a i ≡ Greater
  on_way i r b = last_in (λ j. to_name N a j ≡ Greater → to_name N a i ≡ Greater) r i (λ e. e)
      (all_map (λ j. Before N i j) (λ j. to_name N a j ≡ Greater → to_name N a i ≡ Greater) r (λ j h. on_left i j h) b)

  to_right : (o : Ordering) (l : Tree) (i : ℕ) (x y : Spot) → o ≡ Greater → spot_by o (Same i) x y ≡ y
  to_right o l i x y e = ap (λ (p : Ordering). spot_by p (Same i) x y) e

  spot_right : (t : Tree) (d : ℕ) → Ordered (Before N) t → to_name N a (last_from d t) ≡ Greater → spot_in (to_name N a) t (Right d) ≡ Free (Right (last_from d t))
  spot_right leaf d o e = refl
  spot_right (node l i r) d o e =
      to_right (to_name N a i) l i (spot_in (to_name N a) l (Left i)) (spot_in (to_name N a) r (Right i)) (on_way i r o.1 e) ∙ spot_right r i o.3 e

  -- it goes to the right of that node
  pub spot_last : (t : Tree) (j : ℕ) → j < none → last_from none t ≡ j → Ordered (Before N) t → to_name N a j ≡ Greater → spot_in (to_name N a) t Root ≡ Free (Right j)
  spot_last leaf j h is o e = absurd (omega arith)
  spot_last (node l i r) j h is o e =
      let f : to_name N a (last_from i r) ≡ Greater = ap (to_name N a) is ∙ e in
      to_right (to_name N a i) l i (spot_in (to_name N a) l (Left i)) (spot_in (to_name N a) r (Right i)) (on_way i r o.1 f)
      ∙ spot_right r i o.3 f ∙ ap (λ (v : ℕ). Free (Right v)) is

  abbrev less : ℕ → Bool
  less i = is_less (to_name N a i)

  -- and is the last node then
  pub ins_last : (t : Tree) (d new : ℕ) → Ordered (Before N) t → to_name N a (last_from d t) ≡ Greater → last_from d (ins less new t) ≡ new
  ins_last leaf d new o e = refl
  ins_last (node l i r) d new o e =
      ap (λ (p : Ordering). last_from d (ins_by (is_less p) l (ins less new l) i r (ins less new r))) (on_way i r o.1 e)
      ∙ bal_last l i (ins less new r) d ∙ ins_last r i new o.3 e

-- the last of the first i entries is the last node, and the tree is ordered
pub record Rightmost (N : Names) (t : Tree) (i : ℕ) : Type 0 where
  pub some : 0 < i
  pub last_is : last_from none t ≡ i - 1
  pub sorted : Ordered (Before N) t

-- the first entry, put into the tree of none
pub first_in_lem : (N : Names) (A : Arr) (p : ℕ) (less : ℕ → Bool) (t : Tree) (i : ℕ) → i ≡ 0 → Rep A i p t → Rightmost N (ins less i t) (i + 1)
first_in_lem N A p less leaf i e c = record { some = omega arith; last_is = omega arith; sorted = (tt, tt, tt, tt) }
first_in_lem N A p less (node l j r) i e c = absurd (omega (arith, c.0.fits))

module _ (N : Names) (t : Tree) (i : ℕ) (low : i ≤ 16384) (m : Rightmost N t i) (e : by_name N i (i - 1) ≡ Greater) where
  pub goes_right : spot_in (by_name N i) t Root ≡ Free (Right (i - 1))
  goes_right = spot_last N (name_at N i) t (i - 1) (omega arith) m.last_is m.sorted e

  -- one more in order
  pub one_after : Rightmost N (ins (λ j. is_less (by_name N i j)) i t) (i + 1)
  one_after = record {
    some = omega arith;
    last_is = ins_last_here ∙ omega arith;
    sorted = ins_names N (name_at N i) i refl t Root (Right (i - 1)) m.sorted goes_right;
  }
    where
      ins_last_here : last_from none (ins (λ j. is_less (by_name N i j)) i t) ≡ i
      ins_last_here = ins_last N (name_at N i) t none i m.sorted (ap (to_name N (name_at N i)) m.last_is ∙ e)

-- ---- what the code finds out

-- two names, compared
pub compared : (N : Names) (i j : ℕ) {a b : List ℕ} {o : Ordering} → a ≡ name_at N i → b ≡ name_at N j → Compared o a b → o ≡ Greater → by_name N i j ≡ Greater
unfolding to_name
compared N i j {a} {b} ea eb eo e = ap₂ given_order (sym ea) (sym eb) ∙ sym (given_compared a b eo) ∙ e

-- the tree that the links hold is the one that is searched
pub links_tree : {L R K : List ℕ} {root : ℕ} {N : Names} (w : KeySought L R K root N) → tree_at 100 L R root ≡ w.linked.t
links_tree {L} {R} w = ap (tree_at 100 L R) w.linked.root_is ∙ tree_at_is L R w.linked.t 100 w.linked.small w.linked.links (omega (arith, w.linked.bound))

pub spot_there : {L R K : List ℕ} {root : ℕ} {N : Names} {after : Bool} {new : ℕ} → After after N (tree_at 100 L R root) new → after ≡ true
    → (w : KeySought L R K root N) → spot_in (by_name N new) w.linked.t Root ≡ Free (Right (new - 1))
spot_there {N = N} {new = new} f e w = subst (λ (t : Tree). spot_in (by_name N new) t Root ≡ Free (Right (new - 1))) (links_tree w) (f e).1
