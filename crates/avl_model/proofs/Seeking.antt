-- The way down: what is still to be looked through, and its height, which falls.
use Rattle.std.proofs.Common.{ℕ, zero, suc, ◌≤◌, ◌<◌, max, arith, ◌≡◌, refl, sym, ap, subst, ◌∙◌, List, length, get_or, lt-ltb, le-ltb}
use Rattle.std.specs.declared.cmp.Ordering.{Ordering}
use Rattle.std.specs.declared.cmp.Ordering.TheVariants.{Less, Equal, Greater}
use Rattle.name_role.specs.Roles.{given_order}
use Rattle.name_role.proofs.Roles.{Compared, given_compared}
use Rattle.avl_model.specs.declared.Place.{Place}
use Rattle.avl_model.specs.declared.Place.TheVariants.{Left, Right}
use Rattle.avl_model.specs.declared.Spot.{Spot}
use Rattle.avl_model.specs.declared.Spot.TheVariants.{Same, Free}
use Rattle.avl_model.specs.Tree.{Tree, leaf, node, none, top, ht}
use Rattle.avl_model.specs.Laws.{All}
use Rattle.avl_model.specs.Names.{Names, name_at, to_name}
use Rattle.avl_model.specs.Seek.{spot_in, tree_at}
use Rattle.avl_model.specs.inner.Seek.{Links}

pub tree_at_is : (L R : List ℕ) (t : Tree) (f : ℕ) → length L ≤ none → Links L R (length L) t → ht t ≤ f → tree_at f L R (top t) ≡ t
unfolding tree_at
tree_at_is L R leaf zero small c h = refl
tree_at_is L R leaf (suc f) small c h = rw (le-ltb none (length L) small, tree_at)
tree_at_is L R (node l i r) zero small c h = absurd (omega arith)
tree_at_is L R (node l i r) (suc f) small c h =
    let el : tree_at f L R (get_or L i 0) ≡ l = ap (tree_at f L R) c.0.left ∙ tree_at_is L R l f small c.1 (omega arith) in
    let er : tree_at f L R (get_or R i 0) ≡ r = ap (tree_at f L R) c.0.right ∙ tree_at_is L R r f small c.2 (omega arith) in
    rw (lt-ltb i (length L) c.0.fits, tree_at) (λ d. node (el d) i (er d))

-- how deep the tree below a node is
abbrev pub depth : List ℕ → List ℕ → ℕ → ℕ
depth L R at = ht (tree_at 100 L R at)

-- `by` is the order of what is sought to each node; P is what is known of each node of the tree
module _ (L R : List ℕ) (by : ℕ → Ordering) (P : ℕ → Type 0) where
  -- s hangs at q, and what is found in s is what is found in the whole
  pub record Seeking (at : ℕ) (q : Place) (goal : Spot) : Type 0 where
    pub s : Tree
    pub at_is : at ≡ top s
    pub links : Links L R (length L) s
    pub bound : ht s < 100
    pub spot : goal ≡ spot_in by s q
    pub all : All P s

  -- a node to look at
  record Opened (at : ℕ) (q : Place) (goal : Spot) : Type 0 where
    l : Tree
    r : Tree
    links : Links L R (length L) (node l at r)
    bound : suc (max (ht l) (ht r)) < 100
    spot : goal ≡ spot_in by (node l at r) q
    all : All P (node l at r)

module _ (L R : List ℕ) (by : ℕ → Ordering) (P : ℕ → Type 0) (small : length L ≤ none) where
  opened_of : (s : Tree) (at : ℕ) (q : Place) (goal : Spot) → at ≡ top s → Links L R (length L) s → ht s < 100 → goal ≡ spot_in by s q → All P s → at < none → Opened L R by P at q goal
  opened_of leaf at q goal e c b g a h = absurd (omega arith)
  opened_of (node l i r) at q goal e c b g a h = subst (λ (v : ℕ). Opened L R by P v q goal) (sym e) (record { l = l; r = r; links = c; bound = b; spot = g; all = a })

  depth_is : (t : Tree) (at : ℕ) → at ≡ top t → Links L R (length L) t → ht t < 100 → depth L R at ≡ ht t
  depth_is t at e c b = ap (depth L R) e ∙ ap ht (tree_at_is L R t 100 small c (omega arith))

  free_of : (s : Tree) (at : ℕ) (q : Place) (goal : Spot) → at ≡ top s → Links L R (length L) s → goal ≡ spot_in by s q → none ≤ at → Free q ≡ goal
  free_of leaf at q goal e c g h = sym g
  free_of (node l i r) at q goal e c g h = absurd (omega (arith, c.0.fits))

module _ {L R : List ℕ} {by : ℕ → Ordering} {P : ℕ → Type 0} (small : length L ≤ none) where
  opened : {at : ℕ} {q : Place} {goal : Spot} → Seeking L R by P at q goal → at < none → Opened L R by P at q goal
  opened {at} {q} {goal} k h = opened_of L R by P small k.s at q goal k.at_is k.links k.bound k.spot k.all h

  -- a node, and what its order tells
  module _ {at : ℕ} {q : Place} {goal : Spot} (k : Seeking L R by P at q goal) (h : at < none) where
    pub inside : at < length L
    inside = (opened k h).links.0.fits

    pub known : P at
    known = (opened k h).all.0

    pub found : by at ≡ Equal → Same at ≡ goal
    found e = sym ((opened k h).spot ∙ rw e)

    depth_here : depth L R at ≡ suc (max (ht (opened k h).l) (ht (opened k h).r))
    depth_here = depth_is L R by P small (node (opened k h).l at (opened k h).r) at refl (opened k h).links (opened k h).bound

    -- one step down
    pub go_left : by at ≡ Less → Seeking L R by P (get_or L at 0) (Left at) goal
    go_left e = let o = opened k h in record {
      s = o.l;
      at_is = o.links.0.left;
      links = o.links.1;
      bound = omega (arith, o.bound);
      spot = o.spot ∙ rw e;
      all = o.all.1;
    }

    pub go_right : by at ≡ Greater → Seeking L R by P (get_or R at 0) (Right at) goal
    go_right e = let o = opened k h in record {
      s = o.r;
      at_is = o.links.0.right;
      links = o.links.2;
      bound = omega (arith, o.bound);
      spot = o.spot ∙ rw e;
      all = o.all.2;
    }

    pub less_left : depth L R (get_or L at 0) < depth L R at
    less_left = let o = opened k h in omega (arith, depth_here, depth_is L R by P small o.l (get_or L at 0) o.links.0.left o.links.1 (omega (arith, o.bound)))

    pub less_right : depth L R (get_or R at 0) < depth L R at
    less_right = let o = opened k h in omega (arith, depth_here, depth_is L R by P small o.r (get_or R at 0) o.links.0.right o.links.2 (omega (arith, o.bound)))

  pub free : {at : ℕ} {q : Place} {goal : Spot} → Seeking L R by P at q goal → none ≤ at → Free q ≡ goal
  free {at} {q} {goal} k h = free_of L R by P small k.s at q goal k.at_is k.links k.spot h

-- what comparing a name with that of a node tells
pub told : (N : Names) (a : List ℕ) (at : ℕ) {b : List ℕ} {o r : Ordering} → b ≡ name_at N at → Compared r a b → r ≡ o → to_name N a at ≡ o
unfolding to_name
told N a at {b} e f g = ap (given_order a) (sym e) ∙ sym (given_compared a b f) ∙ g
