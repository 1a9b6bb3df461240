-- What the search, the insertion and the order say depends on the names of the tree's own nodes alone.
use Rattle.std.proofs.Common.{ℕ, ◌≡◌, refl, Bool}
use Rattle.std.specs.declared.cmp.Ordering.{Ordering}
use Rattle.avl_model.specs.declared.Place.{Place}
use Rattle.avl_model.specs.declared.Place.TheVariants.{Left, Right}
use Rattle.avl_model.specs.declared.Spot.TheVariants.{Same}
use Rattle.avl_model.specs.Tree.{Tree, leaf, node, ins, ins_by}
use Rattle.avl_model.specs.Laws.{All, Ordered}
use Rattle.avl_model.specs.Seek.{spot_in, spot_by}

-- insertion by two tests that agree on the tree's nodes
pub ins_alike : (f g : ℕ → Bool) (new : ℕ) (t : Tree) → All (λ j. f j ≡ g j) t → ins f new t ≡ ins g new t
ins_alike f g new leaf a = refl
ins_alike f g new (node l i r) a = λ d. ins_by (a.0 d) l (ins_alike f g new l a.1 d) i r (ins_alike f g new r a.2 d)

-- the search by two orders that agree on them
pub spot_alike : (f g : ℕ → Ordering) (t : Tree) (q : Place) → All (λ j. f j ≡ g j) t → spot_in f t q ≡ spot_in g t q
spot_alike f g leaf q a = refl
spot_alike f g (node l i r) q a = λ d. spot_by (a.0 d) (Same i) (spot_alike f g l (Left i) a.1 d) (spot_alike f g r (Right i) a.2 d)

all_both : (P Q R : ℕ → Type 0) (t : Tree) → ((j : ℕ) → P j → Q j → R j) → All P t → All Q t → All R t
all_both P Q R leaf f a b = tt
all_both P Q R (node l i r) f a b = (f i a.0 b.0, all_both P Q R l f a.1 b.1, all_both P Q R r f a.2 b.2)

-- a tree that is ordered by lt is ordered by what follows from it between its nodes
module _ (lt gt : ℕ → ℕ → Type 0) (P : ℕ → Type 0) (on : (i j : ℕ) → P i → P j → lt i j → gt i j) where
  pub ordered_alike : (t : Tree) → All P t → Ordered lt t → Ordered gt t
  ordered_alike leaf a o = tt
  ordered_alike (node l i r) a o = (
    all_both P (λ j. lt j i) (λ j. gt j i) l (λ j p h. on j i p a.0 h) a.1 o.0,
    all_both P (λ j. lt i j) (λ j. gt i j) r (λ j p h. on i j a.0 p h) a.2 o.1,
    ordered_alike l a.1 o.2,
    ordered_alike r a.2 o.3,
  )
