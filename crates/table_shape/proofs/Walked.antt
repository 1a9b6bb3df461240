-- THE TREE OF A WALK THAT ENDS: a walk that lists xs has walked a tree, and xs is the tree's walk order; a tree that hangs at offset 0 is walked so; and where the
-- rule says so of each entry, the tree's names are in order. Assumes nothing.
use Prim.Native.Nat.{ℕ, ◌*◌, ◌≤◌}
use mathlib.Core.Path.{◌≡◌, refl, sym, ap, subst, ◌∙◌}
use mathlib.Core.Bool.{Bool, true, false}
use mathlib.Core.List.{List, [], ◌∷◌, ◌++◌, append_assoc, append-nil}
use mathlib.Core.Option.{Option, some, none}
use borrow.Author.Tests.{ne_eqb}
use lib.ListN.{length}
use Rattle.units.specs.Told.{Told, gives, pick}
use Rattle.units.specs.declared.Sector.{Sector}
use Rattle.units.specs.declared.Region.{Region}
use Rattle.read_entry.specs.declared.Placed.{Placed}
use Rattle.read_entry.specs.Entry.{read_at}
use Rattle.read_entry.specs.Links.{is_in, walk_absent}
use Rattle.read_walk.specs.Walk.{push, walk_of}
use Rattle.strict_rule.specs.Accepts.{InOrder}
use Rattle.strict_rule.proofs.Way.{Way, ended, passed, listed, of_way}
use Rattle.table_shape.specs.Shape.{Shape, leaf, node, preorder, Every, place_by, Hangs, nowhere, blank, entry, Ordered}
use Rattle.table_shape.proofs.Trees.{every_map, from_link, hangs_reached, hung_sized}

module _ (f : ℕ → Told (Option Placed)) where
  -- a list starts with the walk order of the tree at a place, and `rest` is said of what follows
  abbrev Then : Option ℕ → (List ℕ → Type 0) → List ℕ → Type 0
  Then place rest xs = (s : Shape) × (ys : List ℕ) × Hangs f place s × rest ys × (xs ≡ preorder s ++ ys)

  -- a list is the walk orders of the trees at the offsets of a stack, one after the other
  abbrev Trees : List ℕ → List ℕ → Type 0
  Trees [] xs = xs ≡ []
  Trees (o ∷ stack) xs = Then (some o) (Trees stack) xs

  -- a link that was put on the stack: its tree is the first
  pushed : (k : ℕ) (stack xs : List ℕ) → Trees (push walk_absent k stack) xs → Then (place_by k) (Trees stack) xs
  unfolding push preorder
  pushed k stack xs h = by (is_in k walk_absent) h
    where
      by : (b : Bool) → Trees (pick b stack (4 * k ∷ stack)) xs → Then (pick b none (some (4 * k))) (Trees stack) xs
      by true g = (leaf, xs, nowhere, g, refl)
      by false g = g

  -- an entry is listed, then the tree of its left link, then that of its right one
  trees_of : {stack xs : List ℕ} → Way f stack xs → Trees stack xs
  unfolding preorder
  trees_of ended = refl
  trees_of (passed o stack xs e way) = (leaf, xs, blank e, trees_of way, refl)
  trees_of (listed o stack xs x e way) =
      let a = pushed x.header.left.0 (push walk_absent x.header.right.0 stack) xs (trees_of way) in
      let b = pushed x.header.right.0 stack a.1 a.3 in (
        node a.0 o x b.0,
        b.1,
        entry e a.2 b.2,
        b.3,
        ap (λ (ys : List ℕ). o ∷ ys)
            (a.4 ∙ ap (λ (ys : List ℕ). preorder a.0 ++ ys) b.4 ∙ sym (append_assoc (preorder a.0) (preorder b.0) b.1)),
      )

  -- from one offset there is one tree
  pub tree_of : (o : ℕ) (xs : List ℕ) → Way f (o ∷ []) xs → (s : Shape) × Hangs f (some o) s × (preorder s ≡ xs)
  tree_of o xs way =
      let a = trees_of way in
      (a.0, a.2, sym (a.4 ∙ ap (λ (ys : List ℕ). preorder a.0 ++ ys) a.3 ∙ append-nil (preorder a.0)))

  -- AND A TREE IS WALKED: from a place on, the walk lists the tree, and then what is left on the stack
  abbrev stacked : Option ℕ → List ℕ → List ℕ
  stacked none stack = stack
  stacked (some o) stack = o ∷ stack

  push_is : (k : ℕ) (stack : List ℕ) → push walk_absent k stack ≡ stacked (place_by k) stack
  unfolding push
  push_is k stack = by (is_in k walk_absent)
    where
      by : (b : Bool) → pick b stack (4 * k ∷ stack) ≡ stacked (pick b none (some (4 * k))) stack
      by true = refl
      by false = refl

  way_in : {place : Option ℕ} {s : Shape} → Hangs f place s → (stack ys : List ℕ) → Way f stack ys → Way f (stacked place stack) (preorder s ++ ys)
  unfolding preorder
  way_in nowhere stack ys v = v
  way_in (blank {o = o} e) stack ys v = passed o stack ys e v
  way_in (entry {o = o} {x = x} {l = l} {r = r} e a b) stack ys v =
      let below : Way f (push walk_absent x.header.left.0 (push walk_absent x.header.right.0 stack)) (preorder l ++ (preorder r ++ ys)) =
      rw (push_is x.header.left.0, push_is x.header.right.0) (way_in a _ _ (way_in b stack ys v)) in
      subst (λ (zs : List ℕ). Way f (o ∷ stack) (o ∷ zs)) (sym (append_assoc (preorder l) (preorder r) ys)) (listed o stack _ x e below)

-- so the walk of a table lists the tree that hangs at offset 0
pub walk_lists : (w : List ℕ) (first : Sector) (t : Region) {s : Shape} → Hangs (read_at w first t) (some 0) s → (room : ℕ) → length (preorder s) ≤ room
    → walk_of w first t room ≡ gives (preorder s)
unfolding walk_of
walk_lists w first t {s} h room k =
    rw (ne_eqb _ _ (hung_sized w first t h))
    (of_way (read_at w first t) (subst (Way (read_at w first t) (0 ∷ [])) (append-nil (preorder s)) (way_in (read_at w first t) h [] [] ended)) room k)

-- a tree of which the rule holds at each entry is in order: what is in a subtree is reached through its link
module _ (w : List ℕ) (first : Sector) (t : Region) where
  pub in_order : {place : Option ℕ} {s : Shape} → Hangs (read_at w first t) place s → Every (λ o x. InOrder w first t x) s → Ordered w s
  in_order nowhere h = tt
  in_order (blank e) h = tt
  in_order (entry {x = x} {l = l} {r = r} e a b) h =
      let f : ℕ → Told (Option Placed) = read_at w first t in (
        every_map _ _ l (λ p y g. let k = from_link f x.header.left.0 p g.0 in h.0.left p y k.0 k.1 g.1) (hangs_reached f a),
        every_map _ _ r (λ p y g. let k = from_link f x.header.right.0 p g.0 in h.0.right p y k.0 k.1 g.1) (hangs_reached f b),
        in_order a h.1,
        in_order b h.2,
      )
