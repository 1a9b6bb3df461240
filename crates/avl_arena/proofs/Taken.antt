-- What the other operations ask, from an arena that passed the test.
use Rattle.std.proofs.Common.{ℕ, ◌+◌, ◌≤◌, ◌<◌, arith, ◌≡◌, refl, sym, ◌∙◌, true, length, take, get_or-take, length-take-le}
use Rattle.avl_model.specs.Lists.{Lists}
use Rattle.avl_model.specs.Names.{Names}
use Rattle.avl_model.specs.Tree.{Tree, leaf, node, none}
use Rattle.avl_model.specs.Rep.{Rep}
use Rattle.avl_model.specs.Rep.{arr_of}
use Rattle.avl_model.specs.inner.Held.{Arena}
use Rattle.avl_model.specs.inner.Order.{Listed}
use Rattle.avl_model.proofs.Counted.{all_below}
use Rattle.avl_model.proofs.Adding.{links_of, links_part}
use Rattle.avl_arena.specs.Test.{part_of, decoded, holds_tree}
use Rattle.avl_arena.specs.HeldTree.{Places, HeldTree}
use Rattle.avl_arena.proofs.Sound.{sound}
use Rattle.avl_arena.proofs.Complete.{held_low, held_below, held_once}

-- a tree that the columns hold stands in their first m places
rep_part : (S : Lists) (n m k p : ℕ) (t : Tree) → n ≤ m → m ≡ k → Rep (arr_of S) n p t → Rep (arr_of (part_of m S)) k p t
rep_part S n m k p leaf h e c = tt
rep_part S n m k p (node l i r) h e c =
    let f : i < m = omega (arith, c.0.fits) in (
      record {
        fits = omega arith;
        left = get_or-take m S.L i 0 f ∙ c.0.left;
        right = get_or-take m S.R i 0 f ∙ c.0.right;
        up = get_or-take m S.P i 0 f ∙ c.0.up;
        high = get_or-take m S.H i 0 f ∙ c.0.high;
      },
      rep_part S n m k i l h e c.1,
      rep_part S n m k i r h e c.2,
    )

module _ (S : Lists) (N : Names) (n : ℕ) (t : Tree) (w : HeldTree S N n t) where
  -- insertion takes it, in columns that have a place more: those places, of which the last is the new node's
  pub arena_of : Places S N (n + 1) → n + 1 ≤ 65535 → Arena (part_of (n + 1) S) n
  arena_of room small =
      let long : length (take (n + 1) S.L) ≡ n + 1 = length-take-le (n + 1) S.L room.l in
      record {
        t = t;
        long = record {
          l = refl;
          r = length-take-le (n + 1) S.R room.r ∙ sym long;
          p = length-take-le (n + 1) S.P room.p ∙ sym long;
          h = length-take-le (n + 1) S.H room.h ∙ sym long;
        };
        small = omega arith;
        held = record {
          link = w.root_is;
          rep = rep_part S n (n + 1) (length (take (n + 1) S.L)) none t (omega arith) (sym long) w.rep;
          krep = tt;
          once = λ j. omega (arith, held_once S N n t w j);
        };
        new< = omega arith;
        fresh = all_below n t n (held_below S N n t w) (omega arith);
        full = λ j h ne. omega (arith, w.each j (omega arith));
        even = w.balanced;
      }

  -- and its tree is the same
  pub arena_tree : (room : Places S N (n + 1)) (small : n + 1 ≤ 65535) → (arena_of room small).t ≡ t
  unfolding arena_of
  arena_tree room small = refl

  -- preorder takes it, with a list of as many places
  pub listed_of : n ≤ 65535 → (m : ℕ) → n ≤ m → Listed (take n S.L) (take n S.R) S.root m
  listed_of small m h =
      let long : length (take n S.L) ≡ n = length-take-le n S.L w.places.l in
      record {
        t = t;
        n_is = length-take-le n S.R w.places.r ∙ sym long;
        small = omega arith;
        links = links_part S.L S.R n (length (take n S.L)) t long (links_of S n none t w.rep);
        root_is = w.root_is;
        low = held_low S N n small t w;
        room = omega (arith, w.size_is);
      }

-- what passed the test is what insertion takes, with the tree that the links hold
pub passed : (S : Lists) (N : Names) (n : ℕ) → holds_tree S N n ≡ true → Places S N (n + 1) → n + 1 ≤ 65535 → Arena (part_of (n + 1) S) n
passed S N n e = arena_of S N n (decoded S n) (sound S N n e)

pub passed_tree : (S : Lists) (N : Names) (n : ℕ) (e : holds_tree S N n ≡ true) (room : Places S N (n + 1)) (small : n + 1 ≤ 65535) → (passed S N n e room small).t ≡ decoded S n
unfolding passed
passed_tree S N n e room small = arena_tree S N n (decoded S n) (sound S N n e) room small
