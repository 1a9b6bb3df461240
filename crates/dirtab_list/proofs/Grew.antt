-- A tree that was grown holds entries that adding takes, as writing asks for it. Assumes nothing.
use Rattle.std.proofs.Common.{◌≡◌, ℕ, ◌≤◌, ◌<◌, List, [], length, arith}
use Rattle.dirtab_entry.specs.Entry.{check_of}
use Rattle.avl_model.specs.Names.{names_in}
use Rattle.avl_model.specs.Lists.{Lists}
use Rattle.avl_model.specs.Rep.{arr_of}
use Rattle.avl_model.specs.Tree.{none}
use Rattle.avl_model.proofs.Adding.{links_of, below}
use Rattle.avl_model.proofs.Avl.{at_most_22}
use Rattle.avl_model.proofs.Counted.{all_at, each_size}
use Rattle.dirtab_arena.proofs.Fine.{Fine, fine_of}
use Rattle.dirtab_write.specs.inner.Columns.{cols}
use Rattle.dirtab_entry.specs.declared.Entries.{Entries}
use Rattle.avl_model.specs.declared.Branches.{Branches}
use Rattle.avl_model.specs.Lent.{names_of}
use Rattle.dirtab_held.specs.inner.Held.{Rooted, cols_in}
use Rattle.dirtab_grow.specs.Listing.{Listing, listing_of, given_in}
use Rattle.dirtab_grow.specs.Grow.{order_in, grow}
use Rattle.dirtab_grow.specs.inner.Growing.{Holding, Roomy, KeepsLengths}
use Rattle.dirtab_grow.proofs.Growth.{all_passed}

-- the columns after building, as writing takes them
module _ (L : Listing) (S : Lists) (w : Holding (grow L.bytes (given_in L) L.count) S (names_in L.bytes L.start L.len) L.count) where
  abbrev n : ℕ
  n = L.count

  each_fine : (j : ℕ) → j < n → Fine L.bytes (given_in L j)
  each_fine j h = fine_of L.bytes (given_in L j) (all_passed (order_in L.bytes (given_in L)) (λ i. check_of L.bytes (given_in L i)) n 0 _ w.told j (omega arith) (omega arith))

  rooted_of : n ≤ length L.size → n ≤ length L.kind → n ≤ length S.L → n ≤ length S.R → Rooted (cols S.L S.R [] L.start L.len L.size L.kind L.bytes) S.root n w.t
  rooted_of in_size in_kind in_left in_right =
      let g = w.grown in
      let b = below (arr_of S) n none w.t g.held.rep in
      record {
        holds = record {
          small = omega (arith, g.low);
          links = links_of S n none w.t g.held.rep;
          once = λ j. omega (arith, g.held.once j);
          in_left = in_left;
          in_right = in_right;
          inside = λ j h. all_at _ w.t j g.named (g.full j h);
          short = λ j h. (each_fine j h).short;
          sized = λ j h. record { in_size = omega arith; in_kind = omega arith; low = (each_fine j h).small };
        };
        root_is = g.held.link;
        low = at_most_22 n w.t (omega (arith, g.low)) b (λ j. omega (arith, g.held.once j)) g.even;
        size_is = each_size n w.t b (λ j h. omega (arith, g.held.once j, g.full j h));
      }

-- the same of what is lent: S is what the columns of the tree held before, and T afterwards
module _ (n : ℕ) (e : Entries) (S T : Lists) (K : List ℕ) (b : Branches) (w : Holding (grow e.names.bytes.now (given_in (listing_of n e)) n) T (names_of e.names) n) where
  pub rooted_in : b.root ≡ T.root → b.left.now ≡ T.L → b.right.now ≡ T.R → Roomy (listing_of n e) S K n → KeepsLengths S T → Rooted (cols_in b e) b.root n w.t
  rooted_in er el eq room long =
      rw (er, el, eq) (rooted_of (listing_of n e) T w room.size room.kind (omega (arith, room.l, long.l)) (omega (arith, room.r, long.r)))
