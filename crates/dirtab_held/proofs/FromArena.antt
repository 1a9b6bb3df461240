-- What the arena test gives: the columns hold the entries of the tree that is held. Assumes nothing.
use Rattle.std.proofs.Common.{ℕ, ◌≤◌, ◌≡◌, true, [], arith}
use Rattle.avl_model.specs.Tree.{none}
use Rattle.avl_arena.proofs.Complete.{held_low, held_once}
use Rattle.avl_model.proofs.Adding.{links_of}
use Rattle.dirtab_arena.proofs.Passed.{size_places, kind_places, held, each_fine, inside_at}
use Rattle.dirtab_arena.specs.Arena.{Arena, lists_of, names_of, is_arena, tree_of}
use Rattle.dirtab_write.specs.inner.Columns.{Cols, cols}
use Rattle.dirtab_held.specs.inner.Held.{Rooted}

-- the columns of an arena, in which no entry has its place yet
abbrev pub cols_at : Arena → Cols
cols_at A = cols A.columns.left A.columns.right [] A.columns.start A.columns.len A.columns.size A.columns.kind A.bytes

module _ (A : Arena) (is : is_arena A ≡ true) where
  abbrev n : ℕ
  n = A.count

  pub rooted : n ≤ 65535 → Rooted (cols_at A) A.root n (tree_of A)
  rooted small = record {
    holds = record {
      small = small;
      links = links_of (lists_of A) n none (tree_of A) (held A is).rep;
      once = held_once (lists_of A) (names_of A) n (tree_of A) (held A is);
      in_left = (held A is).places.l;
      in_right = (held A is).places.r;
      inside = inside_at A is;
      short = λ j h. (each_fine A is j h).short;
      sized = λ j h. record {
        in_size = omega (arith, size_places A is);
        in_kind = omega (arith, kind_places A is);
        low = (each_fine A is j h).small;
      };
    };
    root_is = (held A is).root_is;
    low = held_low (lists_of A) (names_of A) n small (tree_of A) (held A is);
    size_is = (held A is).size_is;
  }
