-- What an arena that passed the check is: a held tree, and entries that adding takes.
use Rattle.std.proofs.Common.{ℕ, ◌≤◌, ◌<◌, arith, ◌≡◌, refl, sym, ◌∙◌, true, ◌&&◌, length, take, length-take-le, leb, leb-true}
use Rattle.units.specs.Told.{Told, gives, refuses}
use Rattle.std.specs.declared.cmp.Ordering.{Ordering}
use Rattle.dirtab_entry.specs.Entry.{check_of}
use Rattle.avl_model.specs.declared.Place.TheVariants.{Root}
use Rattle.avl_model.specs.declared.Spot.{Spot}
use Rattle.avl_model.specs.inner.Names.{Inside}
use Rattle.avl_model.specs.Tree.{none}
use Rattle.avl_model.specs.Seek.{spot_in}
use Rattle.avl_model.specs.inner.Seek.{Sought}
use Rattle.avl_model.specs.Rep.{arr_of}
use Rattle.avl_model.proofs.Avl.{all_map}
use Rattle.avl_model.proofs.Adding.{links_of, links_part}
use Rattle.avl_model.proofs.Counted.{rep_below}
use Rattle.avl_arena.specs.Test.{every, holds_tree}
use Rattle.avl_arena.specs.HeldTree.{HeldTree}
use Rattle.avl_arena.proofs.Tested.{and_l, and_r, every_at}
use Rattle.avl_arena.proofs.Sound.{sound}
use Rattle.avl_arena.proofs.Complete.{held_low}
use Rattle.dirtab_arena.specs.Arena.{Arena, lists_of, names_of, given_at, is_given, is_taken, is_arena, tree_of}
use Rattle.dirtab_arena.proofs.Fine.{Fine, fine_of}

given_of : (t : Told (Unit {0})) → is_given t ≡ true → t ≡ gives tt
given_of (gives u) e = refl
given_of (refuses k vs) e = let z : ◌≡◌ {A = ℕ} 0 1 = cc in absurd (omega arith)

module _ (A : Arena) (p : is_arena A ≡ true) where
  abbrev n : ℕ
  n = A.count

  -- the four tests
  pub size_places : n ≤ length A.columns.size
  unfolding is_arena
  size_places = leb-true n (length A.columns.size) (and_l _ _ p)

  after_size : (leb n (length A.columns.kind) && (holds_tree (lists_of A) (names_of A) n && every (is_taken A) n)) ≡ true
  unfolding is_arena
  after_size = and_r (leb n (length A.columns.size)) _ p

  pub kind_places : n ≤ length A.columns.kind
  kind_places = leb-true n (length A.columns.kind) (and_l _ _ after_size)

  after_kind : (holds_tree (lists_of A) (names_of A) n && every (is_taken A) n) ≡ true
  after_kind = and_r (leb n (length A.columns.kind)) _ after_size

  pub tree_passed : holds_tree (lists_of A) (names_of A) n ≡ true
  tree_passed = and_l _ _ after_kind

  pub entries_passed : every (is_taken A) n ≡ true
  entries_passed = and_r (holds_tree (lists_of A) (names_of A) n) _ after_kind

  pub held : HeldTree (lists_of A) (names_of A) n (tree_of A)
  held = sound (lists_of A) (names_of A) n tree_passed

  -- each held entry is one that adding takes
  pub each_taken : (j : ℕ) → j < n → check_of A.bytes (given_at A j) ≡ gives tt
  unfolding is_taken
  each_taken j h = given_of (check_of A.bytes (given_at A j)) (every_at (is_taken A) n entries_passed j h)

  pub each_fine : (j : ℕ) → j < n → Fine A.bytes (given_at A j)
  each_fine j h = fine_of A.bytes (given_at A j) (each_taken j h)

  pub inside_at : (j : ℕ) → j < n → Inside (names_of A) j
  inside_at j h = record { starts = omega (arith, held.places.start); ends = omega (arith, held.places.len); fits = held.named j h }

  module _ (small : n ≤ 65535) where
    -- what a search takes, of the first places
    pub sought : Sought (take n A.columns.left) (take n A.columns.right) A.root (names_of A)
    sought =
        let long : length (take n A.columns.left) ≡ n = length-take-le n A.columns.left held.places.l in
        record {
          linked = record {
            t = tree_of A;
            n_is = length-take-le n A.columns.right held.places.r ∙ sym long;
            small = omega arith;
            links = links_part A.columns.left A.columns.right n (length (take n A.columns.left)) (tree_of A) long (links_of (lists_of A) n none (tree_of A) held.rep);
            root_is = held.root_is;
            bound = omega (arith, held_low (lists_of A) (names_of A) n small (tree_of A) held);
          };
          named = all_map (λ j. j < n) (Inside (names_of A)) (tree_of A) inside_at (rep_below (arr_of (lists_of A)) n none (tree_of A) held.rep);
        }

    -- what it finds, it finds in the held tree
    pub spot_is : (by : ℕ → Ordering) {s : Spot} → ((w : Sought (take n A.columns.left) (take n A.columns.right) A.root (names_of A)) → s ≡ spot_in by w.linked.t Root) → s ≡ spot_in by (tree_of A) Root
    unfolding sought
    spot_is by f = f sought
