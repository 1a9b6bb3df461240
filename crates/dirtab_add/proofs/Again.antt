-- After an entry was added the columns are an arena again: of the grown tree, with the earlier entries as they were and the new one behind them.
use Rattle.std.proofs.Common.{ℕ, ◌+◌, ◌≤◌, ◌<◌, arith, ◌≡◌, refl, sym, ap, ap₂, subst, ◌∙◌, Bool, true, length, get_or, take, drop, length-set, get_or-set_same, get_or-set_other, le-leb}
use native.Mathlib.Decide.{dec_lt, ℕ_discrete}
use Rattle.units.specs.Told.{Told, gives}
use Rattle.name_role.specs.Roles.{given_order}
use Rattle.dirtab_entry.specs.declared.Entry as goal
use Rattle.dirtab_entry.specs.declared.Kind.{Kind}
use Rattle.dirtab_entry.specs.declared.Kind.TheVariants.{File, Directory}
use Rattle.dirtab_entry.specs.Entry.{kind_for, is_directory, stored_size, name_in, check_of}
use Rattle.avl_model.specs.declared.Place.{Place}
use Rattle.avl_model.specs.declared.Place.TheVariants.{Root}
use Rattle.avl_model.specs.Names.{name_at, to_name, is_less, Before}
use Rattle.avl_model.specs.Tree.{Tree, none, top, δ, cnt}
use Rattle.avl_model.specs.Rep.{Rep}
use Rattle.avl_model.specs.Rep.{arr_of}
use Rattle.avl_model.specs.Laws.{All, Ordered}
use Rattle.avl_model.specs.Columns.{written}
use Rattle.avl_model.proofs.Frame.{δ-same, δ-apart}
use Rattle.avl_model.proofs.Bal.{ins-cnt}
use Rattle.avl_model.proofs.Avl.{all_map, all_ins, ins_avl}
use Rattle.avl_model.proofs.Counted.{all_below, each_size}
use Rattle.avl_model.proofs.Search.{ins_names}
use Rattle.avl_model.proofs.Alike.{ins_alike, spot_alike, ordered_alike}
use Rattle.avl_model.proofs.Written.{write-length}
use Rattle.avl_model.proofs.Writing.{Wide, written_held}
use Rattle.avl_arena.specs.HeldTree.{Places, HeldTree}
use Rattle.avl_arena.proofs.Tested.{and_both, every_at, every_from}
use Rattle.avl_arena.proofs.Complete.{complete, decoded_is, held_below}
use Rattle.table_model.specs.Entry.{entry_for}
use Rattle.dirtab_arena.specs.Arena.{Arena, arena, lists_of, names_of, given_at, entry_at, is_given, is_taken, is_arena, tree_of}
use Rattle.dirtab_add.specs.Add.{Grown, order_to, grown_tree, add_of, kind_number, columns_with, if_given, columns_after}
use Rattle.dirtab_add.specs.inner.Judging.{Taking}
use Rattle.dirtab_add.proofs.Room.{Roomy}
use Rattle.dirtab_arena.proofs.Fine.{Fine, fine_taken}
use Rattle.dirtab_arena.proofs.Passed.{held, entries_passed}
use Rattle.dirtab_add.proofs.Ways.{roomy, fine, answers}
use Rattle.dirtab_add.proofs.Given.{given_taking}

-- ---- an entry as it is stored

stored_small : (k : Kind) (n : ℕ) → (is_directory k ≡ true → n ≤ 4294965248) → is_directory k ≡ true → stored_size k n ≤ 4294965248
stored_small File n h q = let z : ◌≡◌ {A = ℕ} 0 1 = cc in absurd (omega arith)
stored_small Directory n h q = omega (arith, h refl)

-- rounding what is rounded changes nothing
pub stored_twice : (k : Kind) (n : ℕ) → stored_size k (stored_size k n) ≡ stored_size k n
stored_twice File n = refl
stored_twice Directory n = omega arith

-- the kind's number says the kind
pub kind_back : (k : Kind) → kind_for (kind_number k) ≡ k
kind_back File = refl
kind_back Directory = refl

-- ---- the columns with the new entry

module _ (A : Arena) (e : goal.Entry) (q : Place) (w : Taking A e q) where
  abbrev n : ℕ
  n = A.count

  abbrev g : Tree
  g = grown_tree A e

  abbrev A2 : Arena
  A2 = arena (top g) (n + 1) (columns_with A e) A.bytes

  abbrev t : Tree
  t = tree_of A

  abbrev less : ℕ → Bool
  less = λ i. is_less (order_to A e i)

  h : HeldTree (lists_of A) (names_of A) n t
  h = held A w.checked.passes

  m : Roomy n A.columns
  m = roomy A e q w

  below : All (λ j. j < n) t
  below = held_below (lists_of A) (names_of A) n t h

  below_more : All (λ j. j < n + 1) g
  below_more = all_ins (λ j. j < n + 1) less n t (omega arith) (all_map (λ j. j < n) (λ j. j < n + 1) t (λ j k. omega arith) below)

  each : (j : ℕ) → j < n + 1 → cnt j g ≡ 1
  each j k = elim (ℕ_discrete j n) [
    | yes p ↦ let d : δ n j ≡ 1 = subst (λ (v : ℕ). δ n v ≡ 1) (sym p) (δ-same n) in
        omega (arith, ins-cnt less n j t, all_below n t j below (omega arith))
    | no ne ↦ omega (arith, ins-cnt less n j t, h.each j (omega arith), δ-apart n j (λ p. ne (sym p)))
  ]

  once : (j : ℕ) → cnt j g ≤ 1
  once j = elim (dec_lt j (n + 1)) [ yes k ↦ omega (arith, each j k) | no k ↦ omega (arith, all_below (n + 1) g j below_more (omega arith)) ]

  wide : Wide (n + 1) (lists_of A)
  wide = record { l = omega (arith, m.left); r = omega (arith, m.right); p = omega (arith, m.parent); h = omega (arith, m.height) }

  -- ---- the names

  other_start : (j : ℕ) → j < n → get_or A2.columns.start j 0 ≡ get_or A.columns.start j 0
  unfolding columns_with
  other_start j k = get_or-set_other A.columns.start n j e.start 0 (λ p. omega arith)

  other_len : (j : ℕ) → j < n → get_or A2.columns.len j 0 ≡ get_or A.columns.len j 0
  unfolding columns_with
  other_len j k = get_or-set_other A.columns.len n j e.len 0 (λ p. omega arith)

  other_size : (j : ℕ) → j < n → get_or A2.columns.size j 0 ≡ get_or A.columns.size j 0
  unfolding columns_with
  other_size j k = get_or-set_other A.columns.size n j (stored_size e.kind e.size) 0 (λ p. omega arith)

  other_kind : (j : ℕ) → j < n → get_or A2.columns.kind j 0 ≡ get_or A.columns.kind j 0
  unfolding columns_with
  other_kind j k = get_or-set_other A.columns.kind n j (kind_number e.kind) 0 (λ p. omega arith)

  new_start : get_or A2.columns.start n 0 ≡ e.start
  unfolding columns_with
  new_start = get_or-set_same A.columns.start n e.start 0 m.start

  new_len : get_or A2.columns.len n 0 ≡ e.len
  unfolding columns_with
  new_len = get_or-set_same A.columns.len n e.len 0 m.len

  new_size : get_or A2.columns.size n 0 ≡ stored_size e.kind e.size
  unfolding columns_with
  new_size = get_or-set_same A.columns.size n (stored_size e.kind e.size) 0 m.size

  new_kind : kind_for (get_or A2.columns.kind n 0) ≡ e.kind
  unfolding columns_with
  new_kind = ap kind_for (get_or-set_same A.columns.kind n (kind_number e.kind) 0 m.kind) ∙ kind_back e.kind

  other_name : (j : ℕ) → j < n → name_at (names_of A2) j ≡ name_at (names_of A) j
  other_name j k = λ d. take (other_len j k d) (drop (other_start j k d) A.bytes)

  new_name : name_at (names_of A2) n ≡ name_in A.bytes e
  new_name = λ d. take (new_len d) (drop (new_start d) A.bytes)

  other_before : (i j : ℕ) → i < n → j < n → Before (names_of A) i j → Before (names_of A2) i j
  unfolding to_name
  other_before i j p k b = ap₂ given_order (other_name i p) (other_name j k) ∙ b

  other_order : (j : ℕ) → j < n → to_name (names_of A2) (name_in A.bytes e) j ≡ order_to A e j
  unfolding to_name
  other_order j k = ap (given_order (name_in A.bytes e)) (other_name j k)

  ordered : Ordered (Before (names_of A2)) g
  ordered =
      let by = to_name (names_of A2) (name_in A.bytes e) in
      let alike : All (λ j. by j ≡ order_to A e j) t = all_map (λ j. j < n) (λ j. by j ≡ order_to A e j) t other_order below in
      subst (Ordered (Before (names_of A2)))
      (ins_alike (λ i. is_less (by i)) less n t (all_map (λ j. by j ≡ order_to A e j) (λ j. is_less (by j) ≡ less j) t (λ j p. ap is_less p) alike))
      (ins_names (names_of A2) (name_in A.bytes e) n new_name t Root q
      (ordered_alike (Before (names_of A)) (Before (names_of A2)) (λ j. j < n) (λ i j p k b. other_before i j p k b) t below h.ordered)
      (spot_alike by (order_to A e) t Root alike ∙ w.free))

  named : (j : ℕ) → j < n + 1 → get_or A2.columns.start j 0 + get_or A2.columns.len j 0 ≤ length A.bytes
  named j k = elim (ℕ_discrete j n) [
    | yes p ↦ subst (λ (v : ℕ). get_or A2.columns.start v 0 + get_or A2.columns.len v 0 ≤ length A.bytes) (sym p) (omega (arith, new_start, new_len, (fine A e q w).inside))
    | no ne ↦ omega (arith, other_start j (omega arith), other_len j (omega arith), h.named j (omega arith))
  ]

  -- ---- the tree

  places : Places (lists_of A2) (names_of A2) (n + 1)
  unfolding columns_with written
  places = record {
    l = simp write-length wide.l;
    r = simp write-length wide.r;
    p = simp write-length wide.p;
    h = simp write-length wide.h;
    start = simp length-set (omega (arith, m.start));
    len = simp length-set (omega (arith, m.len));
  }

  rep : Rep (arr_of (lists_of A2)) (n + 1) none g
  unfolding columns_with written
  rep = written_held (n + 1) g (lists_of A) wide below_more once

  holds : HeldTree (lists_of A2) (names_of A2) (n + 1) g
  holds = record {
    places = places;
    root_is = refl;
    rep = rep;
    each = each;
    size_is = each_size (n + 1) g below_more each;
    balanced = ins_avl less n t h.balanced;
    ordered = ordered;
    named = named;
  }

  -- ---- the entries

  other_given : (j : ℕ) → j < n → given_at A2 j ≡ given_at A j
  other_given j k = λ d. record { start = other_start j k d; len = other_len j k d; kind = kind_for (other_kind j k d); size = other_size j k d }

  abbrev stored : goal.Entry
  stored = record { start = e.start; len = e.len; kind = e.kind; size = stored_size e.kind e.size }

  new_given : given_at A2 n ≡ stored
  new_given = λ d. record { start = new_start d; len = new_len d; kind = new_kind d; size = new_size d }

  stored_fine : Fine A.bytes stored
  stored_fine = let f = fine A e q w in record {
    some = f.some;
    inside = f.inside;
    good = f.good;
    short = f.short;
    small = stored_small e.kind e.size f.small;
  }

  all_taken : (j : ℕ) → j < n + 1 → is_taken A2 j ≡ true
  unfolding is_taken
  all_taken j k = elim (ℕ_discrete j n) [
    | yes p ↦ ap (λ (v : ℕ). is_given (check_of A.bytes (given_at A2 v))) p ∙ ap (λ (x : goal.Entry). is_given (check_of A.bytes x)) new_given ∙ ap is_given (fine_taken A.bytes stored stored_fine)
    | no ne ↦ ap (λ (x : goal.Entry). is_given (check_of A.bytes x)) (other_given j (omega arith)) ∙ every_at (is_taken A) n (entries_passed A w.checked.passes) j (omega arith)
  ]

  size_room : n + 1 ≤ length A2.columns.size
  unfolding columns_with
  size_room = simp length-set (omega (arith, m.size))

  kind_room : n + 1 ≤ length A2.columns.kind
  unfolding columns_with
  kind_room = simp length-set (omega (arith, m.kind))

  pub grown_arena : is_arena A2 ≡ true
  unfolding is_arena
  grown_arena =
      and_both (le-leb (n + 1) (length A2.columns.size) size_room) (and_both (le-leb (n + 1) (length A2.columns.kind) kind_room)
      (and_both (complete (lists_of A2) (names_of A2) (n + 1) (omega (arith, m.small)) g holds) (every_from (is_taken A2) (n + 1) all_taken)))

  pub grown_tree_lem : tree_of A2 ≡ g
  grown_tree_lem = decoded_is (lists_of A2) (names_of A2) (n + 1) (omega (arith, m.small)) g holds

  pub grown_other : (j : ℕ) → j < n → entry_at A2 j ≡ entry_at A j
  grown_other j k = ap (entry_for A.bytes) (other_given j k)

  pub grown_new : entry_at A2 n ≡ entry_for A.bytes e
  grown_new =
      ap (entry_for A.bytes) new_given
      ∙ ap (λ (z : ℕ). record { name = (entry_for A.bytes e).name; kind = e.kind; size = z }) (stored_twice e.kind e.size)

-- ---- THE ARENA AFTER AN ENTRY WAS ADDED

module _ (A : Arena) (e : goal.Entry) (g : Grown) (h : add_of A e ≡ gives g) where
  -- the arena as the answer and the columns afterwards give it
  abbrev pub next : Arena
  next = arena g.root g.count (columns_after A e) A.bytes

  q : Place
  q = (given_taking A e g h).0

  w : Taking A e q
  unfolding q
  w = (given_taking A e g h).1

  given_is : g ≡ record { root = top (grown_tree A e); count = A.count + 1 }
  given_is = let p = sym h ∙ answers A e q w in cc

  next_is : arena (top (grown_tree A e)) (A.count + 1) (columns_with A e) A.bytes ≡ next
  unfolding columns_after
  next_is = λ d. arena (sym given_is d).root (sym given_is d).count (sym (ap (λ (x : Told Grown). if_given x (columns_with A e) A.columns) h) d) A.bytes

  -- it is an arena again, so that the next entry can be added
  pub next_arena : is_arena next ≡ true
  next_arena = ap is_arena (sym next_is) ∙ grown_arena A e q w

  -- it holds one entry more, in the tree into which the new one was put
  pub next_count : g.count ≡ A.count + 1
  next_count = ap (λ (x : Grown). x.count) given_is

  pub next_tree : tree_of next ≡ grown_tree A e
  next_tree = ap tree_of (sym next_is) ∙ grown_tree_lem A e q w

  -- the earlier entries are as they were
  pub next_other : (j : ℕ) → j < A.count → entry_at next j ≡ entry_at A j
  next_other j k = ap (λ (x : Arena). entry_at x j) (sym next_is) ∙ grown_other A e q w j k

  pub next_other_name : (j : ℕ) → j < A.count → name_at (names_of next) j ≡ name_at (names_of A) j
  next_other_name j k = ap (λ (x : Arena). name_at (names_of x) j) (sym next_is) ∙ other_name A e q w j k

  -- and the last is the one that was given
  pub next_new : entry_at next A.count ≡ entry_for A.bytes e
  next_new = ap (λ (x : Arena). entry_at x A.count) (sym next_is) ∙ grown_new A e q w

  pub next_new_name : name_at (names_of next) A.count ≡ name_in A.bytes e
  next_new_name = ap (λ (x : Arena). name_at (names_of x) A.count) (sym next_is) ∙ new_name A e q w
