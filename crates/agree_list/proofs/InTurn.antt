-- Adding in turn and growing go the same way: the same refusal, or an arena that holds the grown tree. Assumes nothing.
use Prim.Native.Nat.{ℕ, zero, suc, ◌+◌, ◌≤◌, ◌<◌}
use native.Mathlib.Omega.{arith}
use native.Mathlib.Decide.{ℕ_discrete}
use mathlib.Core.Path.{◌≡◌, refl, sym, ap, subst, ◌∙◌}
use mathlib.Core.Bool.{Bool, true, false, ◌&&◌}
use mathlib.Core.List.{List, [], ◌∷◌}
use lib.Dec.{ltb}
use lib.ListN.{length, length-set}
use borrow.Author.Tests.{le-leb, lt-ltb}
use Rattle.units.specs.Told.{Told, gives, refuses, pick}
use Rattle.std.specs.declared.cmp.Ordering.{Ordering}
use Rattle.name_role.specs.Roles.{given_order}
use Rattle.dirtab_entry.specs.declared.Entry as given
use Rattle.dirtab_entry.specs.Entry.{name_in, check_of}
use Rattle.avl_model.specs.declared.Place.TheVariants.{Root}
use Rattle.avl_model.specs.declared.Spot.{Spot}
use Rattle.avl_model.specs.declared.Spot.TheVariants.{Same, Free}
use Rattle.avl_model.specs.Columns.{written}
use Rattle.avl_model.specs.Rep.{arr_of}
use Rattle.avl_model.specs.Laws.{All}
use Rattle.avl_model.specs.Names.{name_at, to_name, is_less}
use Rattle.avl_model.specs.Seek.{spot_in}
use Rattle.avl_model.specs.Tree.{Tree, leaf, none, top, ins}
use Rattle.avl_model.proofs.Alike.{ins_alike, spot_alike}
use Rattle.avl_model.proofs.Avl.{all_map}
use Rattle.avl_model.proofs.Counted.{rep_below}
use Rattle.avl_model.proofs.Written.{write-length}
use Rattle.avl_arena.specs.HeldTree.{HeldTree}
use Rattle.avl_arena.proofs.Tested.{and_both}
use Rattle.avl_arena.proofs.Complete.{complete, decoded_is}
use Rattle.dirtab_arena.specs.Arena.{Columns, Arena, arena, lists_of, names_of, entry_at, is_arena, tree_of}
use Rattle.dirtab_arena.proofs.Passed.{held}
use Rattle.dirtab_add.specs.Add as add
use Rattle.dirtab_add.specs.Add.{Grown, order_to, grown_tree, has_room, add_of, columns_with, if_given, columns_after}
use Rattle.dirtab_add.proofs.Again.{next_arena, next_count, next_tree, next_other, next_other_name, next_new, next_new_name}
use Rattle.dirtab_grow.specs.Listing.{Listing, given_in}
use Rattle.dirtab_grow.specs.Grow.{if_taken, if_free, grow_from, order_in, grow}
use Rattle.dirtab_list.specs.Whole.{entry_in}
use Rattle.agree_list.specs.InTurn.{if_added, add_all, empty_in, Wide}

-- ---- an arena that holds nothing

module _ (c : Columns) (bytes : List ℕ) where
  abbrev E : Arena
  E = empty_in c bytes

  nothing : HeldTree (lists_of E) (names_of E) 0 leaf
  nothing = record {
    places = record { l = omega arith; r = omega arith; p = omega arith; h = omega arith; start = omega arith; len = omega arith };
    root_is = refl;
    rep = tt;
    each = λ j h. absurd (omega arith);
    size_is = refl;
    balanced = tt;
    ordered = tt;
    named = λ j h. absurd (omega arith);
  }

  empty_arena : is_arena E ≡ true
  unfolding is_arena
  empty_arena = and_both (le-leb 0 (length c.size) (omega arith)) (and_both (le-leb 0 (length c.kind) (omega arith)) (and_both (complete (lists_of E) (names_of E) 0 (omega arith) leaf nothing) refl))

  empty_tree : tree_of E ≡ leaf
  empty_tree = decoded_is (lists_of E) (names_of E) 0 (omega arith) leaf nothing

-- ---- one entry

-- where every column has a place more, there is room below 16,384 entries
and_true : (b : Bool) → (b && true) ≡ b
and_true true = refl
and_true false = refl

room_is : (i n : ℕ) (c : Columns) → Wide n c → i < n → has_room i c ≡ ltb i 16384
unfolding has_room
room_is i n c w h =
    let yes : (m : ℕ) → n ≤ m → ltb i m ≡ true = λ m k. lt-ltb i m (omega arith) in
    ap (λ (b : Bool). ltb i 16384 && b)
    (and_both (yes (length c.left) w.left) (and_both (yes (length c.right) w.right) (and_both (yes (length c.parent) w.parent) (and_both (yes (length c.height) w.height)
    (and_both (yes (length c.start) w.start) (and_both (yes (length c.len) w.len) (and_both (yes (length c.size) w.size) (yes (length c.kind) w.kind))))))))
    ∙ and_true (ltb i 16384)

-- the columns keep their lengths
wide_with : (A : Arena) (e : given.Entry) (n : ℕ) → Wide n A.columns → Wide n (columns_with A e)
unfolding columns_with written
wide_with A e n w = record {
  left = simp write-length w.left;
  right = simp write-length w.right;
  parent = simp write-length w.parent;
  height = simp write-length w.height;
  start = simp length-set w.start;
  len = simp length-set w.len;
  size = simp length-set w.size;
  kind = simp length-set w.kind;
}

wide_after : (A : Arena) (e : given.Entry) (g : Grown) (n : ℕ) → add_of A e ≡ gives g → Wide n A.columns → Wide n (columns_after A e)
unfolding columns_after
wide_after A e g n h w = subst (Wide n) (sym (ap (λ (x : Told Grown). if_given x (columns_with A e) A.columns) h)) (wide_with A e n w)

-- ---- entry by entry

module _ (L : Listing) where
  abbrev check : ℕ → Told (Unit {0})
  check i = check_of L.bytes (given_in L i)

  abbrev between : ℕ → ℕ → Ordering
  between = order_in L.bytes (given_in L)

  -- the arena holds the first i entries
  pub record After (A : Arena) (i : ℕ) : Type 0 where
    pub passes : is_arena A ≡ true
    pub count_is : A.count ≡ i
    pub entries : (j : ℕ) → j < i → entry_at A j ≡ entry_in L j
    pub names : (j : ℕ) → j < i → name_at (names_of A) j ≡ name_in L.bytes (given_in L j)
    pub wide : Wide L.count A.columns

  -- what adding and growing end in
  pub record Ended (A : Arena) (t : Tree) : Type 0 where
    pub after : After A L.count
    pub tree_is : tree_of A ≡ t

  abbrev pub Agrees : Told Arena → Told Tree → Type 0
  Agrees (gives A) (gives t) = Ended A t
  Agrees (gives A) (refuses k vs) = ⊥
  Agrees (refuses k vs) (gives t) = ⊥
  Agrees (refuses k vs) (refuses j us) = (k ≡ j) × (vs ≡ us)

  cases : (i : ℕ) (u : Told (Unit {0})) (s : Spot) (b : Bool) (G : Grown) (x : Told Grown) (next : Grown → Told Arena) (y : Told Tree)
      → x ≡ add.if_taken u (add.if_free s (pick b (gives G) (refuses 6 []))) → ((g : Grown) → x ≡ gives g → Agrees (next g) y)
      → Agrees (if_added i x next) (if_taken i u (if_free i s (pick b y (refuses 6 (i ∷ [])))))
  cases i (refuses k vs) s b G x next y e f = subst (λ (v : Told Grown). Agrees (if_added i v next) (refuses k (i ∷ []))) (sym e) (refl, refl)
  cases i (gives u) (Same j) b G x next y e f = subst (λ (v : Told Grown). Agrees (if_added i v next) (refuses 4 (i ∷ []))) (sym e) (refl, refl)
  cases i (gives u) (Free q) false G x next y e f = subst (λ (v : Told Grown). Agrees (if_added i v next) (refuses 6 (i ∷ []))) (sym e) (refl, refl)
  cases i (gives u) (Free q) true G x next y e f = subst (λ (v : Told Grown). Agrees (if_added i v next) y) (sym e) (f G e)

  module _ (root count : ℕ) (c : Columns) (i : ℕ) (a : After (arena root count c L.bytes) i) (lt : i < L.count) where
    abbrev A : Arena
    A = arena root count c L.bytes

    abbrev e : given.Entry
    e = given_in L i

    abbrev t : Tree
    t = tree_of A

    below : All (λ j. j < count) t
    below = rep_below (arr_of (lists_of A)) count none t (held A a.passes).rep

    order_is : (j : ℕ) → j < count → order_to A e j ≡ between i j
    unfolding to_name
    order_is j h = ap (given_order (name_in L.bytes e)) (a.names j (omega (arith, a.count_is)))

    orders : All (λ j. order_to A e j ≡ between i j) t
    orders = all_map (λ j. j < count) (λ j. order_to A e j ≡ between i j) t order_is below

    spot_is : spot_in (order_to A e) t Root ≡ spot_in (between i) t Root
    spot_is = spot_alike (order_to A e) (between i) t Root orders

    more_is : grown_tree A e ≡ ins (λ j. is_less (between i j)) i t
    more_is =
        ins_alike (λ j. is_less (order_to A e j)) (λ j. is_less (between i j)) count t (all_map (λ j. order_to A e j ≡ between i j) (λ j. is_less (order_to A e j) ≡ is_less (between i j)) t (λ j p. ap is_less p) orders)
        ∙ ap (λ (v : ℕ). ins (λ j. is_less (between i j)) v t) a.count_is

    abbrev G : Grown
    G = record { root = top (grown_tree A e); count = count + 1 }

    add_is : add_of A e ≡ add.if_taken (check i) (add.if_free (spot_in (between i) t Root) (pick (ltb i 16384) (gives G) (refuses 6 [])))
    unfolding add_of
    add_is =
        ap (λ (b : Bool). pick b (add.if_taken (check i) (add.if_free (spot_in (order_to A e) t Root) (pick (has_room count c) (gives G) (refuses 6 [])))) (refuses 12 [])) a.passes
        ∙ ap (λ (s : Spot). add.if_taken (check i) (add.if_free s (pick (has_room count c) (gives G) (refuses 6 [])))) spot_is
        ∙ ap (λ (b : Bool). add.if_taken (check i) (add.if_free (spot_in (between i) t Root) (pick b (gives G) (refuses 6 []))))
        (ap (λ (v : ℕ). has_room v c) a.count_is ∙ room_is i L.count c a.wide lt)

    module _ (g : Grown) (h : add_of A e ≡ gives g) where
      abbrev B : Arena
      B = arena g.root g.count (columns_after A e) L.bytes

      after_next : After B (i + 1)
      after_next = record {
        passes = next_arena A e g h;
        count_is = next_count A e g h ∙ ap (λ (v : ℕ). v + 1) a.count_is;
        entries = λ j k. elim (ℕ_discrete j i) [
          | yes p ↦ subst (λ (v : ℕ). entry_at B v ≡ entry_in L v) (sym p) (subst (λ (v : ℕ). entry_at B v ≡ entry_in L i) a.count_is (next_new A e g h))
          | no ne ↦ next_other A e g h j (omega (arith, a.count_is, ne)) ∙ a.entries j (omega (arith, ne))
        ];
        names = λ j k. elim (ℕ_discrete j i) [
          | yes p ↦ subst (λ (v : ℕ). name_at (names_of B) v ≡ name_in L.bytes (given_in L v)) (sym p)
              (subst (λ (v : ℕ). name_at (names_of B) v ≡ name_in L.bytes e) a.count_is (next_new_name A e g h))
          | no ne ↦ next_other_name A e g h j (omega (arith, a.count_is, ne)) ∙ a.names j (omega (arith, ne))
        ];
        wide = wide_after A e g L.count h a.wide;
      }

      tree_next : tree_of B ≡ ins (λ j. is_less (between i j)) i t
      tree_next = next_tree A e g h ∙ more_is

  -- all of the entries that are left
  pub in_turn : (k i : ℕ) → i + k ≡ L.count → (root count : ℕ) (c : Columns) → After (arena root count c L.bytes) i
      → Agrees (add_all (given_in L) k i (arena root count c L.bytes)) (grow_from check between k i (tree_of (arena root count c L.bytes)))
  unfolding add_all grow_from
  in_turn zero i q root count c a = record { after = subst (After (arena root count c L.bytes)) {x = i} {y = L.count} (omega arith) a; tree_is = refl }
  in_turn (suc k) i q root count c a =
      let lt : i < L.count = omega arith in
      cases i (check i) (spot_in (between i) (tree_of (arena root count c L.bytes)) Root) (ltb i 16384) (G root count c i a lt)
      (add_of (arena root count c L.bytes) (given_in L i))
      (λ g. add_all (given_in L) k (i + 1) (arena g.root g.count (columns_after (arena root count c L.bytes) (given_in L i)) L.bytes))
      (grow_from check between k (i + 1) (ins (λ j. is_less (between i j)) i (tree_of (arena root count c L.bytes))))
      (add_is root count c i a lt)
      (λ g h. subst (λ (u : Tree). Agrees (add_all (given_in L) k (i + 1) (B root count c i a lt g h)) (grow_from check between k (i + 1) u)) (tree_next root count c i a lt g h)
      (in_turn k (i + 1) (omega arith) g.root g.count (columns_after (arena root count c L.bytes) (given_in L i)) (after_next root count c i a lt g h)))

  -- from an arena that holds nothing
  pub from_empty : (c : Columns) → Wide L.count c → Agrees (add_all (given_in L) L.count 0 (empty_in c L.bytes)) (grow L.bytes (given_in L) L.count)
  from_empty c w =
      subst (λ (u : Tree). Agrees (add_all (given_in L) L.count 0 (empty_in c L.bytes)) (grow_from check between L.count 0 u)) (empty_tree c L.bytes)
      (in_turn L.count 0 (omega arith) 65535 0 c (record { passes = empty_arena c L.bytes; count_is = refl; entries = λ j h. absurd (omega arith); names = λ j h. absurd (omega arith); wide = w }))
