-- The scope's cases that speak of adding: `abb` then `ABB`, and a duplicate into a full arena; and an arena of one place, by computing.
use Rattle.std.proofs.Common.{ℕ, ◌+◌, ◌<◌, arith, ◌≡◌, refl, sym, ap, ◌∙◌, true, false, List, [], ◌∷◌}
use Rattle.units.specs.Told.{gives, refuses}
use Rattle.std.specs.declared.cmp.Ordering.TheVariants.{Equal}
use Rattle.layout_name.specs.Order.{number_order, list_order, raised}
use Rattle.name_role.specs.Roles.{given_keys, given_order}
use Rattle.name_role.proofs.Roles.{given_equal}
use Rattle.dirtab_entry.specs.declared.Entry as goal
use Rattle.dirtab_entry.specs.declared.Kind.TheVariants.{File, Directory}
use Rattle.dirtab_entry.specs.Entry.{any_bad, name_in, check_of}
use Rattle.avl_model.specs.declared.Place.{Place}
use Rattle.avl_model.specs.declared.Place.TheVariants.{Root}
use Rattle.avl_model.specs.declared.Spot.{Spot}
use Rattle.avl_model.specs.declared.Spot.TheVariants.{Same, Free}
use Rattle.avl_model.specs.Names.{to_name}
use Rattle.avl_model.specs.Seek.{spot_in, tree_at}
use Rattle.avl_model.specs.Tree.{top}
use Rattle.avl_model.specs.Rep.{arr_of}
use Rattle.avl_model.specs.Columns.{written}
use Rattle.avl_model.proofs.Search.{same_found}
use Rattle.avl_model.proofs.Counted.{all_at, rep_below}
use Rattle.avl_arena.specs.Test.{places, inside, between, cell_ok, decoded, whole_tree, holds_tree}
use Rattle.dirtab_arena.specs.Arena.{columns, Arena, arena, lists_of, is_taken, is_arena, tree_of}
use Rattle.dirtab_add.specs.Add.{Grown, order_to, grown_tree, has_room, add_of, columns_with, columns_after}
use Rattle.dirtab_add.specs.inner.Judging.{Checked}
use Rattle.dirtab_arena.proofs.Passed.{held}
use Rattle.dirtab_add.proofs.Ways.{no_room, refused, answers}
use Rattle.dirtab_add.proofs.Given.{duplicate}
use Rattle.dirtab_add.proofs.Again.{next, next_arena, next_count, next_new_name}

-- ---- an entry, and after it one of the same name but for case

module _ (A : Arena) (e f : goal.Entry) (g : Grown) (h : add_of A e ≡ gives g) where
  pub same_again : given_keys (name_in A.bytes f) ≡ given_keys (name_in A.bytes e) → check_of A.bytes f ≡ gives tt
      → (add_of (next A e g h) f ≡ refuses 4 []) × (columns_after (next A e g h) f ≡ (next A e g h).columns)
  unfolding to_name
  same_again s t =
      duplicate (next A e g h) f (record { passes = next_arena A e g h; taken = t }) A.count (omega (arith, next_count A e g h))
      (ap (given_order (name_in A.bytes f)) (next_new_name A e g h) ∙ given_equal (name_in A.bytes f) (name_in A.bytes e) s)

  -- `abb` then `ABB` is 4, and all is as `abb` left it
  pub abb_ABB : name_in A.bytes e ≡ 97 ∷ 98 ∷ 98 ∷ [] → name_in A.bytes f ≡ 65 ∷ 66 ∷ 66 ∷ [] → check_of A.bytes f ≡ gives tt
      → (add_of (next A e g h) f ≡ refuses 4 []) × (columns_after (next A e g h) f ≡ (next A e g h).columns)
  unfolding given_keys raised
  abb_ABB ee ef t = same_again (ap given_keys ef ∙ sym (ap given_keys ee)) t

-- ---- a full arena

module _ (A : Arena) (e : goal.Entry) (c : Checked A e) where
  -- a duplicate into it is 4
  pub full_duplicate : has_room A.count A.columns ≡ false → (j : ℕ) → j < A.count → order_to A e j ≡ Equal → add_of A e ≡ refuses 4 []
  full_duplicate r j h q = (duplicate A e c j h q).0

  module _ (new : (j : ℕ) → j < A.count → order_to A e j ≡ Equal → ⊥) where
    goes_to : (q : Place) × (spot_in (order_to A e) (tree_of A) Root ≡ Free q)
    goes_to = go (spot_in (order_to A e) (tree_of A) Root) refl
      where
        go : (s : Spot) → spot_in (order_to A e) (tree_of A) Root ≡ s → (q : Place) × (spot_in (order_to A e) (tree_of A) Root ≡ Free q)
        go (Same i) p =
            let f = same_found (order_to A e) (tree_of A) Root i p in
            absurd (new i (all_at (λ j. j < A.count) (tree_of A) i (rep_below (arr_of (lists_of A)) A.count 65535 (tree_of A) (held A c.passes).rep) f.1) f.0)
        go (Free q) p = (q, p)

    -- a new name into it is 6
    pub full_new : A.count < 65536 → has_room A.count A.columns ≡ false → add_of A e ≡ refuses 6 []
    full_new s r = sym (refused A e _ (no_room A e c refl goes_to.1 refl r)).0

    -- and where there is room it is given
    pub room_given : has_room A.count A.columns ≡ true → add_of A e ≡ gives (record { root = top (grown_tree A e); count = A.count + 1 })
    room_given r = answers A e goes_to.0 (record { checked = c; free = goes_to.1; room = r })

-- ---- columns of one place, and the bytes `abbABBc`

abbrev bytes : List ℕ
bytes = 97 ∷ 98 ∷ 98 ∷ 65 ∷ 66 ∷ 66 ∷ 99 ∷ []

abbrev nothing : Arena
nothing = arena 65535 0 (columns (7 ∷ []) (7 ∷ []) (7 ∷ []) (7 ∷ []) (7 ∷ []) (7 ∷ []) (7 ∷ []) (7 ∷ [])) bytes

abbrev one : Arena
one = arena 0 1 (columns (65535 ∷ []) (65535 ∷ []) (65535 ∷ []) (1 ∷ []) (0 ∷ []) (3 ∷ []) (4096 ∷ []) (1 ∷ [])) bytes

-- the directory `abb` of size 2,049 is added to nothing: 4,096 is stored, and the kind
abb_answer : add_of nothing (record { start = 0; len = 3; kind = Directory; size = 2049 }) ≡ gives (record { root = 0; count = 1 })
unfolding add_of is_arena is_taken holds_tree whole_tree places decoded tree_at check_of any_bad has_room
abb_answer = refl

abb_columns : columns_after nothing (record { start = 0; len = 3; kind = Directory; size = 2049 }) ≡ one.columns
unfolding columns_after columns_with add_of is_arena is_taken holds_tree whole_tree places decoded tree_at check_of any_bad has_room written
abb_columns = refl

-- into the full arena: `ABB` is 4, and `c` is 6
ABB-answer : add_of one (record { start = 3; len = 3; kind = File; size = 5 }) ≡ refuses 4 []
unfolding add_of is_arena is_taken holds_tree whole_tree places inside between cell_ok decoded tree_at check_of any_bad has_room to_name given_order given_keys list_order number_order raised
ABB-answer = refl

c_answer : add_of one (record { start = 6; len = 1; kind = File; size = 5 }) ≡ refuses 6 []
unfolding add_of is_arena is_taken holds_tree whole_tree places inside between cell_ok decoded tree_at check_of any_bad has_room to_name given_order given_keys list_order number_order raised
c_answer = refl

-- an entry of the arena that adding would not take, here a file's name with a byte above 127, is 12
bad_held : add_of (arena 0 1 (columns (65535 ∷ []) (65535 ∷ []) (65535 ∷ []) (1 ∷ []) (0 ∷ []) (1 ∷ []) (5 ∷ []) (0 ∷ [])) (200 ∷ 99 ∷ [])) (record { start = 1; len = 1; kind = File; size = 5 }) ≡ refuses 12 []
unfolding add_of is_arena is_taken holds_tree whole_tree places inside between cell_ok decoded tree_at check_of any_bad
bad_held = refl
