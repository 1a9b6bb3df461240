-- WHAT THE STATEMENTS SUPPOSE CAN BE MET, computed: by a list of `a`, `b`, `c`, files of size 1, written from sector 34 on; by an arena that holds them; by an
-- image with a directory `d` and a file `a` in its root, and a file `b` in `d`; by that image with its descriptor before it, in both forms of the root's size; by a chain that
-- reads an offset again; by a table of three entries that the strict check accepts; and by a descriptor with the greatest numbers that its fields hold, and the bytes of two that differ in the stamp alone. Assumes nothing.
use Prim.Native.Nat.{ℕ, zero, suc, ◌+◌, ◌≤◌, ◌<◌}
use native.Mathlib.Omega.{arith}
use mathlib.Core.Path.{◌≡◌, refl, sym, ap, ◌∙◌}
use mathlib.Core.Bool.{Bool, true, ◌&&◌}
use mathlib.Core.Logic.{inl, inr}
use mathlib.Core.List.{List, [], ◌∷◌, ◌++◌, append-nil}
use lib.ListN.{length, get_or, take, drop, replicate, length-replicate}
use lib.Seq.{drop_at, drop-drop}
use lib.Dec.{ltb}
use borrow.Author.Tests.{ltb-true}
use Rattle.units.specs.Told.{gives}
use Rattle.units.specs.declared.Sector.{Sector}
use Rattle.units.specs.declared.Region.{Region}
use Rattle.layout_name.specs.Order.{raised, number_order, list_order}
use Rattle.name_role.specs.Roles.{given_keys, stored_of, given_order}
use Rattle.layout_sector.specs.Counter.{sectors_for}
use Rattle.dirtab_entry.specs.Entry.{rounded, any_bad, check_of}
use Rattle.std.specs.Prelude.{Err}
use Rattle.read_lookup.specs.declared.LookupError.TheVariants as error
use Rattle.read_lookup.specs.Lookup as lookup
use Rattle.read_lookup.specs.Lookup.{lookup_of}
use Rattle.read_lookup.proofs.Cases.{file, first, of_size}
use Rattle.read_lookup.proofs.Loops as loops
use Rattle.read_walk.specs.Walk.{counted}
use Rattle.strict_rule.specs.Strict as checking
use Rattle.table_shape.proofs.Cases.{below_c}
use Rattle.table_shape.proofs.Cases as filed-cases
use Rattle.avl_model.specs.Tree.{bal}
use Rattle.avl_model.specs.Names.{names_in, name_at, to_name}
use Rattle.avl_model.specs.Seek.{tree_at}
use Rattle.avl_arena.specs.Test.{places, inside, between, cell_ok, decoded, whole_tree, holds_tree}
use Rattle.avl_arena.proofs.Tested.{and_l, and_r}
use Rattle.table_model.specs.Place.{start_after, end_of, free_of, items}
use Rattle.table_model.specs.Table.{any_far, Placing, size_of, place_of}
use Rattle.dirtab_arena.specs.Arena.{Columns, columns, Arena, arena, is_taken, is_arena}
use Rattle.dirtab.specs.Serialise as serialise
use Rattle.dirtab.specs.Serialise.{serialise_of}
use Rattle.dirtab_grow.specs.Grow.{grow_from}
use Rattle.dirtab_list.specs.Whole as whole
use Rattle.dirtab_list.specs.Whole.{Listing, listing, given_in, entry_in, whole_of}
use Rattle.img_model.specs.Shares.{is_tree}
use Rattle.img_model.specs.Plan.{total, tree_in, sizes_down, taking_all, taking_up, plan_of}
use Rattle.img_model.specs.Image as image
use Rattle.img_model.specs.Image.{Asked, asked, fits, has_room, request_in, image_of, lent_after}
use Rattle.agree.specs.Given.{grown}
use Rattle.agree.specs.Written.{Stand, SizedFor}
use Rattle.agree.proofs.Sized.{as_reported, as_rounded}
use Rattle.agree_list.specs.InTurn.{add_all, empty_in, then_output, Wide}
use Rattle.agree_list.proofs.Same.{same_answer}
use Rattle.agree_plan.proofs.Cases as plans
use Rattle.agree_writers.proofs.Stands.{first_stand}
use Rattle.agree_causes.specs.Lists.{Fair, FairList, Enough, EnoughInTurn, tree_for}
use Rattle.agree_causes.specs.Plans.{FairImage, EnoughFor, GivenIn}
use Rattle.layout_volume.specs.declared.Descriptor.{Descriptor}
use Rattle.layout_volume.specs.Descriptor.{descriptor_bytes}
use Rattle.layout_volume.proofs.Laws.{descriptor_length}
use Rattle.limits_rule.specs.Limits.{limits_of}
use Rattle.agree_limits.specs.Loaded.{Described}
use Rattle.claims.specs.Dated.{Fits, stamped}
use Rattle.claims.specs.Found.{ListRead, TurnRead, ArenaRead}
use Rattle.claims.specs.Image.{ImageRead}
use Rattle.claims.proofs.Loaded.{planned_loads}

-- numbers below a bound, one by one
first_of : (P : ℕ → Type 0) → P 0 → (i : ℕ) → i < 1 → P i
first_of P a zero h = a
first_of P a (suc i) h = absurd (omega arith)

two_of : (P : ℕ → Type 0) → P 0 → P 1 → (i : ℕ) → i < 2 → P i
two_of P a b zero h = a
two_of P a b (suc zero) h = b
two_of P a b (suc (suc i)) h = absurd (omega arith)

three_of_lem : (P : ℕ → Type 0) → P 0 → P 1 → P 2 → (i : ℕ) → i < 3 → P i
three_of_lem P a b c zero h = a
three_of_lem P a b c (suc zero) h = b
three_of_lem P a b c (suc (suc zero)) h = c
three_of_lem P a b c (suc (suc (suc i))) h = absurd (omega arith)

-- ---- a list

abbrev abc : Listing
abc = listing 3 (0 ∷ 1 ∷ 2 ∷ []) (1 ∷ 1 ∷ 1 ∷ []) (1 ∷ 1 ∷ 1 ∷ []) (0 ∷ 0 ∷ 0 ∷ []) (0x61 ∷ 0x62 ∷ 0x63 ∷ [])

abc_raised : (i : ℕ) → i < 3 → given_keys (name_at (names_in abc.bytes abc.start abc.len) i) ≡ (65 + i) ∷ []
unfolding given_keys raised
abc_raised = three_of_lem (λ i. given_keys (name_at (names_in abc.bytes abc.start abc.len) i) ≡ (65 + i) ∷ []) refl refl refl

abc_named : Fair 3 abc.start abc.len abc.bytes
abc_named = record {
  few = omega arith;
  some = three_of_lem (λ i. 1 ≤ get_or abc.len i 0) (omega arith) (omega arith) (omega arith);
  short = three_of_lem (λ i. get_or abc.len i 0 ≤ 255) (omega arith) (omega arith) (omega arith);
  inside = three_of_lem (λ i. get_or abc.start i 0 + get_or abc.len i 0 ≤ 3) (omega arith) (omega arith) (omega arith);
  ascii = λ i k h. three_of_lem
      (λ j. (n : ℕ) → n < get_or abc.len j 0 → (1 ≤ get_or abc.bytes (get_or abc.start j 0 + n) 0) × (get_or abc.bytes (get_or abc.start j 0 + n) 0 ≤ 127))
      (first_of (λ n. (1 ≤ get_or abc.bytes (0 + n) 0) × (get_or abc.bytes (0 + n) 0 ≤ 127)) (omega arith, omega arith))
      (first_of (λ n. (1 ≤ get_or abc.bytes (1 + n) 0) × (get_or abc.bytes (1 + n) 0 ≤ 127)) (omega arith, omega arith))
      (first_of (λ n. (1 ≤ get_or abc.bytes (2 + n) 0) × (get_or abc.bytes (2 + n) 0 ≤ 127)) (omega arith, omega arith)) i h k;
  differ = λ i j h k e.
      let same : (65 + i) ∷ [] ≡ (65 + j) ∷ [] = sym (abc_raised i h) ∙ e ∙ abc_raised j k in
      let first : 65 + i ≡ 65 + j = cc in
      omega arith;
}

ones : (i : ℕ) → get_or {A = ℕ} (1 ∷ 1 ∷ 1 ∷ []) i 0 ≤ 4294967295
ones zero = omega arith
ones (suc zero) = omega arith
ones (suc (suc zero)) = omega arith
ones (suc (suc (suc i))) = omega arith

pub abc_fair : FairList abc
abc_fair = record { named = abc_named; sizes = ones }

abbrev zeros : List ℕ
zeros = 0 ∷ 0 ∷ 0 ∷ []

abbrev out : List ℕ
out = replicate 2048 0

abbrev memory : whole.Lent
memory = whole.lent zeros zeros zeros zeros zeros zeros zeros out

size_48 : rounded (size_of (entry_in abc) (tree_for abc)) ≡ 2048
unfolding grown bal end_of start_after raised number_order list_order given_order given_keys stored_of
size_48 = refl

roomy : rounded (size_of (entry_in abc) (tree_for abc)) ≤ length out
roomy = let n : length out ≡ 2048 = refl in omega (arith, size_48)

pub abc_enough : Enough abc memory
abc_enough = record { places = refl; output = inr roomy }

-- 262,144 bytes are enough for every list
pub more_enough : Enough abc (whole.lent zeros zeros zeros zeros zeros zeros zeros (replicate 262144 0))
more_enough = record { places = refl; output = inl (long 262144) }
  where
    long : (n : ℕ) → n ≤ length {A = ℕ} (replicate n 0)
    long n = omega (arith, length-replicate {A = ℕ} n 0)

abbrev answer : Placing
answer = record { size = 48; free = 37 }

abbrev window_first : Sector
window_first = record { 0 = 33 }

abbrev region : Region
region = record { sector = record { 0 = 33 }; size = 48 }

abc-answer : whole_of abc 3 34 2048 ≡ gives answer
unfolding whole_of grow_from check_of any_bad place_of any_far bal items end_of free_of start_after sectors_for raised number_order list_order given_order given_keys stored_of
abc-answer = refl

pub abc_read : ListRead abc 34 memory answer (whole.lent_after abc 34 memory).out window_first region
abc_read = record {
  sizes = ones;
  answer = abc-answer;
  stand = first_stand (whole.lent_after abc 34 memory).out window_first (record { 0 = 33 }) 2048 (whole.lent_after abc 34 memory).out
      (record { place = 0; at_sector = refl; rest = []; here = sym (append-nil (whole.lent_after abc 34 memory).out) });
  sized = refl;
}

-- ---- its entries in turn

abbrev cells : Columns
cells = columns zeros zeros zeros zeros zeros zeros zeros zeros

abbrev scratch : serialise.Lent
scratch = serialise.lent zeros zeros out

wide : Wide 3 cells
wide = record {
  left = omega arith;
  right = omega arith;
  parent = omega arith;
  height = omega arith;
  start = omega arith;
  len = omega arith;
  size = omega arith;
  kind = omega arith;
}

pub turn_enough : EnoughInTurn abc cells scratch
turn_enough = record { places = refl; wide = wide; scratch = omega arith; output = inr roomy }

abbrev turn_out : List ℕ
turn_out = then_output (add_all (given_in abc) 3 0 (empty_in cells abc.bytes)) (λ A. (serialise.lent_after A 34 scratch).out) out

pub turn_read : TurnRead abc 34 cells scratch answer turn_out window_first region
turn_read = record {
  sizes = ones;
  places = refl;
  wide = wide;
  scratch = omega arith;
  answer = sym (same_answer abc 3 (omega arith) 34 3 refl cells wide 2048) ∙ abc-answer;
  stand = first_stand turn_out window_first (record { 0 = 33 }) 2048 turn_out
      (record { place = 0; at_sector = refl; rest = []; here = sym (append-nil turn_out) });
  sized = refl;
}

-- ---- an arena that holds them, b above a and c

abbrev held : Arena
held = arena 1 3
    (columns (65535 ∷ 0 ∷ 65535 ∷ []) (65535 ∷ 2 ∷ 65535 ∷ []) (1 ∷ 65535 ∷ 1 ∷ []) (1 ∷ 2 ∷ 1 ∷ []) (0 ∷ 1 ∷ 2 ∷ []) (1 ∷ 1 ∷ 1 ∷ []) (1 ∷ 1 ∷ 1 ∷ []) (0 ∷ 0 ∷ 0 ∷ []))
    (0x61 ∷ 0x62 ∷ 0x63 ∷ [])

held-answer : serialise_of held 34 3 2048 ≡ gives answer
unfolding serialise_of is_arena is_taken holds_tree places inside whole_tree decoded tree_at between cell_ok to_name check_of any_bad place_of any_far items end_of free_of
    start_after sectors_for raised number_order list_order given_order given_keys stored_of
held-answer = refl

pub held_read : ArenaRead held 34 scratch answer (serialise.lent_after held 34 scratch).out window_first region
held_read = record {
  sizes = ones;
  answer = held-answer;
  stand = first_stand (serialise.lent_after held 34 scratch).out window_first (record { 0 = 33 }) 2048 (serialise.lent_after held 34 scratch).out
      (record { place = 0; at_sector = refl; rest = []; here = sym (append-nil (serialise.lent_after held 34 scratch).out) });
  sized = refl;
}

-- ---- an image

abbrev small : Asked
small = asked 2 3 (0 ∷ 2 ∷ []) (2 ∷ 1 ∷ []) (0 ∷ 1 ∷ 2 ∷ []) (1 ∷ 1 ∷ 1 ∷ []) (1 ∷ 0 ∷ 0 ∷ []) (1 ∷ 3000 ∷ 1 ∷ []) (100 ∷ 97 ∷ 98 ∷ [])

abbrev lent : image.Lent
lent = image.lent (0 ∷ 0 ∷ []) (0 ∷ 0 ∷ []) zeros (0 ∷ 0 ∷ []) zeros zeros zeros zeros zeros zeros zeros

-- names of one byte, each its place in the bytes
root_raised : (i : ℕ) → i < 2 → given_keys (name_at (names_in (100 ∷ 97 ∷ 98 ∷ []) (0 ∷ 1 ∷ []) (1 ∷ 1 ∷ [])) i) ≡ get_or (68 ∷ 65 ∷ []) i 0 ∷ []
unfolding given_keys raised
root_raised = two_of (λ i. given_keys (name_at (names_in (100 ∷ 97 ∷ 98 ∷ []) (0 ∷ 1 ∷ []) (1 ∷ 1 ∷ [])) i) ≡ get_or (68 ∷ 65 ∷ []) i 0 ∷ []) refl refl

apart : (i : ℕ) → i < 2 → (j : ℕ) → j < 2 → get_or {A = ℕ} (68 ∷ 65 ∷ []) i 0 ≡ get_or (68 ∷ 65 ∷ []) j 0 → i ≡ j
apart = two_of (λ i. (j : ℕ) → j < 2 → get_or {A = ℕ} (68 ∷ 65 ∷ []) i 0 ≡ get_or (68 ∷ 65 ∷ []) j 0 → i ≡ j)
    (two_of (λ j. ◌≡◌ {A = ℕ} 68 (get_or (68 ∷ 65 ∷ []) j 0) → 0 ≡ j) (λ e. refl) (λ e. absurd (omega arith)))
    (two_of (λ j. ◌≡◌ {A = ℕ} 65 (get_or (68 ∷ 65 ∷ []) j 0) → 1 ≡ j) (λ e. absurd (omega arith)) (λ e. refl))

abbrev bytes : List ℕ
bytes = 100 ∷ 97 ∷ 98 ∷ []

root_named : Fair 2 (0 ∷ 1 ∷ []) (1 ∷ 1 ∷ []) bytes
root_named = record {
  few = omega arith;
  some = two_of (λ i. 1 ≤ get_or {A = ℕ} (1 ∷ 1 ∷ []) i 0) (omega arith) (omega arith);
  short = two_of (λ i. get_or {A = ℕ} (1 ∷ 1 ∷ []) i 0 ≤ 255) (omega arith) (omega arith);
  inside = two_of (λ i. get_or {A = ℕ} (0 ∷ 1 ∷ []) i 0 + get_or (1 ∷ 1 ∷ []) i 0 ≤ 3) (omega arith) (omega arith);
  ascii = λ i k h. two_of
      (λ j. (n : ℕ) → n < get_or {A = ℕ} (1 ∷ 1 ∷ []) j 0 → (1 ≤ get_or bytes (get_or (0 ∷ 1 ∷ []) j 0 + n) 0) × (get_or bytes (get_or (0 ∷ 1 ∷ []) j 0 + n) 0 ≤ 127))
      (first_of (λ n. (1 ≤ get_or bytes (0 + n) 0) × (get_or bytes (0 + n) 0 ≤ 127)) (omega arith, omega arith))
      (first_of (λ n. (1 ≤ get_or bytes (1 + n) 0) × (get_or bytes (1 + n) 0 ≤ 127)) (omega arith, omega arith)) i h k;
  differ = λ i j h k e.
      let same : ◌≡◌ {A = List ℕ} (get_or (68 ∷ 65 ∷ []) i 0 ∷ []) (get_or (68 ∷ 65 ∷ []) j 0 ∷ []) = sym (root_raised i h) ∙ e ∙ root_raised j k in
      apart i h j k cc;
}

below_named : Fair 1 (2 ∷ []) (1 ∷ []) bytes
below_named = record {
  few = omega arith;
  some = first_of (λ i. 1 ≤ get_or {A = ℕ} (1 ∷ []) i 0) (omega arith);
  short = first_of (λ i. get_or {A = ℕ} (1 ∷ []) i 0 ≤ 255) (omega arith);
  inside = first_of (λ i. get_or {A = ℕ} (2 ∷ []) i 0 + get_or (1 ∷ []) i 0 ≤ 3) (omega arith);
  ascii = λ i k h. first_of
      (λ j. (n : ℕ) → n < get_or {A = ℕ} (1 ∷ []) j 0 → (1 ≤ get_or bytes (get_or (2 ∷ []) j 0 + n) 0) × (get_or bytes (get_or (2 ∷ []) j 0 + n) 0 ≤ 127))
      (first_of (λ n. (1 ≤ get_or bytes (2 + n) 0) × (get_or bytes (2 + n) 0 ≤ 127)) (omega arith, omega arith)) i h k;
  differ = λ i j h k e. omega arith;
}

pub small_fair : FairImage (request_in small)
unfolding is_tree
small_fair = record {
  tree = refl;
  named = two_of (λ d. Fair (get_or (2 ∷ 1 ∷ []) d 0) _ _ bytes) root_named below_named;
}

pub small_enough : EnoughFor small lent
unfolding has_room fits total
small_enough = record { room = refl; orders = omega arith }

pub small_given : GivenIn small lent 38
unfolding lent_after image_of has_room fits plan_of is_tree total sizes_down tree_in taking_up taking_all grow_from check_of any_bad given_order given_keys stored_of list_order number_order
    raised bal place_of any_far items end_of free_of start_after sectors_for
small_given = record { plan = plans.its_plan; planned = plans.planned; free = refl; sizes = refl; tables = refl; sectors = refl }

pub small_read : ImageRead (request_in small) plans.its_plan plans.window plans.window_first
small_read = record { apart = (plans.imaged).apart; stand = (plans.imaged).stand }

-- with its descriptor, at sector 32; the root's size is 32, as reported, or 2,048
abbrev small_descriptor : ℕ → Descriptor
small_descriptor size = stamped (record { sector = record { 0 = 33 }; size = size }) 1000

abbrev small_window : ℕ → List ℕ
small_window size = descriptor_bytes (small_descriptor size) ++ plans.window

abbrev sector_32 : Sector
sector_32 = record { 0 = 32 }

module _ (size : ℕ) where
  -- what stands in the window from sector 33 on stands in this one
  behind_it : (sector : Sector) (bytes : List ℕ) → Stand plans.window plans.window_first sector bytes → Stand (small_window size) sector_32 sector bytes
  behind_it sector bytes s = record {
    place = 2048 + s.place;
    at_sector = omega (arith, s.at_sector);
    rest = s.rest;
    here = sym (drop-drop s.place 2048 (small_window size))
        ∙ ap (drop s.place) (drop_at (descriptor_bytes (small_descriptor size)) plans.window 2048 (descriptor_length (small_descriptor size))) ∙ s.here;
  }

  pub small_dated : ImageRead (request_in small) plans.its_plan (small_window size) sector_32
  small_dated = record { apart = (plans.imaged).apart; stand = λ d h. behind_it _ _ ((plans.imaged).stand d h) }

  pub small_described : SizedFor 32 size → Described plans.its_plan (small_window size) sector_32 (small_descriptor size)
  small_described z = record { root = record { at = refl; sized = z }; stamp = omega arith; stand = record { place = 0; at_sector = refl; rest = plans.window; here = refl } }

  -- so the file `b` in `d` is loaded, by the path `D/B`, at the time of its stamp
  small_loaded : SizedFor 32 size → limits_of (small_window size) sector_32 (68 ∷ 47 ∷ 66 ∷ []) 1000 0 ≡ record { number = 0; sector = record { 0 = 37 }; size = 1; stamp = 1000 }
  unfolding small_given
  small_loaded z =
      (planned_loads small lent 38 small_given (small_window size) sector_32 small_dated (small_descriptor size) (small_described z) 1 0 ((68 ∷ []) ∷ (66 ∷ []) ∷ []) plans.led refl).loaded
      1000 0 (omega arith) (omega arith) (omega arith)

pub loaded_as_reported : limits_of (small_window 32) sector_32 (68 ∷ 47 ∷ 66 ∷ []) 1000 0 ≡ record { number = 0; sector = record { 0 = 37 }; size = 1; stamp = 1000 }
loaded_as_reported = small_loaded 32 (as_reported 32 32 refl)

pub loaded_as_rounded : limits_of (small_window 2048) sector_32 (68 ∷ 47 ∷ 66 ∷ []) 1000 0 ≡ record { number = 0; sector = record { 0 = 37 }; size = 1; stamp = 1000 }
loaded_as_rounded = small_loaded 2048 (as_rounded 32 2048 refl)

-- ---- a window of bytes in which a chain reads an offset again: its second entry names itself

below : List ℕ → Bool
below [] = true
below (x ∷ xs) = ltb x 256 && below xs

all_bytes : (xs : List ℕ) → below xs ≡ true → (i : ℕ) → get_or xs i 0 < 256
unfolding below
all_bytes [] e i = omega arith
all_bytes (x ∷ xs) e zero = ltb-true x 256 (and_l _ _ e)
all_bytes (x ∷ xs) e (suc i) = all_bytes xs (and_r (ltb x 256) _ e) i

abbrev itself : List ℕ
itself = file 0 4 34 97 ++ file 0 4 35 98

pub itself_bytes : (i : ℕ) → get_or itself i 0 < 256
unfolding below
itself_bytes = all_bytes itself refl

pub itself_looped : lookup.told (Err error.Looped) ≡ lookup_of 1 itself first (of_size 32) (122 ∷ [])
itself_looped = sym loops.itself_looped

-- ---- a window of bytes with a table that the strict check accepts: the root m, its left child c, and c's right child g

pub filed_bytes : (i : ℕ) → get_or (below_c 103) i 0 < 256
unfolding below
filed_bytes = all_bytes (below_c 103) refl

pub filed_accepted : checking.strict_answer (below_c 103) first (of_size 48) 3 4 ≡ gives 3
unfolding checking.strict_answer
filed_accepted = ap counted (filed-cases.cases).g_accepted

-- ---- a descriptor

abbrev last : Region
last = record { sector = record { 0 = 4294967295 }; size = 4294967295 }

pub last_fits : Fits (stamped last 18446744073709551615)
last_fits = record { sector = omega arith; size = omega arith; stamp = omega arith }

pub last_room : 2048 ≤ length out
last_room = omega arith

-- dated and undated
pub dated_before : take 28 (descriptor_bytes (stamped last 1)) ≡ take 28 (descriptor_bytes (stamped last 0))
unfolding descriptor_bytes
dated_before = refl

pub dated_behind : drop 36 (descriptor_bytes (stamped last 1)) ≡ drop 36 (descriptor_bytes (stamped last 0))
unfolding descriptor_bytes
dated_behind = refl
