-- PLANNING NEVER ANSWERS 5: the size of a directory is its table's, which is far below what cannot be rounded. Assumes nothing.
use Prim.Native.Nat.{ℕ, zero, suc, ◌+◌, ◌*◌, ◌≤◌}
use native.Mathlib.Omega.{arith}
use mathlib.Core.Path.{◌≡◌, refl, sym, subst}
use mathlib.Core.Bool.{Bool, true, false}
use mathlib.Core.List.{List, [], ◌∷◌}
use lib.Dec.{ltb, leb, eqb}
use lib.ListN.{length, get_or, set, replicate}
use borrow.Author.Tests.{le-ltb}
use Rattle.units.specs.Told.{Told, gives, refuses, pick}
use Rattle.std.specs.declared.cmp.Ordering.{Ordering}
use Rattle.dirtab_entry.specs.declared.Kind.TheVariants.{File, Directory}
use Rattle.dirtab_entry.specs.Entry.{any_bad, name_in, check_of}
use Rattle.dirtab_entry.specs.Entry as entries
use Rattle.avl_model.specs.declared.Place.TheVariants.{Root}
use Rattle.avl_model.specs.declared.Spot.{Spot}
use Rattle.avl_model.specs.declared.Spot.TheVariants.{Same, Free}
use Rattle.avl_model.specs.Names.{is_less}
use Rattle.avl_model.specs.Seek.{spot_in}
use Rattle.avl_model.specs.Tree.{Tree, leaf, ins}
use Rattle.avl_model.specs.Order.{order}
use Rattle.table_model.specs.Entry.{Entry}
use Rattle.table_model.specs.Place.{free_of, items}
use Rattle.table_model.specs.Table.{Placing, any_far, size_of, place_of}
use Rattle.dirtab_grow.specs.Grow.{if_taken, if_free, grow_from, order_in}
use Rattle.img_model.specs.Shares.{Request, Share, share_of, directories_of, value_of, is_tree}
use Rattle.img_model.specs.Plan.{table_in, size_at, given_at, entry_in, check_in, tree_in, if_grown, sizes_down, Taking, entries_at, taking_all, if_placed, taking_up, rooted, Plan, with_sizes, if_sized, total, plan_of}
use Rattle.agree_plan.proofs.Grew.{table_small}

-- an answer that is not 5
abbrev NotFive : {A : Type 0} → Told A → Type 0
NotFive (gives x) = Unit {0}
NotFive (refuses k vs) = k ≡ 5 → ⊥

-- the largest size of a table
abbrev most : ℕ
most = 16384 * 2320

by_test : {A : Type 0} (b : Bool) (k : ℕ) (x : Told A) → (k ≡ 5 → ⊥) → NotFive x → NotFive (pick b (refuses k []) x)
by_test true k x f h = f
by_test false k x f h = h

passed_other : (a b : Told (Unit {0})) → NotFive a → NotFive b → NotFive (entries.if_passed a b)
passed_other (gives u) b f h = h
passed_other (refuses k vs) b f h = f

-- what is asked of an entry
roundable : (b : Bool) (x v : ℕ) → x ≤ most → pick (entries.is_directory (pick b Directory File)) (ltb 4294965248 (pick b x v)) false ≡ false
roundable true x v h = le-ltb 4294965248 x (omega arith)
roundable false x v h = refl

check_other : (S : Share) (tab : ℕ → ℕ) → ((x : ℕ) → tab x ≤ most) → (i : ℕ) → NotFive (check_in S tab i)
unfolding check_of
check_other S tab h i =
    by_test (ltb 4294967295 (size_at S tab i)) 10 _ (λ e. omega arith)
    (passed_other (entries.check_name S.bytes (given_at S tab i)) (entries.check_size (given_at S tab i))
    (by_test (eqb (given_at S tab i).len 0) 1 _ (λ e. omega arith)
    (by_test (ltb (length S.bytes) ((given_at S tab i).start + (given_at S tab i).len)) 2 _ (λ e. omega arith)
    (by_test (any_bad (name_in S.bytes (given_at S tab i))) 2 _ (λ e. omega arith)
    (by_test (ltb 255 (given_at S tab i).len) 3 _ (λ e. omega arith) tt))))
    (subst (λ (b : Bool). NotFive (pick b (refuses 5 []) (gives tt))) (sym (roundable (eqb (get_or S.kind i 0) 1) (tab (value_of S i)) (value_of S i) (h (value_of S i)))) tt))

-- growing
taken_other : (i : ℕ) (c : Told (Unit {0})) (x : Told Tree) → NotFive c → NotFive x → NotFive (if_taken i c x)
taken_other i (gives u) x f h = h
taken_other i (refuses k vs) x f h = f

free_other : (i : ℕ) (q : Spot) (x : Told Tree) → NotFive x → NotFive (if_free i q x)
free_other i (Same j) x h = λ e. omega arith
free_other i (Free r) x h = h

room_other : (i : ℕ) (b : Bool) (x : Told Tree) → NotFive x → NotFive (pick b x (refuses 6 (i ∷ [])))
room_other i true x h = h
room_other i false x h = λ e. omega arith

grow_other : (check : ℕ → Told (Unit {0})) (between : ℕ → ℕ → Ordering) → ((i : ℕ) → NotFive (check i)) → (k i : ℕ) (t : Tree) → NotFive (grow_from check between k i t)
unfolding grow_from
grow_other check between h zero i t = tt
grow_other check between h (suc k) i t =
    taken_other i (check i) _ (h i)
    (free_other i (spot_in (between i) t Root) _
    (room_other i (ltb i 16384) _ (grow_other check between h k (i + 1) (ins (λ j. is_less (between i j)) i t))))

tree_other : (S : Share) (tab : ℕ → ℕ) → ((x : ℕ) → tab x ≤ most) → NotFive (tree_in S tab)
unfolding tree_in
tree_other S tab h = grow_other (check_in S tab) (order_in S.bytes (given_at S tab)) (check_other S tab h) S.count 0 leaf

-- sizes that are all low stay so
pub set_low : (xs : List ℕ) (n z x : ℕ) → z ≤ most → get_or xs x 0 ≤ most → get_or (set xs n z) x 0 ≤ most
set_low [] n z x hz h = h
set_low (y ∷ ys) zero z zero hz h = hz
set_low (y ∷ ys) zero z (suc x) hz h = h
set_low (y ∷ ys) (suc n) z zero hz h = h
set_low (y ∷ ys) (suc n) z (suc x) hz h = set_low ys n z x hz h

pub zeros_low : (n x : ℕ) → get_or (replicate n 0) x 0 ≤ most
zeros_low zero x = omega arith
zeros_low (suc n) zero = omega arith
zeros_low (suc n) (suc x) = zeros_low n x

module _ (R : Request) where
  abbrev Low : List ℕ → Type 0
  Low s = (x : ℕ) → table_in s x ≤ most

  -- sizes that are all low, or an answer that is not 5
  abbrev Fine : Told (List ℕ) → Type 0
  Fine (gives s) = Low s
  Fine (refuses k vs) = k ≡ 5 → ⊥

  sized_other : (d : ℕ) (g : Told Tree) (next : Tree → Told (List ℕ)) → NotFive g → ((t : Tree) → g ≡ gives t → Fine (next t)) → Fine (if_grown R d g next)
  sized_other d (gives t) next f h = h t refl
  sized_other d (refuses k vs) next f h = f

  down_other : (n : ℕ) (sizes : List ℕ) → Low sizes → Fine (sizes_down R n sizes)
  unfolding sizes_down
  down_other zero sizes h = h
  down_other (suc n) sizes h =
      sized_other n (tree_in (share_of R n) (table_in sizes)) _ (tree_other (share_of R n) (table_in sizes) h)
      (λ t e. down_other n (set sizes n (size_of (entry_in (share_of R n) (table_in sizes)) t))
      (λ x. set_low sizes n _ x (table_small (share_of R n) (table_in sizes) t e) (h x)))

  -- placing answers 7 or 8
  place_other : (entry : ℕ → Entry) (s : ℕ) (t : Tree) → NotFive (place_of entry 1 s t)
  unfolding place_of
  place_other entry s t =
      by_test (any_far (items entry 1 0 s t)) 7 _ (λ e. omega arith) (by_test (ltb 4294967295 (free_of entry 1 s t)) 8 _ (λ e. omega arith) tt)

  grown_other : (d : ℕ) (g : Told Tree) (next : Tree → Told Taking) → NotFive g → ((t : Tree) → NotFive (next t)) → NotFive (if_grown R d g next)
  grown_other d (gives t) next f h = h t
  grown_other d (refuses k vs) next f h = f

  placed_other : (s : List ℕ) (d : ℕ) (g : Told Placing) (x : Told Taking) → NotFive g → NotFive x → NotFive (if_placed R s d g x)
  placed_other s d (gives q) x f h = h
  placed_other s d (refuses k vs) x f h = f

  up_other : (s : List ℕ) → Low s → (k d : ℕ) (p : Taking) → NotFive (taking_up R s k d p)
  unfolding taking_up
  up_other s h zero d p = tt
  up_other s h (suc k) d p =
      grown_other d (tree_in (share_of R d) (table_in s)) _ (tree_other (share_of R d) (table_in s) h)
      (λ t. placed_other s d (place_of (entries_at R s d) 1 p.free t) _ (place_other (entries_at R s d) p.free t) (up_other s h k (d + 1) (taking_all R s d p (order t))))

  with_other : (s : List ℕ) (x : Told Taking) → NotFive x → NotFive (with_sizes s x)
  with_other s (gives p) h = tt
  with_other s (refuses k vs) h = h

  all_other : (g : Told (List ℕ)) (next : List ℕ → Told Taking) → Fine g → ((s : List ℕ) → Low s → NotFive (next s)) → NotFive (if_sized g next)
  all_other (gives s) next f h = with_other s (next s) (h s f)
  all_other (refuses k vs) next f h = f

  else_other : (b : Bool) (k : ℕ) (x : Told Plan) → (k ≡ 5 → ⊥) → NotFive x → NotFive (pick b x (refuses k []))
  else_other true k x f h = h
  else_other false k x f h = f

  plan_other : (places : ℕ) (tables sectors : List ℕ) → NotFive (plan_of R places tables sectors)
  unfolding plan_of
  plan_other places tables sectors =
      else_other (is_tree R) 11 _ (λ e. omega arith)
      (else_other (leb (total R.share) places) 6 _ (λ e. omega arith)
      (all_other (sizes_down R (directories_of R) (replicate (directories_of R) 0)) _ (down_other (directories_of R) (replicate (directories_of R) 0) (zeros_low (directories_of R)))
      (λ s h. up_other s h (directories_of R) 0 (rooted R s tables sectors))))

  -- NEVER 5
  pub never_5 : (places : ℕ) (tables sectors vs : List ℕ) → plan_of R places tables sectors ≡ refuses 5 vs → ⊥
  never_5 places tables sectors vs e = subst NotFive e (plan_other places tables sectors) refl
