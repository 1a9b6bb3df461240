-- The ways out of the checks and of `add`.
use Rattle.std.proofs.Common.{ℕ, ◌+◌, ◌-◌, ◌<◌, arith, ◌≡◌, refl, sym, ap, subst, ◌∙◌, Bool, true, false, List, [], length, take, drop, Result, Ok, Err, IsErrAnd}
use Rattle.units.specs.Told.{Told, gives, refuses, pick}
use Rattle.dirtab_entry.specs.declared.Entry as given
use Rattle.dirtab_entry.specs.declared.Cause.{Cause}
use Rattle.dirtab_entry.specs.declared.Cause.TheVariants.{DuplicateFileName, Room}
use Rattle.dirtab_entry.specs.Entry as entry
use Rattle.dirtab_entry.specs.Entry.{cause_number, stored_size, name_in, check_of}
use Rattle.avl_model.specs.declared.Place.{Place}
use Rattle.avl_model.specs.declared.Place.TheVariants.{Root}
use Rattle.avl_model.specs.declared.Spot.{Spot}
use Rattle.avl_model.specs.declared.Spot.TheVariants.{Same, Free}
use Rattle.avl_model.specs.Lists.{Lists, lists}
use Rattle.avl_model.specs.Names.{Names, to_name, is_less}
use Rattle.avl_model.specs.Seek.{spot_in}
use Rattle.avl_model.specs.inner.Seek.{Sought}
use Rattle.avl_model.specs.Tree.{top, ins}
use Rattle.avl_model.specs.inner.Insert.{Placed}
use Rattle.avl_model.specs.Columns.{written}
use Rattle.avl_arena.specs.Test.{part_of}
use Rattle.avl_arena.specs.HeldTree.{Places}
use Rattle.dirtab_arena.specs.Arena.{Columns, columns, Arena, arena, lists_of, names_of, is_arena, tree_of}
use Rattle.dirtab_add.specs.declared.AddError.{AddError}
use Rattle.dirtab_add.specs.declared.AddError.TheVariants.{BadArena, Refused}
use Rattle.dirtab_add.specs.Add.{Grown, order_to, grown_tree, has_room, if_taken, if_free, add_of, columns_with, if_given, columns_after, told}
use Rattle.dirtab_add.specs.inner.Judging.{Checked, Taking, Refusing, Judged, HasPlace, stored_at}
use Rattle.dirtab_add.proofs.Room.{Roomy, room_of}
use Rattle.dirtab_arena.proofs.Fine.{Fine, fine_of}
use Rattle.dirtab_arena.proofs.Passed.{tree_passed}
use Rattle.dirtab_add.proofs.Growing.{placed, placed_tree}

-- ---- refusals

module _ (A : Arena) (e : given.Entry) where
  abbrev grown_is : Told Grown
  grown_is = gives (record { root = top (grown_tree A e); count = A.count + 1 })

  pub bad_arena : {b : Bool} → b ≡ is_arena A → b ≡ false → Refusing A e BadArena
  unfolding add_of
  bad_arena eb h = record {
    number = 12;
    told_is = refl;
    answer = ap (λ (x : Bool). pick x (if_taken (check_of A.bytes e) (if_free (spot_in (order_to A e) (tree_of A) Root) (pick (has_room A.count A.columns) grown_is (refuses 6 [])))) (refuses 12 [])) (sym eb ∙ h);
  }

  module _ (p : is_arena A ≡ true) where
    passed_on : add_of A e ≡ if_taken (check_of A.bytes e) (if_free (spot_in (order_to A e) (tree_of A) Root) (pick (has_room A.count A.columns) grown_is (refuses 6 [])))
    unfolding add_of
    passed_on = ap (λ (x : Bool). pick x (if_taken (check_of A.bytes e) (if_free (spot_in (order_to A e) (tree_of A) Root) (pick (has_room A.count A.columns) grown_is (refuses 6 [])))) (refuses 12 [])) p

    -- 1, 2, 3, 5
    pub bad_entry : {r : Result (Unit {0}) Cause} {c : Cause} → entry.told r ≡ check_of A.bytes e → r ≡ Err c → Refusing A e (Refused c)
    bad_entry {r} {c} er ec = record {
      number = cause_number c;
      told_is = refl;
      answer = passed_on ∙ ap (λ (z : Told (Unit {0})). if_taken z (if_free (spot_in (order_to A e) (tree_of A) Root) (pick (has_room A.count A.columns) grown_is (refuses 6 [])))) (sym er ∙ ap entry.told ec);
    }

  module _ (c : Checked A e) where
    checked_on : add_of A e ≡ if_free (spot_in (order_to A e) (tree_of A) Root) (pick (has_room A.count A.columns) grown_is (refuses 6 []))
    checked_on = passed_on c.passes ∙ ap (λ (z : Told (Unit {0})). if_taken z (if_free (spot_in (order_to A e) (tree_of A) Root) (pick (has_room A.count A.columns) grown_is (refuses 6 [])))) c.taken

    module _ {s : Spot} (es : s ≡ spot_in (order_to A e) (tree_of A) Root) where
      pub same_name : {i : ℕ} → s ≡ Same i → Refusing A e (Refused DuplicateFileName)
      same_name h = record {
        number = 4;
        told_is = refl;
        answer = checked_on ∙ ap (λ (z : Spot). if_free z (pick (has_room A.count A.columns) grown_is (refuses 6 []))) (sym es ∙ h);
      }

      module _ {q : Place} (eq : s ≡ Free q) {b : Bool} (eb : b ≡ has_room A.count A.columns) where
        pub no_room : b ≡ false → Refusing A e (Refused Room)
        no_room h = record {
          number = 6;
          told_is = refl;
          answer = checked_on ∙ ap (λ (z : Spot). if_free z (pick (has_room A.count A.columns) grown_is (refuses 6 []))) (sym es ∙ eq)
              ∙ ap (λ (x : Bool). pick x grown_is (refuses 6 [])) (sym eb ∙ h);
        }

        pub with_room : b ≡ true → Taking A e q
        with_room h = record { checked = c; free = sym es ∙ eq; room = sym eb ∙ h }

-- what a refusal leaves
pub refused : (A : Arena) (e : given.Entry) (x : AddError) → Refusing A e x → (told (Err x) ≡ add_of A e) × (A.columns ≡ columns_after A e)
unfolding columns_after
refused A e x r = (r.told_is ∙ sym r.answer, sym (ap (λ (t : Told Grown). if_given t (columns_with A e) A.columns) r.answer))

-- ---- an entry that is taken

module _ (A : Arena) (e : given.Entry) (q : Place) (w : Taking A e q) where
  pub roomy : Roomy A.count A.columns
  roomy = room_of A.count A.columns w.room

  pub fine : Fine A.bytes e
  fine = fine_of A.bytes e w.checked.taken

  pub places_more : Places (lists_of A) (names_of A) (A.count + 1)
  places_more = record {
    l = omega (arith, roomy.left);
    r = omega (arith, roomy.right);
    p = omega (arith, roomy.parent);
    h =
        omega (arith, roomy.height);
    start = omega (arith, roomy.start);
    len = omega (arith, roomy.len);
  }

  pub goes : Placed (part_of (A.count + 1) (lists_of A)) q A.count
  goes = placed (lists_of A) (names_of A) A.count (tree_passed A w.checked.passes) places_more (omega (arith, roomy.small)) (order_to A e) q w.free

  pub grows : {T : Lists} → ((v : Placed (part_of (A.count + 1) (lists_of A)) q A.count) → T ≡ written (ins (λ i. is_less (v.by i)) A.count v.arena.t) (lists_of A)) → T ≡ written (grown_tree A e) (lists_of A)
  grows f = placed_tree (lists_of A) (names_of A) A.count (tree_passed A w.checked.passes) places_more (omega (arith, roomy.small)) (order_to A e) q w.free f

  pub answers : add_of A e ≡ gives (record { root = top (grown_tree A e); count = A.count + 1 })
  answers =
      checked_on A e w.checked ∙ ap (λ (z : Spot). if_free z (pick (has_room A.count A.columns) (grown_is A e) (refuses 6 []))) w.free
      ∙ ap (λ (x : Bool). pick x (grown_is A e) (refuses 6 [])) w.room

  -- the columns of the entry's own numbers have a place for it
  pub has_place : HasPlace A.columns A.count
  has_place = record { start = roomy.start; len = roomy.len; size = roomy.size; kind = roomy.kind }

  -- the links, parents and heights of columns
  abbrev links_in : Columns → Lists
  links_in c = lists A.root c.left c.right c.parent c.height

  -- the columns of the tree are as they were where the entry's own numbers are stored
  pub goes_in : {c : Columns} → c ≡ stored_at A.columns A.count e → Placed (part_of (A.count + 1) (links_in c)) q A.count
  goes_in h = subst (λ (c : Columns). Placed (part_of (A.count + 1) (links_in c)) q A.count) (sym h) goes

  pub places_in : {c : Columns} → c ≡ stored_at A.columns A.count e
      → (A.count < length c.left) × (A.count < length c.right) × (A.count < length c.parent) × (A.count < length c.height)
  places_in h = (rw h roomy.left, rw h roomy.right, rw h roomy.parent, rw h roomy.height)

  abbrev Grows : Columns → Lists → Type 0
  Grows c T = (v : Placed (part_of (A.count + 1) (links_in c)) q A.count) → T ≡ written (ins (λ i. is_less (v.by i)) A.count v.arena.t) (links_in c)

  -- what is left
  pub added_is : {T : Lists} {c : Columns} → c ≡ stored_at A.columns A.count e → Grows c T
      → (told (Ok (record { root = T.root; count = A.count + 1 })) ≡ add_of A e) × (columns T.L T.R T.P T.H c.start c.len c.size c.kind ≡ columns_after A e)
  unfolding columns_after columns_with written
  added_is {T} {c} h f =
      let t : T ≡ written (grown_tree A e) (lists_of A) = grows (subst (λ (x : Columns). Grows x T) h f) in (
        (λ d. gives (record { root = (t d).root; count = A.count + 1 })) ∙ sym answers,
        (λ d. columns (t d).L (t d).R (t d).P (t d).H (h d).start (h d).len (h d).size (h d).kind)
            ∙ sym (ap (λ (x : Told Grown). if_given x (columns_with A e) A.columns) answers),
      )

-- ---- what the checks said

-- an error that `?` passes on is that of the refusal
pub passed_err : {A : Arena} {e : given.Entry} {x : AddError} → Refusing A e x → (r : Result Place AddError) → IsErrAnd r (λ y. y ≡ x) → Judged r A e
passed_err {A} {e} w (Ok q) h = absurd h
passed_err {A} {e} w (Err y) h = subst (λ (z : AddError). Refusing A e z) (sym h) w

-- the same of columns that are lent to be read and of those that are changed
module _ (root count : ℕ) (B : List ℕ) (e : given.Entry) {c d : Columns} (same : c ≡ d) where
  pub taking : {q : Place} → Taking (arena root count c B) e q → Taking (arena root count d B) e q
  taking {q} w = subst (λ (x : Columns). Taking (arena root count x B) e q) same w

  pub refusing : {x : AddError} → Refusing (arena root count c B) e x → Refusing (arena root count d B) e x
  refusing {x} w = subst (λ (y : Columns). Refusing (arena root count y B) e x) same w

-- ---- the search in the first places

module _ {L R : List ℕ} {root : ℕ} {N M : Names} (same : N ≡ M) {s : Spot} where
  pub found_at : {a b : List ℕ} → a ≡ b → ((w : Sought L R root N) → s ≡ spot_in (to_name N a) w.linked.t Root)
      → (w : Sought L R root M) → s ≡ spot_in (to_name M b) w.linked.t Root
  found_at {a} {b} h f =
      subst (λ (K : Names). (w : Sought L R root K) → s ≡ spot_in (to_name K b) w.linked.t Root) same
      (λ w. f w ∙ ap (λ (x : List ℕ). spot_in (to_name N x) w.linked.t Root) h)

-- the name of an entry, where the code has its place
pub name_is : (names : List ℕ) (e : given.Entry) → take (e.start + e.len - e.start) (drop e.start names) ≡ name_in names e
name_is names e = let k : e.start + e.len - e.start ≡ e.len = omega arith in ap (λ (n : ℕ). take n (drop e.start names)) k
