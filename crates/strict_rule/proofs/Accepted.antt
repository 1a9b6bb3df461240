-- What the check lists without a fault is a table of the rule, and the walk lists the same. Assumes nothing.
use Prim.Native.Nat.{ℕ, zero, suc, ◌-◌, ◌*◌, ◌/◌, ◌≤◌, ◌<◌}
use mathlib.Core.Path.{◌≡◌, refl, sym, ap, subst, ◌∙◌}
use mathlib.Core.Bool.{Bool, true, false}
use mathlib.Core.Logic.{◌⊎◌, inl, inr, ⊎_elim}
use mathlib.Core.List.Memᴰ
use mathlib.Core.List.{List, [], ◌∷◌, ◌++◌, Memᴰ}
use mathlib.Core.Option.{Option, some, none}
use native.Mathlib.Omega.{arith}
use native.Mathlib.Decide.{dec_lt}
use borrow.Author.Tests.{eqb-true, leb-true, eq-eqb, ne_eqb}
use lib.Dec.{leb, eqb}
use lib.ListN.{length, get_or}
use Rattle.units.specs.Told.{Told, gives, pick}
use Rattle.units.specs.declared.Sector.{Sector}
use Rattle.units.specs.declared.Region.{Region}
use Rattle.std.specs.declared.cmp.Ordering.TheVariants.{Less, Greater}
use Rattle.layout_name.specs.inner.Order.{opposite}
use Rattle.name_role.specs.Roles.{stored_order}
use Rattle.name_role.proofs.Roles.{stored_opposite}
use Rattle.read_entry.specs.declared.Placed.{Placed}
use Rattle.read_entry.specs.Entry.{read_at}
use Rattle.read_entry.specs.Links.{is_in, walk_absent}
use Rattle.read_walk.specs.Walk.{walk_of}
use Rattle.strict_rule.specs.Strict.{Visit, root, visit_left, visit_right, push, end_of, end_by, in_sector, clear, apart, placed, name_in, ordered, strict_of}
use Rattle.strict_rule.specs.Accepts.{Reach, here, by_left, by_right, Accepts}
use Rattle.strict_rule.proofs.Clear.{both_first, both_second, true_not_false, clear_says, is_in_last, is_in_other}
use Rattle.strict_rule.proofs.Bounds.{under_says, over_says, left_says, right_says, Asked}
use Rattle.strict_rule.proofs.Way.{of_way}
use Rattle.strict_rule.proofs.Course.{Course, over, skipped, taken, course_of, course_way}

-- members of a list and its places
pub at_mem : (xs : List ℕ) (i : ℕ) → i < length xs → Memᴰ (get_or xs i 0) xs
at_mem [] i h = absurd (omega arith)
at_mem (x ∷ xs) zero h = Memᴰ.head refl
at_mem (x ∷ xs) (suc i) h = Memᴰ.tail (at_mem xs i (omega arith))

-- what is put on a stack: unless it is absent it is there, and all else stays
picked_stays : (b : Bool) (u v : Visit) (stack : List Visit) → Memᴰ u stack → Memᴰ u (pick b stack (v ∷ stack))
picked_stays true u v stack m = m
picked_stays false u v stack m = Memᴰ.tail m

pub push_stays : (k : ℕ) (u v : Visit) (stack : List Visit) → Memᴰ u stack → Memᴰ u (push k v stack)
unfolding push
push_stays k u v stack m = picked_stays (is_in k walk_absent) u v stack m

pub push_there : (k : ℕ) (v : Visit) (stack : List Visit) → is_in k walk_absent ≡ false → Memᴰ v (push k v stack)
unfolding push
push_there k v stack e = rw e (Memᴰ.head refl)

module _ (w : List ℕ) (f : ℕ → Told (Option Placed)) (size : ℕ) where
  -- two entries read at one offset are the same
  same_entry : (o p : ℕ) (x y : Placed) → o ≡ p → f o ≡ gives (some x) → f p ≡ gives (some y) → x ≡ y
  same_entry o p x y d e g =
      let z : ◌≡◌ {A = Told (Option Placed)} (gives (some x)) (gives (some y)) = sym e ∙ ap f d ∙ g in cc

  not_both : (o p : ℕ) (x : Placed) → o ≡ p → f o ≡ gives none → f p ≡ gives (some x) → ⊥
  not_both o p x d e g =
      let y : ◌≡◌ {A = Told (Option Placed)} (gives none) (gives (some x)) = sym e ∙ ap f d ∙ g in
      let z : ◌≡◌ {A = ℕ} 0 1 = cc in omega arith

  -- nothing is reached from an offset without an entry
  no_way : {o p : ℕ} (y : Placed) → f o ≡ gives none → Reach f o p → f p ≡ gives (some y) → ⊥
  no_way {o} y e here g = not_both o o y refl e g
  no_way {o} y e (by_left {x = x} h a r) g = not_both o o x refl e h
  no_way {o} y e (by_right {x = x} h a r) g = not_both o o x refl e h

  -- the names below an entry x: each is as the child's visit asks, which asks all that the entry's asks
  asked_here : (u : Visit) (x : Placed) → f u.offset ≡ gives (some x) → ordered w f u (name_in w x) ≡ true
      → (is_in x.header.left.0 walk_absent ≡ false → Asked w f (visit_left x.header.left.0 u) (4 * x.header.left.0))
      → (is_in x.header.right.0 walk_absent ≡ false → Asked w f (visit_right x.header.right.0 u) (4 * x.header.right.0))
      → {o p : ℕ} → o ≡ u.offset → (y : Placed) → Reach f o p → f p ≡ gives (some y) → ordered w f u (name_in w y) ≡ true
  asked_here u x there h l r {o} d y here g =
      ap (λ (b : Placed). ordered w f u (name_in w b)) (sym (same_entry u.offset o x y (sym d) there g)) ∙ h
  asked_here u x there h l r {o} {p} d y (by_left {x = z} e a way) g =
      let s : z ≡ x = same_entry o u.offset z x d e there in
      (left_says w f x.header.left.0 u (name_in w y)
      (l (subst (λ (b : Placed). is_in b.header.left.0 walk_absent ≡ false) s a) p y (subst (λ (b : Placed). Reach f (4 * b.header.left.0) p) s way) g)).1
  asked_here u x there h l r {o} {p} d y (by_right {x = z} e a way) g =
      let s : z ≡ x = same_entry o u.offset z x d e there in
      (right_says w f x.header.right.0 u (name_in w y)
      (r (subst (λ (b : Placed). is_in b.header.right.0 walk_absent ≡ false) s a) p y (subst (λ (b : Placed). Reach f (4 * b.header.right.0) p) s way) g)).1

  on_stack : {seen : List ℕ} {stack : List Visit} {xs : List ℕ} → Course w f size seen stack xs → (v : Visit) → Memᴰ v stack → Asked w f v v.offset
  on_stack (over seen) v m p y way e = absurd (Memᴰ.not-nil m)
  on_stack (skipped seen u stack xs none_there c) v m p y way e = ⊎_elim
      (λ (d : v ≡ u). absurd (no_way y none_there (subst (λ (a : Visit). Reach f a.offset p) d way) e))
      (λ (n : Memᴰ v stack). on_stack c v n p y way e) (Memᴰ.cases_cons m)
  on_stack (taken seen u stack xs x there sound c) v m p y way e = ⊎_elim
      (λ (d : v ≡ u). subst (λ (a : Visit). ordered w f a (name_in w y) ≡ true) (sym d)
      (asked_here u x there sound.in_order
      (λ a q z r g. on_stack c (visit_left x.header.left.0 u) (push_there _ _ _ a) q z r g)
      (λ a q z r g. on_stack c (visit_right x.header.right.0 u) (push_stays _ _ _ _ (push_there _ _ _ a)) q z r g)
      (ap (λ (a : Visit). a.offset) d) y way e))
      (λ (n : Memᴰ v stack). on_stack c v (push_stays _ v _ _ (push_stays _ v _ stack n)) p y way e) (Memᴰ.cases_cons m)

  -- the names in the subtrees of an entry
  abbrev Subtrees : Placed → Type 0
  Subtrees x =
      ((p : ℕ) (y : Placed) → is_in x.header.left.0 walk_absent ≡ false → Reach f (4 * x.header.left.0) p → f p ≡ gives (some y) → stored_order (name_in w y) (name_in w x) ≡ Less)
      × ((p : ℕ) (y : Placed) → is_in x.header.right.0 walk_absent ≡ false → Reach f (4 * x.header.right.0) p → f p ≡ gives (some y) → stored_order (name_in w y) (name_in w x) ≡ Greater)

  left_less : (u : Visit) (k : ℕ) (x y : Placed) → f u.offset ≡ gives (some x) → ordered w f (visit_left k u) (name_in w y) ≡ true → stored_order (name_in w y) (name_in w x) ≡ Less
  left_less u k x y there h = under_says w f u.offset x there (name_in w y) (left_says w f k u (name_in w y) h).0

  right_greater : (u : Visit) (k : ℕ) (x y : Placed) → f u.offset ≡ gives (some x) → ordered w f (visit_right k u) (name_in w y) ≡ true → stored_order (name_in w y) (name_in w x) ≡ Greater
  right_greater u k x y there h =
      stored_opposite (name_in w x) (name_in w y) ∙ ap opposite (over_says w f u.offset x there (name_in w y) (right_says w f k u (name_in w y) h).0)

  subtrees : {seen : List ℕ} {stack : List Visit} {xs : List ℕ} → Course w f size seen stack xs → (o : ℕ) (x : Placed) → Memᴰ o xs → f o ≡ gives (some x) → Subtrees x
  subtrees (over seen) o x m e = absurd (Memᴰ.not-nil m)
  subtrees (skipped seen u stack xs none_there c) o x m e = subtrees c o x m e
  subtrees (taken seen u stack xs z there sound c) o x m e = ⊎_elim
      (λ (d : o ≡ u.offset). subst Subtrees (same_entry u.offset o z x (sym d) there e) (
        (λ p y a r g. left_less u z.header.left.0 z y there (on_stack c (visit_left z.header.left.0 u) (push_there _ _ _ a) p y r g)),
        (λ p y a r g. right_greater u z.header.right.0 z y there (on_stack c (visit_right z.header.right.0 u) (push_stays _ _ _ _ (push_there _ _ _ a)) p y r g)),
      ))
      (λ (n : Memᴰ o xs). subtrees c o x n e) (Memᴰ.cases_cons m)

  -- none is among those seen before
  earlier : (o p : ℕ) (seen : List ℕ) → is_in o (seen ++ (p ∷ [])) ≡ false → (o ≡ p → ⊥) × (is_in o seen ≡ false)
  earlier o p seen h =
      let n : (o ≡ p → ⊥) = (λ e. true_not_false (is_in_last o p seen e) h) in
      (n, sym (is_in_other o p seen n) ∙ h)

  new : {seen : List ℕ} {stack : List Visit} {xs : List ℕ} → Course w f size seen stack xs → (o : ℕ) → Memᴰ o xs → is_in o seen ≡ false
  new (over seen) o m = absurd (Memᴰ.not-nil m)
  new (skipped seen u stack xs none_there c) o m = new c o m
  new (taken seen u stack xs x there sound c) o m = ⊎_elim
      (λ (d : o ≡ u.offset). ap (λ (a : ℕ). is_in a seen) d ∙ sound.new)
      (λ (n : Memᴰ o xs). (earlier o u.offset seen (new c o n)).1) (Memᴰ.cases_cons m)

  -- none is listed twice
  abbrev Once : List ℕ → Type 0
  Once xs = (i j : ℕ) → i < length xs → j < length xs → get_or xs i 0 ≡ get_or xs j 0 → i ≡ j

  once_more : (o : ℕ) (xs : List ℕ) → ((p : ℕ) → Memᴰ p xs → p ≡ o → ⊥) → Once xs → Once (o ∷ xs)
  once_more o xs n h zero zero a b e = refl
  once_more o xs n h zero (suc j) a b e = absurd (n (get_or xs j 0) (at_mem xs j (omega arith)) (sym e))
  once_more o xs n h (suc i) zero a b e = absurd (n (get_or xs i 0) (at_mem xs i (omega arith)) e)
  once_more o xs n h (suc i) (suc j) a b e = ap suc (h i j (omega arith) (omega arith) e)

  once : {seen : List ℕ} {stack : List Visit} {xs : List ℕ} → Course w f size seen stack xs → Once xs
  once (over seen) = λ i j a b e. absurd (omega arith)
  once (skipped seen u stack xs none_there c) = once c
  once (taken seen u stack xs x there sound c) = once_more u.offset xs (λ p m. (earlier p u.offset seen (new c p m)).0) (once c)

  -- each is in its place
  abbrev Place : ℕ → Placed → Type 0
  Place o x = (end_of x.header o ≤ size) × (o / 2048 ≡ (end_of x.header o - 1) / 2048)

  place_of : (o : ℕ) (x : Placed) (seen : List ℕ) → placed f size o (end_of x.header o) seen ≡ true → Place o x
  unfolding placed
  place_of o x seen h =
      let s : in_sector size o (end_of x.header o) ≡ true = both_first (in_sector size o (end_of x.header o)) (apart f o (end_of x.header o) seen) h in (
        leb-true _ _ (both_first (leb (end_of x.header o) size) (eqb (o / 2048) ((end_of x.header o - 1) / 2048)) s),
        eqb-true _ _ (both_second (leb (end_of x.header o) size) (eqb (o / 2048) ((end_of x.header o - 1) / 2048)) s),
      )

  in_place : {seen : List ℕ} {stack : List Visit} {xs : List ℕ} → Course w f size seen stack xs → (o : ℕ) (x : Placed) → Memᴰ o xs → f o ≡ gives (some x) → Place o x
  in_place (over seen) o x m e = absurd (Memᴰ.not-nil m)
  in_place (skipped seen u stack xs none_there c) o x m e = in_place c o x m e
  in_place (taken seen u stack xs z there sound c) o x m e = ⊎_elim
      (λ (d : o ≡ u.offset). subst (λ (a : ℕ). Place a x) (sym d) (subst (Place u.offset) (same_entry u.offset o z x (sym d) there e) (place_of u.offset z seen sound.in_place)))
      (λ (n : Memᴰ o xs). in_place c o x n e) (Memᴰ.cases_cons m)

  -- two entries do not meet
  abbrev Apart : ℕ → Placed → ℕ → Placed → Type 0
  Apart o x p y = (end_of x.header o ≤ p) ⊎ (end_of y.header p ≤ o)

  turned : (o p : ℕ) (x y : Placed) → Apart o x p y → Apart p y o x
  turned o p x y (inl h) = inr h
  turned o p x y (inr h) = inl h

  clear_of : (o e p : ℕ) (xs : List ℕ) → apart f o e xs ≡ true → Memᴰ p xs → clear f o e p ≡ true
  unfolding apart
  clear_of o e p [] h m = absurd (Memᴰ.not-nil m)
  clear_of o e p (x ∷ xs) h m = ⊎_elim
      (λ (d : p ≡ x). ap (clear f o e) d ∙ both_first (clear f o e x) (apart f o e xs) h)
      (λ (n : Memᴰ p xs). clear_of o e p xs (both_second (clear f o e x) (apart f o e xs) h) n) (Memᴰ.cases_cons m)

  apart_of : (o p : ℕ) (x y : Placed) (seen : List ℕ) → placed f size o (end_of x.header o) seen ≡ true → Memᴰ p seen → f p ≡ gives (some y) → Apart o x p y
  unfolding placed
  apart_of o p x y seen h m e = ⊎_elim (λ (a : end_of x.header o ≤ p). inl a)
      (λ (a : end_by (f p) p ≤ o). inr (let d : end_by (f p) p ≡ end_of y.header p = rw e in omega arith))
      (clear_says f o (end_of x.header o) p
      (clear_of o (end_of x.header o) p seen (both_second (in_sector size o (end_of x.header o)) (apart f o (end_of x.header o) seen) h) m))

  from_seen : {seen : List ℕ} {stack : List Visit} {xs : List ℕ} → Course w f size seen stack xs → (o p : ℕ) (x y : Placed) → Memᴰ o xs → Memᴰ p seen →
      f o ≡ gives (some x) → f p ≡ gives (some y) → Apart o x p y
  from_seen (over seen) o p x y m n e g = absurd (Memᴰ.not-nil m)
  from_seen (skipped seen u stack xs none_there c) o p x y m n e g = from_seen c o p x y m n e g
  from_seen (taken seen u stack xs z there sound c) o p x y m n e g = ⊎_elim
      (λ (d : o ≡ u.offset). subst (λ (a : ℕ). Apart a x p y) (sym d)
      (subst (λ (b : Placed). Apart u.offset b p y) (same_entry u.offset o z x (sym d) there e) (apart_of u.offset p z y seen sound.in_place n g)))
      (λ (k : Memᴰ o xs). from_seen c o p x y k (Memᴰ.append_left (u.offset ∷ []) n) e g) (Memᴰ.cases_cons m)

  disjoint : {seen : List ℕ} {stack : List Visit} {xs : List ℕ} → Course w f size seen stack xs → (o p : ℕ) (x y : Placed) → Memᴰ o xs → Memᴰ p xs →
      f o ≡ gives (some x) → f p ≡ gives (some y) → (o ≡ p → ⊥) → Apart o x p y
  disjoint (over seen) o p x y m n e g differ = absurd (Memᴰ.not-nil m)
  disjoint (skipped seen u stack xs none_there c) o p x y m n e g differ = disjoint c o p x y m n e g differ
  disjoint (taken seen u stack xs z there sound c) o p x y m n e g differ = ⊎_elim
      (λ (a : o ≡ u.offset). ⊎_elim
      (λ (b : p ≡ u.offset). absurd (differ (a ∙ sym b)))
      (λ (b : Memᴰ p xs). turned p o y x (from_seen c p o y x b (Memᴰ.append_right seen (Memᴰ.head a)) g e)) (Memᴰ.cases_cons n))
      (λ (a : Memᴰ o xs). ⊎_elim
      (λ (b : p ≡ u.offset). from_seen c o p x y a (Memᴰ.append_right seen (Memᴰ.head b)) e g)
      (λ (b : Memᴰ p xs). disjoint c o p x y a b e g differ) (Memᴰ.cases_cons n)) (Memᴰ.cases_cons m)

module _ (w : List ℕ) (first : Sector) (t : Region) where
  of_course : (xs : List ℕ) → (t.size ≡ 0 → ⊥) → Course w (read_at w first t) t.size [] (root ∷ []) xs → Accepts w first t xs
  unfolding walk_of
  of_course xs some_size c = record {
    ends = λ room h. rw (ne_eqb _ _ some_size) (of_way (read_at w first t) (course_way w (read_at w first t) t.size c) room h);
    once = once w (read_at w first t) t.size c;
    in_place = λ o x m e. let p = in_place w (read_at w first t) t.size c o x m e in record { inside = p.0; uncrossed = p.1 };
    disjoint = disjoint w (read_at w first t) t.size c;
    in_order = λ o x m e. let p = subtrees w (read_at w first t) t.size c o x m e in record { left = p.0; right = p.1 };
  }

  -- a table of size 0 has no entries
  of_nothing : t.size ≡ 0 → Accepts w first t []
  unfolding walk_of
  of_nothing z = record {
    ends = λ room h. rw (eq-eqb _ _ z);
    once = λ i j a b e. absurd (omega arith);
    in_place = λ o x m e. absurd (Memᴰ.not-nil m);
    disjoint = λ o p x y m n e g d. absurd (Memᴰ.not-nil m);
    in_order = λ o x m e. absurd (Memᴰ.not-nil m);
  }

  accepted_by : (room : ℕ) (xs : List ℕ) → Dec (0 < t.size) → strict_of w first t room ≡ gives xs → Accepts w first t xs × (length xs ≤ room)
  unfolding strict_of
  accepted_by room xs (yes l) e =
      let n : (t.size ≡ 0 → ⊥) = (λ z. omega arith) in
      let c : Course w (read_at w first t) t.size [] (root ∷ []) xs × (length xs ≤ room) = course_of w (read_at w first t) t.size room [] (root ∷ []) xs (rw (ne_eqb _ _ n) at e) in
      (of_course xs n c.0, c.1)
  accepted_by room xs (no l) e =
      let z : t.size ≡ 0 = omega arith in
      let d : [] ≡ xs = (let y : ◌≡◌ {A = Told (List ℕ)} (gives []) (gives xs) = rw (eq-eqb _ _ z) at e in cc) in
      subst (λ (ys : List ℕ). Accepts w first t ys × (length ys ≤ room)) d (of_nothing z, omega arith)

  -- what the check gives without a fault is a table of the rule
  pub accepted : (room : ℕ) (xs : List ℕ) → strict_of w first t room ≡ gives xs → Accepts w first t xs × (length xs ≤ room)
  accepted room xs e = accepted_by room xs (dec_lt 0 t.size) e

  -- and the walk lists the same
  pub walked_same : (room : ℕ) (xs : List ℕ) → strict_of w first t room ≡ gives xs → walk_of w first t room ≡ gives xs
  walked_same room xs e = let a : Accepts w first t xs × (length xs ≤ room) = accepted room xs e in a.0.ends room a.1
