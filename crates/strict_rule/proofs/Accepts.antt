-- The check accepts every table of the rule. Assumes nothing.
use Prim.Native.Nat.{ℕ, suc, ◌+◌, ◌*◌, ◌≤◌, ◌<◌}
use mathlib.Core.Path.{◌≡◌, refl, sym, ap, ap₂, subst, ◌∙◌}
use mathlib.Core.Bool.{Bool, true, false, ◌&&◌}
use mathlib.Core.Logic.{◌⊎◌, inl, inr, ⊎_elim}
use mathlib.Core.List.Memᴰ
use mathlib.Core.List.{List, [], ◌∷◌, ◌++◌, append_assoc, Memᴰ}
use mathlib.Core.Option.{Option, some}
use native.Mathlib.Omega.{arith}
use native.Mathlib.Decide.{dec_lt}
use borrow.Author.Tests.{eqb-true, le-leb, eq-eqb, ne_eqb}
use lib.Dec.{eqb}
use lib.ListN.{length, get_or, length-append, get_or-append}
use lib.Seq.{get_or-append_seam}
use Rattle.units.specs.Told.{Told, gives, pick}
use Rattle.units.specs.declared.Sector.{Sector}
use Rattle.units.specs.declared.Region.{Region}
use Rattle.layout_name.specs.inner.Order.{opposite}
use Rattle.name_role.proofs.Roles.{stored_opposite}
use Rattle.read_entry.specs.declared.Placed.{Placed}
use Rattle.read_entry.specs.Entry.{read_at}
use Rattle.read_entry.specs.Links.{is_in, walk_absent}
use Rattle.read_walk.specs.Walk.{walk_of}
use Rattle.strict_rule.specs.Strict.{Visit, root, visit_left, visit_right, push, entered, end_of, end_by, name_in, clear, apart, placed, every, ordered, strict_of}
use Rattle.strict_rule.specs.Accepts.{here, by_left, by_right, InPlace, Accepts}
use Rattle.strict_rule.proofs.Clear.{not_true_is_false, true_not_false, is_clear_lem}
use Rattle.strict_rule.proofs.Bounds.{is_under_lem, is_over_lem, is_left, is_right, Asked}
use Rattle.strict_rule.proofs.Way.{Way, ended, passed, listed, way_of}
use Rattle.strict_rule.proofs.Course.{Course, over, skipped, taken, of_course, offsets, same_stack}

-- a place of what is in a list
place_by_lem : (o y : ℕ) (ys : List ℕ) (b : Bool) → eqb o y ≡ b → (is_in o ys ≡ true → (i : ℕ) × (i < length ys) × (get_or ys i 0 ≡ o)) → pick b true (is_in o ys) ≡ true →
    (i : ℕ) × (i < suc (length ys)) × (get_or (y ∷ ys) i 0 ≡ o)
place_by_lem o y ys true d down h = (0, omega arith, sym (eqb-true o y d))
place_by_lem o y ys false d down h = let p : (i : ℕ) × (i < length ys) × (get_or ys i 0 ≡ o) = down h in (suc p.0, (let l : p.0 < length ys = p.1 in omega arith), p.2)

place_in : (o : ℕ) (xs : List ℕ) → is_in o xs ≡ true → (i : ℕ) × (i < length xs) × (get_or xs i 0 ≡ o)
unfolding is_in
place_in o [] h = let z : ◌≡◌ {A = ℕ} 0 1 = cc in absurd (omega arith)
place_in o (y ∷ ys) h = place_by_lem o y ys (eqb o y) refl (place_in o ys) h

-- a member is in
mem_in : (o : ℕ) (xs : List ℕ) → Memᴰ o xs → is_in o xs ≡ true
unfolding is_in
mem_in o [] m = absurd (Memᴰ.not-nil m)
mem_in o (y ∷ ys) m = ⊎_elim
    (λ (d : o ≡ y). rw (eq-eqb o y d))
    (λ (n : Memᴰ o ys). ap (pick (eqb o y) true) (mem_in o ys n) ∙ always (eqb o y)) (Memᴰ.cases_cons m)
  where
    always : (b : Bool) → pick b true true ≡ true
    always true = refl
    always false = refl

-- what is on a stack after a push
on_by : (b : Bool) (u v : Visit) (stack : List Visit) → Memᴰ u (pick b stack (v ∷ stack)) → ((b ≡ false) × (u ≡ v)) ⊎ Memᴰ u stack
on_by true u v stack m = inr m
on_by false u v stack m = ⊎_elim (λ (d : u ≡ v). inl (refl, d)) (λ (n : Memᴰ u stack). inr n) (Memᴰ.cases_cons m)

on_pushed : (k : ℕ) (u v : Visit) (stack : List Visit) → Memᴰ u (push k v stack) → ((is_in k walk_absent ≡ false) × (u ≡ v)) ⊎ Memᴰ u stack
unfolding push
on_pushed k u v stack m = on_by (is_in k walk_absent) u v stack m

module _ (w : List ℕ) (first : Sector) (t : Region) (all : List ℕ) (rule : Accepts w first t all) where
  abbrev f : ℕ → Told (Option Placed)
  f = read_at w first t

  -- every name that is reached from a visit of the stack is as the visit asks
  abbrev Ordered : List Visit → Type 0
  Ordered stack = (v : Visit) → Memᴰ v stack → Asked w f v v.offset

  abbrev Entries : List ℕ → Type 0
  Entries seen = (p : ℕ) → Memᴰ p seen → (y : Placed) × (f p ≡ gives (some y))

  -- at the entry x that the walk lists at a visit after those seen, before xs
  module _ (seen xs : List ℕ) (v : Visit) (x : Placed) (there : f v.offset ≡ gives (some x)) (whole : all ≡ seen ++ (v.offset ∷ xs)) where
    abbrev o : ℕ
    o = v.offset

    here_in : Memᴰ o all
    here_in = subst (Memᴰ o) (sym whole) (Memᴰ.append_right seen (Memᴰ.head refl))

    seen_in : (p : ℕ) → Memᴰ p seen → Memᴰ p all
    seen_in p m = subst (Memᴰ p) (sym whole) (Memᴰ.append_left (o ∷ xs) m)

    is_new : is_in o seen ≡ false
    is_new = not_true_is_false (is_in o seen) (λ h.
        let p : (i : ℕ) × (i < length seen) × (get_or seen i 0 ≡ o) = place_in o seen h in
        let i : ℕ = p.0 in
        let l : i < length seen = p.1 in
        let size : length all ≡ length seen + suc (length xs) = ap length whole ∙ length-append seen (o ∷ xs) in
        let a : get_or all i 0 ≡ o = ap (λ (ys : List ℕ). get_or ys i 0) whole ∙ get_or-append seen (o ∷ xs) 0 i l ∙ p.2 in
        let b : get_or all (length seen) 0 ≡ o = ap (λ (ys : List ℕ). get_or ys (length seen) 0) whole ∙ get_or-append_seam seen o xs 0 in
        let e : i ≡ length seen = rule.once i (length seen) (omega arith) (omega arith) (a ∙ sym b) in
        omega arith)

    apart_all : (ys : List ℕ) → ((p : ℕ) → Memᴰ p ys → clear f o (end_of x.header o) p ≡ true) → apart f o (end_of x.header o) ys ≡ true
    unfolding apart
    apart_all [] h = refl
    apart_all (y ∷ ys) h = ap₂ ◌&&◌ (h y (Memᴰ.head refl)) (apart_all ys (λ p m. h p (Memᴰ.tail m)))

    is_placed_lem : Entries seen → placed f t.size o (end_of x.header o) seen ≡ true
    unfolding placed
    is_placed_lem entries =
        let p : InPlace w first t o x = rule.in_place o x here_in there in
        ap₂ ◌&&◌ (ap₂ ◌&&◌ (le-leb _ _ p.inside) (eq-eqb _ _ p.uncrossed))
        (apart_all seen (λ q m.
        let e : (y : Placed) × (f q ≡ gives (some y)) = entries q m in
        is_clear_lem f o (end_of x.header o) q (⊎_elim (λ (a : end_of x.header o ≤ q). inl a)
        (λ (a : end_of e.0.header q ≤ o). inr (let d : end_by (f q) q ≡ end_of e.0.header q = ap (λ (r : Told (Option Placed)). end_by r q) e.1 in omega arith))
        (rule.disjoint o q x e.0 here_in (seen_in q m) there e.1 (λ d. true_not_false (mem_in q seen m) (ap (λ (a : ℕ). is_in a seen) (sym d) ∙ is_new))))))

    -- what is reached from a child is as the rule has it, and is reached from the entry: so it is as the child's visit asks
    left_ordered : Asked w f v o → is_in x.header.left.0 walk_absent ≡ false → Asked w f (visit_left x.header.left.0 v) (4 * x.header.left.0)
    left_ordered good a p y r e = is_left w f x.header.left.0 v (name_in w y)
        (is_under_lem w f o x there (name_in w y) ((rule.in_order o x here_in there).left p y a r e)) (good p y (by_left there a r) e)

    right_ordered : Asked w f v o → is_in x.header.right.0 walk_absent ≡ false → Asked w f (visit_right x.header.right.0 v) (4 * x.header.right.0)
    right_ordered good a p y r e = is_right w f x.header.right.0 v (name_in w y)
        (is_over_lem w f o x there (name_in w y) (stored_opposite (name_in w y) (name_in w x) ∙ ap opposite ((rule.in_order o x here_in there).right p y a r e)))
        (good p y (by_right there a r) e)

    still_ordered : (stack : List Visit) → Ordered (v ∷ stack) → Ordered (entered v x stack)
    still_ordered stack good u m =
        let l : ℕ = x.header.left.0 in
        let r : ℕ = x.header.right.0 in
        let asked : Asked w f v o = good v (Memᴰ.head refl) in
        ⊎_elim
        (λ (a : (is_in l walk_absent ≡ false) × (u ≡ visit_left l v)). subst (λ (q : Visit). Asked w f q q.offset) (sym a.1) (left_ordered asked a.0))
        (λ (b : Memᴰ u (push r (visit_right r v) stack)). ⊎_elim
        (λ (a : (is_in r walk_absent ≡ false) × (u ≡ visit_right r v)). subst (λ (q : Visit). Asked w f q q.offset) (sym a.1) (right_ordered asked a.0))
        (λ (d : Memᴰ u stack). good u (Memᴰ.tail d)) (on_pushed r u (visit_right r v) stack b))
        (on_pushed l u (visit_left l v) (push r (visit_right r v) stack) m)

  still_entries : (seen : List ℕ) (o : ℕ) (x : Placed) → f o ≡ gives (some x) → Entries seen → Entries (seen ++ (o ∷ []))
  still_entries seen o x there entries p m = ⊎_elim
      (λ (a : Memᴰ p seen). entries p a)
      (λ (a : Memᴰ p (o ∷ [])). (x, ap f (Memᴰ.eq_of_singleton a) ∙ there)) (Memᴰ.append_cases seen m)

  -- the check takes the walk's steps
  follow : {places xs : List ℕ} → Way f places xs → (seen : List ℕ) (stack : List Visit) → places ≡ offsets w f t.size stack → all ≡ seen ++ xs → Entries seen → Ordered stack →
      Course w f t.size seen stack xs
  follow ended seen [] p whole entries good = over seen
  follow ended seen (v ∷ stack) p whole entries good = let z : ◌≡◌ {A = ℕ} 0 1 = cc in absurd (omega arith)
  follow (passed o places xs e way) seen [] p whole entries good = let z : ◌≡◌ {A = ℕ} 0 1 = cc in absurd (omega arith)
  follow (passed o places xs e way) seen (v ∷ stack) p whole entries good =
      let a : o ≡ v.offset = cc in
      let b : places ≡ offsets w f t.size stack = cc in
      skipped seen v stack xs (ap f (sym a) ∙ e) (follow way seen stack b whole entries (λ u m. good u (Memᴰ.tail m)))
  follow (listed o places xs x e way) seen [] p whole entries good = let z : ◌≡◌ {A = ℕ} 0 1 = cc in absurd (omega arith)
  follow (listed o places xs x e way) seen (v ∷ stack) p whole entries good =
      let a : o ≡ v.offset = cc in
      let b : places ≡ offsets w f t.size stack = cc in
      let there : f v.offset ≡ gives (some x) = ap f (sym a) ∙ e in
      let all_now : all ≡ seen ++ (v.offset ∷ xs) = whole ∙ ap (λ (q : ℕ). seen ++ (q ∷ xs)) a in
      subst (λ (q : ℕ). Course w f t.size seen (v ∷ stack) (q ∷ xs)) (sym a)
      (taken seen v stack xs x there
      (record {
        new = is_new seen xs v x there all_now;
        room = refl;
        in_place = is_placed_lem seen xs v x there all_now entries;
        in_order = good v (Memᴰ.head refl) v.offset x here there;
      })
      (follow way (seen ++ (v.offset ∷ [])) (entered v x stack) (rw b (sym (same_stack w f t.size v x stack)))
      (all_now ∙ sym (append_assoc seen (v.offset ∷ []) xs)) (still_entries seen v.offset x there entries)
      (still_ordered seen xs v x there all_now stack good)))

  root_ordered : Ordered (root ∷ [])
  unfolding ordered every
  root_ordered v m p y r e = rw (Memᴰ.eq_of_singleton m)

  accepts_by : (room : ℕ) → length all ≤ room → Dec (0 < t.size) → strict_of w first t room ≡ gives all
  unfolding strict_of walk_of
  accepts_by room h (yes l) =
      let n : (t.size ≡ 0 → ⊥) = (λ z. omega arith) in
      rw (ne_eqb _ _ n) (of_course w f t.size
      (follow (way_of f room (0 ∷ []) all (rw (ne_eqb _ _ n) at (rule.ends room h))).0 [] (root ∷ []) refl refl (λ p m. absurd (Memᴰ.not-nil m)) root_ordered) room h)
  accepts_by room h (no l) =
      let z : t.size ≡ 0 = omega arith in
      rw (eq-eqb _ _ z) (rw (eq-eqb _ _ z) at (rule.ends room h))

-- a table of the rule is given by the check, into a list that is long enough
pub accepts : (w : List ℕ) (first : Sector) (t : Region) (room : ℕ) (xs : List ℕ) → Accepts w first t xs → length xs ≤ room → strict_of w first t room ≡ gives xs
accepts w first t room xs rule h = accepts_by w first t xs rule room h (dec_lt 0 t.size)
