-- A turn of marking the entries of one directory. Assumes nothing.
use Prim.Native.Nat.{ℕ, ◌+◌, ◌≤◌, ◌<◌}
use native.Mathlib.Omega.{arith}
use native.Mathlib.Decide.{ℕ_discrete}
use mathlib.Core.Path.{◌≡◌, refl, sym, ap, subst, ◌∙◌}
use mathlib.Core.Bool.{Bool, true, false, not, ◌&&◌, and-false}
use mathlib.Core.List.{List}
use lib.Dec.{ltb, leb, eqb}
use lib.ListN.{length, get_or, set, length-set}
use lib.Seq.{get_or-set_same, get_or-set_other}
use borrow.Author.Tests.{lt-ltb, le-leb, lt-leb, eq-eqb, ne_eqb, ltb-true, eqb-true, not-true, not-false}
use Rattle.units.specs.Told.{pick}
use Rattle.avl_arena.specs.Test.{every}
use Rattle.avl_arena.proofs.Tested.{and_l, and_r, and_both, every_fails, every_from, every_more}
use Rattle.img_model.specs.Shares.{Share, is_directory, value_of, tally, names, names_later}
use Rattle.img_model.proofs.Every.{tally_hit, tally_miss, tally_grows}
use Rattle.img_tree.specs.inner.Marks.{is_free, marked_at, is_entry_free, entry_marked, Marks, times, is_markable, Marked}

-- the loop's invariant: the first i entries of directory d are marked
pub record Part (before : List ℕ) (S : Share) (d i : ℕ) (now : List ℕ) : Type 0 where
  pub kept : length now ≡ length before
  pub low : (x : ℕ) → x < length before → get_or now x 0 ≤ 1
  pub counted : (x : ℕ) → x < length before → get_or now x 0 ≡ get_or before x 0 + tally (names S x) i
  pub later : every (names_later S (length before) d) i ≡ true

pub begun : (before : List ℕ) (S : Share) (d : ℕ) → Marks before → Part before S d 0 before
begun before S d m = record { kept = refl; low = m.low; counted = λ x h. omega arith; later = refl }

-- an entry that names another directory, or none, does not name x
names_other : (S : Share) (x i : ℕ) → (value_of S i ≡ x → ⊥) → names S x i ≡ false
names_other S x i n = ap (λ (b : Bool). is_directory S i && b) (ne_eqb (value_of S i) x n) ∙ and-false (is_directory S i)

names_none : (S : Share) (x i : ℕ) → is_directory S i ≡ false → names S x i ≡ false
names_none S x i e = ap (λ (b : Bool). b && eqb (value_of S i) x) e

names_it : (S : Share) (i : ℕ) → is_directory S i ≡ true → names S (value_of S i) i ≡ true
names_it S i e = and_both e (eq-eqb (value_of S i) (value_of S i) refl)

-- what can be named
free_later : (named : List ℕ) (d x : ℕ) → is_free named d x ≡ true → d < x
unfolding is_free
free_later named d x e = ltb-true d x (and_l _ _ e)

free_one : (named : List ℕ) (d x : ℕ) → is_free named d x ≡ true → x < length named
unfolding is_free
free_one named d x e = ltb-true x (length named) (and_l _ _ (and_r (ltb d x) _ e))

free_zero : (named : List ℕ) (d x : ℕ) → is_free named d x ≡ true → get_or named x 0 ≡ 0
unfolding is_free
free_zero named d x e = eqb-true (get_or named x 0) 0 (and_r (ltb x (length named)) _ (and_r (ltb d x) _ e))

module _ (before : List ℕ) (S : Share) (d i : ℕ) (now : List ℕ) (p : Part before S d i now) where
  abbrev v : ℕ
  v = value_of S i

  -- a file: nothing is marked
  past_file : is_directory S i ≡ false → Part before S d (i + 1) now
  past_file e = record {
    kept = p.kept;
    low = p.low;
    counted = λ x h. p.counted x h ∙ ap (λ (t : ℕ). get_or before x 0 + t) (sym (tally_miss (names S x) i (names_none S x i e)));
    later = every_more (names_later S (length before) d) i p.later (ap (λ (b : Bool). pick b (ltb d v && ltb v (length before)) true) e);
  }

  -- a directory that can be named: it is marked
  past_directory : is_directory S i ≡ true → d < v → v < length before → get_or now v 0 ≡ 0 → Part before S d (i + 1) (set now v 1)
  past_directory e g h z =
      let stored : get_or (set now v 1) v 0 ≡ 1 = get_or-set_same now v 1 0 (omega (arith, p.kept)) in
      record {
        kept = length-set now v 1 ∙ p.kept;
        low = λ x k. elim (ℕ_discrete x v) [
          | yes q ↦ subst (λ (y : ℕ). get_or (set now v 1) y 0 ≤ 1) (sym q) (omega arith)
          | no n ↦ omega (arith, get_or-set_other now v x 1 0 n, p.low x k)
        ];
        counted = λ x k. elim (ℕ_discrete x v) [
          | yes q ↦ subst (λ (y : ℕ). get_or (set now v 1) y 0 ≡ get_or before y 0 + tally (names S y) (i + 1)) (sym q)
              (omega (arith, p.counted v h, tally_hit (names S v) i (names_it S i e)))
          | no n ↦ omega (arith, get_or-set_other now v x 1 0 n, p.counted x k, tally_miss (names S x) i (names_other S x i (λ f. n (sym f))))
        ];
        later = every_more (names_later S (length before) d) i p.later
            (ap (λ (b : Bool). pick b (ltb d v && ltb v (length before)) true) e ∙ and_both (lt-ltb d v g) (lt-ltb v (length before) h));
      }

  -- by the test of the entry
  past_by : (b : Bool) → is_directory S i ≡ b → is_entry_free now d (get_or S.kind i 0) v ≡ true → Part before S d (i + 1) (entry_marked now d (get_or S.kind i 0) v)
  unfolding is_entry_free entry_marked marked_at
  past_by false e f = subst (λ (l : List ℕ). Part before S d (i + 1) l) (sym (ap (λ (b : Bool). pick b (pick (is_free now d v) (set now v 1) now) now) e)) (past_file e)
  past_by true e f =
      let g : is_free now d v ≡ true = sym (ap (λ (b : Bool). pick b (is_free now d v) true) e) ∙ f in
      subst (λ (l : List ℕ). Part before S d (i + 1) l)
      (sym (ap (λ (b : Bool). pick b (pick (is_free now d v) (set now v 1) now) now) e ∙ ap (λ (b : Bool). pick b (set now v 1) now) g))
      (past_directory e (free_later now d v g) (omega (arith, p.kept, free_one now d v g)) (free_zero now d v g))

  pub past : (r : Bool) (after : List ℕ) (j : ℕ) → r ≡ is_entry_free now d (get_or S.kind i 0) (get_or S.value i 0) →
      after ≡ entry_marked now d (get_or S.kind i 0) (get_or S.value i 0) → not r ≡ false → j ≡ i + 1 → Part before S d j after
  past r after j e f t q =
      subst (λ (l : List ℕ). Part before S d j l) (sym f) (subst (λ (n : ℕ). Part before S d n (entry_marked now d (get_or S.kind i 0) v)) (sym q) (past_by (is_directory S i) refl (sym e ∙ not-false r t)))

  -- an entry that cannot be marked
  stop_later : i < S.count → is_directory S i ≡ true → (ltb d v && ltb v (length before)) ≡ false → is_markable before d S ≡ false
  unfolding is_markable
  stop_later h e f =
      ap (λ (b : Bool). b && every (λ x. leb (times before S x) 1) (length before))
      (every_fails (names_later S (length before) d) i S.count (ap (λ (b : Bool). pick b (ltb d v && ltb v (length before)) true) e ∙ f) h)

  stop_twice : i < S.count → is_directory S i ≡ true → v < length before → (get_or now v 0 ≡ 0 → ⊥) → is_markable before d S ≡ false
  unfolding is_markable
  stop_twice h e k n =
      let one : get_or now v 0 ≡ 1 = omega (arith, p.low v k) in
      let two : 1 < times before S v =
      omega (arith, p.counted v k, tally_hit (names S v) i (names_it S i e), tally_grows (names S v) (i + 1) S.count (omega arith)) in
      ap (λ (b : Bool). every (names_later S (length before) d) S.count && b)
      (every_fails (λ x. leb (times before S x) 1) v (length before) (lt-leb (times before S v) 1 two) k) ∙
      and-false (every (names_later S (length before) d) S.count)

  -- by its three tests
  stop_by : (a b : Bool) → ltb d v ≡ a → ltb v (length before) ≡ b → i < S.count → is_directory S i ≡ true → is_free now d v ≡ false → is_markable before d S ≡ false
  unfolding is_free
  stop_by false b ea eb h e f = stop_later h e (ap (λ (x : Bool). x && ltb v (length before)) ea)
  stop_by true false ea eb h e f = stop_later h e (ap (λ (x : Bool). ltb d v && x) eb ∙ and-false (ltb d v))
  stop_by true true ea eb h e f =
      let k : v < length before = ltb-true v (length before) eb in
      stop_twice h e k (λ z.
      let t : is_free now d v ≡ true = rw (ea, lt-ltb v (length now) (omega (arith, p.kept)), eq-eqb (get_or now v 0) 0 z) refl in
      let w : ◌≡◌ {A = ℕ} 0 1 = cc in absurd (omega arith))

  stop_kind : (b : Bool) → is_directory S i ≡ b → i < S.count → is_entry_free now d (get_or S.kind i 0) v ≡ false → is_markable before d S ≡ false
  unfolding is_entry_free
  stop_kind true e h f = stop_by (ltb d v) (ltb v (length before)) refl refl h e (sym (ap (λ (b : Bool). pick b (is_free now d v) true) e) ∙ f)
  stop_kind false e h f =
      let t : true ≡ false = sym (ap (λ (b : Bool). pick b (is_free now d v) true) e) ∙ f in
      let w : ◌≡◌ {A = ℕ} 0 1 = cc in absurd (omega arith)

  pub stop : (r : Bool) → r ≡ is_entry_free now d (get_or S.kind i 0) (get_or S.value i 0) → not r ≡ true → i < S.count → false ≡ is_markable before d S
  stop r e f h = sym (stop_kind (is_directory S i) refl h (sym e ∙ not-true r f))

  -- all are marked
  ended : i ≡ S.count → is_markable before d S ≡ true
  unfolding is_markable
  ended e =
      and_both
      (subst (λ (n : ℕ). every (names_later S (length before) d) n ≡ true) e p.later)
      (every_from (λ x. leb (times before S x) 1) (length before) (λ x h.
      let t : get_or now x 0 ≡ times before S x = p.counted x h ∙ ap (λ (n : ℕ). get_or before x 0 + tally (names S x) n) e in
      le-leb (times before S x) 1 (omega (arith, p.low x h))))

  pub done : i ≤ S.count → S.count ≤ i → true ≡ is_markable before d S
  done g h = sym (ended (omega arith))

  pub all_marked_lem : i ≤ S.count → S.count ≤ i → Marked before S now
  all_marked_lem g h =
      let e : i ≡ S.count = omega arith in
      record { kept = p.kept; counted = λ x k. p.counted x k ∙ ap (λ (n : ℕ). get_or before x 0 + tally (names S x) n) e }

-- no is not yes
pub never : {A : Type 0} → false ≡ true → A
never e = let w : ◌≡◌ {A = ℕ} 0 1 = cc in absurd (omega arith)
