-- The ways out of the small tests, over plain lists.
use Rattle.std.proofs.Common.{ℕ, zero, suc, ◌+◌, ◌≤◌, ◌<◌, arith, ◌≡◌, refl, sym, ap, ap₂, subst, ◌∙◌, Bool, true, false, ◌&&◌, List, length, get_or, le-leb, leb-true}
use Rattle.std.proofs.Math.Decide.{ℕ_discrete}
use Rattle.std.proofs.Math.Bool.{and-false, and-eq-true_iff}
use borrow.Author.Tests.{lt-leb}
use Rattle.std.specs.Ordering.{is_lt}
use Rattle.std.specs.declared.cmp.Ordering.{Ordering}
use Rattle.std.specs.declared.cmp.Ordering.TheVariants.{Less, Equal, Greater}
use Rattle.name_role.specs.Roles.{given_order}
use Rattle.name_role.proofs.Roles.{Compared, given_compared}
use Rattle.avl_model.specs.Names.{Names, name_at, to_name, by_name, is_less}
use Rattle.avl_arena.specs.Test.{every, inside}

-- both of two tests, and what each is where both hold
pub and_l : (a b : Bool) → (a && b) ≡ true → a ≡ true
and_l a b e = ((and-eq-true_iff a b).0 e).0

pub and_r : (a b : Bool) → (a && b) ≡ true → b ≡ true
and_r a b e = ((and-eq-true_iff a b).0 e).1

pub and_both : {a b : Bool} → a ≡ true → b ≡ true → (a && b) ≡ true
and_both {a} {b} e f = ap₂ ◌&&◌ e f

-- ---- names

-- the order of two names, as the order of two nodes
pub by_names : (N : Names) (i j : ℕ) {a b : List ℕ} {o : Ordering} {t : Bool} → a ≡ name_at N i → b ≡ name_at N j → Compared o a b → t ≡ is_lt o → t ≡ is_less (by_name N i j)
unfolding to_name
by_names N i j {a} {b} {o} ea eb eo e = e ∙ lt_is o ∙ ap is_less (given_compared a b eo ∙ ap₂ given_order ea eb)
  where
    lt_is : (o : Ordering) → is_lt o ≡ is_less o
    lt_is Less = refl
    lt_is Equal = refl
    lt_is Greater = refl

-- the tests before a false one
pub and_first : {a x : Bool} (b : Bool) → x ≡ a → x ≡ false → false ≡ (a && b)
and_first b e f = sym (ap (λ (y : Bool). y && b) (sym e ∙ f))

pub and_second : {a b x y : Bool} → x ≡ a → x ≡ true → y ≡ b → y ≡ (a && b)
and_second {a} {b} e f g = g ∙ sym (ap (λ (z : Bool). z && b) (sym e ∙ f))

-- ---- each number below m

pub every_fails : (f : ℕ → Bool) (i m : ℕ) → f i ≡ false → i < m → every f m ≡ false
every_fails f i zero e h = absurd (omega arith)
every_fails f i (suc m) e h = elim (ℕ_discrete i m) [
  | yes q ↦ ap (λ (b : Bool). every f m && b) (ap f (sym q) ∙ e) ∙ and-false (every f m)
  | no ne ↦ ap (λ (b : Bool). b && f m) (every_fails f i m e (omega arith))
]

pub every_more : (f : ℕ → Bool) (i : ℕ) → every f i ≡ true → f i ≡ true → every f (i + 1) ≡ true
every_more f i e g = subst (λ (v : ℕ). every f v ≡ true) {x = suc i} {y = i + 1} (omega arith) (and_both e g)

pub every_at : (f : ℕ → Bool) (m : ℕ) → every f m ≡ true → (j : ℕ) → j < m → f j ≡ true
every_at f zero e j h = absurd (omega arith)
every_at f (suc m) e j h = elim (ℕ_discrete j m) [
  | yes q ↦ ap f q ∙ and_r (every f m) _ e
  | no ne ↦ every_at f m (and_l _ _ e) j (omega arith)
]

pub every_from : (f : ℕ → Bool) (m : ℕ) → ((j : ℕ) → j < m → f j ≡ true) → every f m ≡ true
every_from f zero h = refl
every_from f (suc m) h = and_both (every_from f m (λ j k. h j (omega arith))) (h m (omega arith))

-- ---- each name inside

module _ (N : Names) (m i : ℕ) where
  pub not_inside : i < m → length N.bytes < get_or N.start i 0 + get_or N.len i 0 → false ≡ every (inside N) m
  unfolding inside
  not_inside f h = sym (every_fails (inside N) i m (lt-leb (get_or N.start i 0 + get_or N.len i 0) (length N.bytes) h) f)

pub one_more : (N : Names) (i : ℕ) → every (inside N) i ≡ true → get_or N.start i 0 + get_or N.len i 0 ≤ length N.bytes → every (inside N) (i + 1) ≡ true
unfolding inside
one_more N i p h = every_more (inside N) i p (le-leb (get_or N.start i 0 + get_or N.len i 0) (length N.bytes) h)

-- what the test of each name says of one
pub each_inside : (N : Names) (m : ℕ) → every (inside N) m ≡ true → (j : ℕ) → j < m → get_or N.start j 0 + get_or N.len j 0 ≤ length N.bytes
unfolding inside
each_inside N m e j h = leb-true (get_or N.start j 0 + get_or N.len j 0) (length N.bytes) (every_at (inside N) m e j h)

-- and where it says so of each, it holds
pub every_of : (N : Names) (m : ℕ) → ((j : ℕ) → j < m → get_or N.start j 0 + get_or N.len j 0 ≤ length N.bytes) → every (inside N) m ≡ true
unfolding inside
every_of N m f = every_from (inside N) m (λ j h. le-leb (get_or N.start j 0 + get_or N.len j 0) (length N.bytes) (f j h))
