-- Which links the two rules take for absent: of links that are neither 0 nor 65,535, rule one exactly 255, and the walk's set, rule two's, none. Assumes nothing.
use Prim.Native.Nat.{ℕ}
use mathlib.Core.Path.{◌≡◌, refl, sym, ap, subst, ◌∙◌}
use mathlib.Core.Bool.{Bool, true, false}
use mathlib.Core.Logic.{◌⊎◌, inl, inr}
use mathlib.Core.List.Memᴰ
use mathlib.Core.List.{List, ◌∷◌, Memᴰ}
use mathlib.Core.Option.{some, none}
use lib.Dec.{eqb}
use native.Mathlib.Omega.{arith}
use native.Mathlib.Decide.{ℕ_discrete}
use borrow.Author.Tests.{ne_eqb}
use Rattle.units.specs.Told.{pick}
use Rattle.read_entry.specs.Links.{is_in, one_absent, walk_absent, absent_under}
use Rattle.lookup_way.specs.Along.{Real, Clear, Cut}

-- 0 is in both
pub one_0 : is_in 0 one_absent ≡ true
unfolding is_in
one_0 = refl

pub walk_0 : is_in 0 walk_absent ≡ true
unfolding is_in
walk_0 = refl

walk_65535 : is_in 65535 walk_absent ≡ true
unfolding is_in
walk_65535 = refl

-- and so in the set of every rule
rule_0_by : (a b : Bool) (absent : List ℕ) → pick a (some one_absent) (pick b (some walk_absent) none) ≡ some absent → is_in 0 absent ≡ true
rule_0_by true b absent e = let q : one_absent ≡ absent = cc in subst (λ (s : List ℕ). is_in 0 s ≡ true) q one_0
rule_0_by false true absent e = let q : walk_absent ≡ absent = cc in subst (λ (s : List ℕ). is_in 0 s ≡ true) q walk_0
rule_0_by false false absent e = let z : ◌≡◌ {A = ℕ} 0 1 = cc in absurd (omega arith)

pub rule_0 : (rule : ℕ) (absent : List ℕ) → absent_under rule ≡ some absent → is_in 0 absent ≡ true
unfolding absent_under
rule_0 rule absent e = rule_0_by (eqb rule 1) (eqb rule 2) absent e

one_255 : is_in 255 one_absent ≡ true
unfolding is_in
one_255 = refl

in_one : (k : ℕ) → (k ≡ 0 → ⊥) → (k ≡ 255 → ⊥) → is_in k one_absent ≡ false
unfolding is_in
in_one k a b = rw (ne_eqb k 0 a, ne_eqb k 255 b)

pub in_walk : (k : ℕ) → (k ≡ 0 → ⊥) → (k ≡ 65535 → ⊥) → is_in k walk_absent ≡ false
unfolding is_in
in_walk k a b = rw (ne_eqb k 0 a, ne_eqb k 65535 b)

-- and a link that the walk follows is neither
pub followed : (k : ℕ) → is_in k walk_absent ≡ false → (k ≡ 0 → ⊥) × (k ≡ 65535 → ⊥)
followed k e = ((λ d. never 0 d walk_0), (λ d. never 65535 d walk_65535))
  where
    never : (j : ℕ) → k ≡ j → is_in j walk_absent ≡ true → ⊥
    never j d h =
        let z : false ≡ true = sym e ∙ ap (λ (i : ℕ). is_in i walk_absent) d ∙ h in
        let y : ◌≡◌ {A = ℕ} 0 1 = cc in
        omega arith

-- RULE ONE: links without 255 are clear, those with it are cut, and no others are
pub without_255 : (ks : List ℕ) → Real ks → (Memᴰ 255 ks → ⊥) → Clear one_absent ks
without_255 ks r f k m = in_one k (r k m).0 (λ u. f (subst (λ (j : ℕ). Memᴰ j ks) u m))

pub with_255 : (ks : List ℕ) → Memᴰ 255 ks → Cut one_absent ks
with_255 ks m = record { link = 255; among = m; taken = one_255 }

pub cut_by_255 : (ks : List ℕ) → Real ks → Cut one_absent ks → Memᴰ 255 ks
cut_by_255 ks r t = elim (ℕ_discrete t.link 255) [
  | yes e ↦ subst (λ (j : ℕ). Memᴰ j ks) e t.among
  | no e ↦
      let z : false ≡ true = sym (in_one t.link (r t.link t.among).0 e) ∙ t.taken in
      let y : ◌≡◌ {A = ℕ} 0 1 = cc in
      absurd (omega arith)
]

-- THE WALK, RULE TWO: all are clear
pub walk_clear : (ks : List ℕ) → Real ks → Clear walk_absent ks
walk_clear ks r k m = in_walk k (r k m).0 (r k m).1

-- of such links, one more, and one less
pub real_cons : (k : ℕ) (ks : List ℕ) → (k ≡ 0 → ⊥) → (k ≡ 65535 → ⊥) → Real ks → Real (k ∷ ks)
real_cons k ks a b f j m = go (Memᴰ.cases_cons m)
  where
    go : (j ≡ k) ⊎ Memᴰ j ks → (j ≡ 0 → ⊥) × (j ≡ 65535 → ⊥)
    go (inl e) = (λ z. a (omega arith), λ z. b (omega arith))
    go (inr q) = f j q

pub real_head : {k : ℕ} {ks : List ℕ} → Real (k ∷ ks) → (k ≡ 0 → ⊥) × (k ≡ 65535 → ⊥)
real_head {k} u = u k (Memᴰ.head refl)

pub real_tail : {k : ℕ} {ks : List ℕ} → Real (k ∷ ks) → Real ks
real_tail u j m = u j (Memᴰ.tail m)
