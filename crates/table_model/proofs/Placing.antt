-- When placing gives, and when it refuses. Assumes nothing.
use Rattle.std.proofs.Common.{ℕ, ◌/◌, ◌≤◌, ◌<◌, ◌≡◌, refl, sym, ap, Bool, true, false, ◌⊎◌, inl, inr, List, [], ◌∷◌, arith, ltb, lt-ltb, le-ltb, ltb-true, ltb-false}
use mathlib.Core.List.{Memᴰ}
use mathlib.Core.List.Memᴰ
use Rattle.units.specs.Told.{gives, refuses, pick}
use Rattle.avl_model.specs.Tree.{Tree}
use Rattle.table_model.specs.Entry.{Entry, Item}
use Rattle.table_model.specs.Place.{free_of, items}
use Rattle.table_model.specs.Table.{any_far, Placing, size_of, place_of}
use Rattle.table_model.specs.Said.{AllIn, LinkFits}

-- no offset is too far exactly where each fits a link
pub none_far : (xs : List Item) → AllIn LinkFits xs → any_far xs ≡ false
unfolding any_far
none_far [] a = refl
none_far (x ∷ xs) a = rw (le-ltb 65535 (x.offset / 4) a.0) (none_far xs a.1)

pub none_far→ : (xs : List Item) → any_far xs ≡ false → AllIn LinkFits xs
unfolding any_far
none_far→ [] e = tt
none_far→ (x ∷ xs) e = go (ltb 65535 (x.offset / 4)) refl e (λ h. none_far→ xs h)
  where
    go : (b : Bool) → ltb 65535 (x.offset / 4) ≡ b → pick b true (any_far xs) ≡ false → (any_far xs ≡ false → AllIn LinkFits xs) → LinkFits x × AllIn LinkFits xs
    go true q p ih = let z : ◌≡◌ {A = ℕ} 0 1 = cc in absurd (omega arith)
    go false q p ih = (ltb-false _ _ q, ih p)

as_given : (b d : Bool) (p q : Placing) → pick b (refuses 7 []) (pick d (refuses 8 []) (gives p)) ≡ gives q → (b ≡ false) × (d ≡ false) × (p ≡ q)
as_given true d p q e = let z : ◌≡◌ {A = ℕ} 0 1 = cc in absurd (omega arith)
as_given false true p q e = let z : ◌≡◌ {A = ℕ} 0 1 = cc in absurd (omega arith)
as_given false false p q e = (refl, refl, cc)

-- some offset is too far exactly where one of them exceeds a link
pub far : (xs : List Item) (y : Item) → Memᴰ y xs → 65535 < y.offset / 4 → any_far xs ≡ true
unfolding any_far
far [] y m h = absurd (Memᴰ.not-nil m)
far (x ∷ xs) y m h = go (Memᴰ.cases_cons m) (λ k. far xs y k h)
  where
    either : (b : Bool) → pick b true true ≡ true
    either true = refl
    either false = refl

    go : (y ≡ x) ⊎ Memᴰ y xs → (Memᴰ y xs → any_far xs ≡ true) → pick (ltb 65535 (x.offset / 4)) true (any_far xs) ≡ true
    go (inl e) ih = rw (← e, lt-ltb 65535 (y.offset / 4) h)
    go (inr k) ih = rw (ih k) (either (ltb 65535 (x.offset / 4)))

pub far→ : (xs : List Item) → any_far xs ≡ true → (y : Item) × Memᴰ y xs × (65535 < y.offset / 4)
unfolding any_far
far→ [] e = let z : ◌≡◌ {A = ℕ} 0 1 = cc in absurd (omega arith)
far→ (x ∷ xs) e = go (ltb 65535 (x.offset / 4)) refl e (λ k. far→ xs k)
  where
    go : (b : Bool) → ltb 65535 (x.offset / 4) ≡ b → pick b true (any_far xs) ≡ true → (any_far xs ≡ true → (y : Item) × Memᴰ y xs × (65535 < y.offset / 4))
        → (y : Item) × Memᴰ y (x ∷ xs) × (65535 < y.offset / 4)
    go true q p ih = (x, Memᴰ.head refl, ltb-true _ _ q)
    go false q p ih = let r = ih p in (r.0, Memᴰ.tail r.1, r.2)

module _ (entry : ℕ → Entry) (align s : ℕ) (t : Tree) where
  -- where neither 7 nor 8 is met, the size and the next free sector are given
  pub place_gives : AllIn LinkFits (items entry align 0 s t) → free_of entry align s t ≤ 4294967295
      → place_of entry align s t ≡ gives (record { size = size_of entry t; free = free_of entry align s t })
  unfolding place_of
  place_gives a h = simp (none_far (items entry align 0 s t) a, le-ltb _ _ h)

  module _ (p : Placing) (e : place_of entry align s t ≡ gives p) where
    parts : (any_far (items entry align 0 s t) ≡ false) × (ltb 4294967295 (free_of entry align s t) ≡ false)
        × (record { size = size_of entry t; free = free_of entry align s t } ≡ p)
    unfolding place_of
    parts = as_given (any_far (items entry align 0 s t)) (ltb 4294967295 (free_of entry align s t)) _ p e

    -- and only there
    pub links_fit : AllIn LinkFits (items entry align 0 s t)
    links_fit = none_far→ (items entry align 0 s t) parts.0

    pub sectors_fit : free_of entry align s t ≤ 4294967295
    sectors_fit = ltb-false _ _ parts.1

    pub size_given : p.size ≡ size_of entry t
    size_given = sym (ap (λ (q : Placing). q.size) parts.2)

    pub free_given_lem : p.free ≡ free_of entry align s t
    free_given_lem = sym (ap (λ (q : Placing). q.free) parts.2)

  -- an offset over 4 that exceeds 65,535 is 7
  pub place_seven : (y : Item) → Memᴰ y (items entry align 0 s t) → 65535 < y.offset / 4 → place_of entry align s t ≡ refuses 7 []
  unfolding place_of
  place_seven y m h = rw (far (items entry align 0 s t) y m h)

  -- WHAT PLACING ANSWERS: one of three, each with its cause
  pub data Outcome : Type 0 where
    given : AllIn LinkFits (items entry align 0 s t) → free_of entry align s t ≤ 4294967295
        → place_of entry align s t ≡ gives (record { size = size_of entry t; free = free_of entry align s t }) → Outcome
    seven : (y : Item) → Memᴰ y (items entry align 0 s t) → 65535 < y.offset / 4 → place_of entry align s t ≡ refuses 7 [] → Outcome
    eight : AllIn LinkFits (items entry align 0 s t) → 4294967295 < free_of entry align s t → place_of entry align s t ≡ refuses 8 [] → Outcome

  pub outcome : Outcome
  unfolding place_of
  outcome = go (any_far (items entry align 0 s t)) refl (ltb 4294967295 (free_of entry align s t)) refl
    where
      go : (b : Bool) → any_far (items entry align 0 s t) ≡ b → (d : Bool) → ltb 4294967295 (free_of entry align s t) ≡ d → Outcome
      go true p d q = let r = far→ (items entry align 0 s t) p in seven r.0 r.1 r.2 (rw p)
      go false p true q = eight (none_far→ (items entry align 0 s t) p) (ltb-true _ _ q) (rw (p, q))
      go false p false q = given (none_far→ (items entry align 0 s t) p) (ltb-false _ _ q) (rw (p, q))
