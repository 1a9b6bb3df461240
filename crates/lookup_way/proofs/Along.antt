-- What a lookup answers along links: the entry, or 22; and the first step of a way. Assumes nothing.
use Prim.Native.Nat.{ℕ, ◌+◌, ◌*◌}
use mathlib.Core.Path.{◌≡◌, refl, sym, ap, ◌∙◌}
use mathlib.Core.Bool.{Bool, true, false}
use mathlib.Core.Logic.{◌⊎◌, inl, inr}
use mathlib.Core.List.Memᴰ
use mathlib.Core.List.{List, [], ◌∷◌, Memᴰ}
use mathlib.Core.Option.{Option, some, none}
use native.Mathlib.Omega.{arith}
use native.Mathlib.Nat.{add-zero}
use lib.ListN.{length}
use Rattle.units.specs.Told.{Told, gives, refuses, pick}
use Rattle.read_entry.specs.Entry.{Placed}
use Rattle.read_entry.specs.Links.{is_in}
use Rattle.lookup_way.specs.Along.{Along, there, left, right, Clear, Cut, answer_along}

-- along links of which none is taken for absent, an entry is found after a header for each
pub along_clear : (absent : List ℕ) (x : Placed) (o n : ℕ) (ks : List ℕ) → Clear absent ks
    → answer_along absent x o n ks ≡ gives (record { entry = x; offset = o; headers = n + length ks })
along_clear absent x o n [] f = ap (λ (c : ℕ). gives (record { entry = x; offset = o; headers = c })) (sym (add-zero n))
along_clear absent x o n (k ∷ ks) f =
    rw (f k (Memᴰ.head refl))
    (along_clear absent x o (n + 1) ks (λ j m. f j (Memᴰ.tail m)) ∙ ap (λ (c : ℕ). gives (record { entry = x; offset = o; headers = c })) (omega arith))

-- along others the answer is 22
pub along_absent : (absent : List ℕ) (x : Placed) (o n : ℕ) (ks : List ℕ) → Cut absent ks → (c : ℕ) × (answer_along absent x o n ks ≡ refuses 22 (c ∷ []))
along_absent absent x o n [] t = absurd (Memᴰ.not-nil t.among)
along_absent absent x o n (j ∷ ks) t =
    go (is_in j absent) refl (Memᴰ.cases_cons t.among) (λ q. along_absent absent x o (n + 1) ks (record { link = t.link; among = q; taken = t.taken }))
  where
    go : (b : Bool) → is_in j absent ≡ b → (t.link ≡ j) ⊎ Memᴰ t.link ks → (Memᴰ t.link ks → (c : ℕ) × (answer_along absent x o (n + 1) ks ≡ refuses 22 (c ∷ [])))
        → (c : ℕ) × (pick b (refuses 22 (n ∷ [])) (answer_along absent x o (n + 1) ks) ≡ refuses 22 (c ∷ []))
    go true d q ih = (n, refl)
    go false d (inl q) ih =
        let z : false ≡ true = sym d ∙ ap (λ (i : ℕ). is_in i absent) (sym q) ∙ t.taken in
        let y : ◌≡◌ {A = ℕ} 0 1 = cc in
        absurd (omega arith)
    go false d (inr q) ih = ih q

-- links are clear of a set, or cut by it
pub clear_or_cut : (absent ks : List ℕ) → Clear absent ks ⊎ Cut absent ks
clear_or_cut absent [] = inl (λ k m. absurd (Memᴰ.not-nil m))
clear_or_cut absent (j ∷ ks) = go (is_in j absent) refl (clear_or_cut absent ks)
  where
    both : is_in j absent ≡ false → Clear absent ks → (k : ℕ) → (k ≡ j) ⊎ Memᴰ k ks → is_in k absent ≡ false
    both e f k (inl q) = ap (λ (i : ℕ). is_in i absent) q ∙ e
    both e f k (inr m) = f k m

    go : (b : Bool) → is_in j absent ≡ b → Clear absent ks ⊎ Cut absent ks → Clear absent (j ∷ ks) ⊎ Cut absent (j ∷ ks)
    go true e c = inr (record { link = j; among = Memᴰ.head refl; taken = e })
    go false e (inl f) = inl (λ k m. both e f k (Memᴰ.cases_cons m))
    go false e (inr t) = inr (record { link = t.link; among = Memᴰ.tail t.among; taken = t.taken })

-- what is read at an offset is one entry
pub one_read : {a : Told (Option Placed)} {x y : Placed} → a ≡ gives (some x) → a ≡ gives (some y) → x ≡ y
one_read p q = cc

-- the first step of a way: it ends where it starts, or goes left, or right
pub data First (f : ℕ → Told (Option Placed)) (o p : ℕ) (ks : List ℕ) : Type 0 where
  ended : o ≡ p → ks ≡ [] → First f o p ks
  leftward : (x : Placed) (js : List ℕ) → f o ≡ gives (some x) → Along f (4 * x.header.left.0) p js → ks ≡ x.header.left.0 ∷ js → First f o p ks
  rightward : (x : Placed) (js : List ℕ) → f o ≡ gives (some x) → Along f (4 * x.header.right.0) p js → ks ≡ x.header.right.0 ∷ js → First f o p ks

pub first_step : {f : ℕ → Told (Option Placed)} {o p : ℕ} {ks : List ℕ} → Along f o p ks → First f o p ks
first_step there = ended refl refl
first_step (left {x = x} {ks = js} e a) = leftward x js e a refl
first_step (right {x = x} {ks = js} e a) = rightward x js e a refl

-- from an offset at which no entry is read, a way ends at once
pub no_step : {f : ℕ → Told (Option Placed)} {o p : ℕ} {ks : List ℕ} → f o ≡ gives none → Along f o p ks → (o ≡ p) × (ks ≡ [])
no_step {f} {o} {p} {ks} e a = by (first_step a)
  where
    by : First f o p ks → (o ≡ p) × (ks ≡ [])
    by (ended q n) = (q, n)
    by (leftward x js q b n) = let z : ◌≡◌ {A = ℕ} 0 1 = cc in absurd (omega arith)
    by (rightward x js q b n) = let z : ◌≡◌ {A = ℕ} 0 1 = cc in absurd (omega arith)
