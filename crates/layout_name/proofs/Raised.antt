-- The raised copy of a name: what stands at each place, and how one more byte makes it longer. Assumes nothing.
use Rattle.std.proofs.Common.{ℕ, zero, suc, ◌+◌, ◌-◌, ◌≤◌, ◌<◌, ◌≡◌, refl, sym, ap, ap₂, ◌∙◌, List, [], ◌∷◌, ◌++◌, map, arith, length, get_or, set, take, replicate, length-take}
use Rattle.std.proofs.Math.ListN.{get_or-map, get_or-eq_default}
use Rattle.std.proofs.Math.Seq.{take-length}
use Rattle.layout_name.specs.Order.{raised}
use Rattle.layout_name.specs.inner.Order.{raised_copy}

-- zeros behind a list say nothing
zeros_at : (n i : ℕ) → ◌≡◌ {A = ℕ} (get_or (replicate n 0) i 0) 0
zeros_at zero i = refl
zeros_at (suc n) zero = refl
zeros_at (suc n) (suc i) = zeros_at n i

padded : (xs : List ℕ) (n i : ℕ) → get_or (xs ++ replicate n 0) i 0 ≡ get_or xs i 0
padded [] n i = zeros_at n i
padded (x ∷ xs) n zero = refl
padded (x ∷ xs) n (suc i) = padded xs n i

-- the raised copy at a place: the byte raised, and 0 past the name
pub copy_at : (a : List ℕ) (i : ℕ) → get_or (raised_copy a) i 0 ≡ raised (get_or a i 0)
unfolding raised_copy raised
copy_at a i = padded (map raised a) (255 - length a) i ∙ get_or-map raised a i 0

pub copy_past : (a : List ℕ) (i : ℕ) → length a ≤ i → get_or (raised_copy a) i 0 ≡ 0
unfolding raised
copy_past a i h = copy_at a i ∙ ap raised (get_or-eq_default a 0 h)

pub raised_at : (a copy : List ℕ) (i : ℕ) → copy ≡ raised_copy a → i < length a → get_or copy i 0 ≡ raised (get_or a i 0)
raised_at a copy i e h = ap (λ (l : List ℕ). get_or l i 0) e ∙ copy_at a i

-- one more element stored behind the first i
more : (f : ℕ → ℕ) (xs : List ℕ) (i m : ℕ) → i < length xs
    → set (map f (take i xs) ++ replicate (suc m) 0) i (f (get_or xs i 0)) ≡ map f (take (suc i) xs) ++ replicate m 0
more f [] i m h = absurd (omega arith)
more f (x ∷ xs) zero m h = refl
more f (x ∷ xs) (suc i) m h = ap (λ (l : List ℕ). f x ∷ l) (more f xs i m (omega arith))

-- the copy of the first i bytes, with one more
pub raised_more : (a copy : List ℕ) (i x j : ℕ) → copy ≡ raised_copy (take i a) → length a ≤ 255 → i < length a → x ≡ raised (get_or a i 0) → j ≡ i + 1
    → set copy i x ≡ raised_copy (take j a)
unfolding raised_copy
raised_more a copy i x j e few h ex ej =
    let n : 255 - length (take i a) ≡ suc (254 - i) = omega (arith, length-take i a) in
    let m : 255 - length (take (suc i) a) ≡ 254 - i = omega (arith, length-take (suc i) a) in
    let s : j ≡ suc i = omega arith in
    ap₂ (λ (l : List ℕ) (v : ℕ). set l i v) (e ∙ ap (λ (k : ℕ). map raised (take i a) ++ replicate k 0) n) ex
    ∙ more raised a i (254 - i) h
    ∙ sym (ap (λ (k : ℕ). raised_copy (take k a)) s ∙ ap (λ (k : ℕ). map raised (take (suc i) a) ++ replicate k 0) m)

pub raised_none : (a : List ℕ) → replicate 255 0 ≡ raised_copy (take 0 a)
unfolding raised_copy
raised_none a = refl

pub raised_all : (a copy : List ℕ) (i : ℕ) → copy ≡ raised_copy (take i a) → i ≤ length a → length a ≤ i → copy ≡ raised_copy a
raised_all a copy i e h k = e ∙ ap raised_copy (ap (λ (n : ℕ). take n a) {x = i} {y = length a} (omega arith) ∙ take-length a)
