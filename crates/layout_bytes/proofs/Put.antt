-- The algebra of puts, by which stores and calls come to one put. Assumes nothing.
--     put_length, put_one, put_put    a put keeps the length; one store is a put; two puts, one behind the other, are one
--     two_stores, four_stores         stores one behind the other
--     put_then                        the same of three lists that calls have left
--     put_seam                        a put at a place that is known as a seam of lists
use Rattle.std.proofs.Common.{ℕ, ◌+◌, ◌≤◌, ◌<◌, ◌≡◌, sym, ap, ap₂, ◌∙◌, List, [], ◌∷◌, ◌++◌, append_assoc, arith, add-one, length, take, drop, set, length-append, length-take, length-drop, length-set, take_at, drop_at, drop-drop}
use Rattle.std.proofs.Math.Seq.{drop-append-add, set_split}
use Rattle.layout_bytes.specs.inner.Bytes.{put_at}

pub put_length : (d : List ℕ) (at : ℕ) (s : List ℕ) → at + length s ≤ length d → length (put_at d at s) ≡ length d
unfolding put_at
put_length d at s h = simp (length-append, length-take, length-drop) (omega arith)

pub put_one : (d : List ℕ) (i a : ℕ) → i < length d → set d i a ≡ put_at d i (a ∷ [])
unfolding put_at
put_one d i a h = rw (set_split d i a h, add-one)

pub put_put : (d : List ℕ) (at : ℕ) (s u : List ℕ) → at + length s ≤ length d → put_at (put_at d at s) (at + length s) u ≡ put_at d at (s ++ u)
unfolding put_at
put_put d at s u h =
    let p : List ℕ = take at d ++ s in
    let z : List ℕ = drop (at + length s) d in
    let e : length p ≡ at + length s = simp (length-append, length-take) (omega arith) in
    let sum : at + length s + length u ≡ at + length (s ++ u) = simp length-append (omega arith) in
    let q : take at d ++ (s ++ z) ≡ p ++ z = sym (append_assoc (take at d) s z) in
    rw q
    (ap₂ (λ (a b : List ℕ). a ++ (u ++ b)) (take_at p z (at + length s) e)
    (ap (λ (k : ℕ). drop (k + length u) (p ++ z)) (sym e) ∙ drop-append-add p z (length u) ∙ drop-drop (length u) (at + length s) d
    ∙ ap (λ (k : ℕ). drop k d) sum)
    ∙ simp append_assoc)

pub two_stores : (d : List ℕ) (at a b : ℕ) → at + 2 ≤ length d → set (set d at a) (at + 1) b ≡ put_at d at (a ∷ b ∷ [])
two_stores d at a b h =
    put_one (set d at a) (at + 1) b (rw length-set (omega arith))
    ∙ ap (λ (l : List ℕ). put_at l (at + 1) (b ∷ [])) (put_one d at a (omega arith))
    ∙ put_put d at (a ∷ []) (b ∷ []) (omega arith)

pub four_stores : (d : List ℕ) (at a b e f : ℕ) → at + 4 ≤ length d → set (set (set (set d at a) (at + 1) b) (at + 2) e) (at + 3) f ≡ put_at d at (a ∷ b ∷ e ∷ f ∷ [])
four_stores d at a b e f h =
    let three : at + 3 ≡ at + 2 + 1 = omega arith in
    ap (λ (l : List ℕ). set (set l (at + 2) e) (at + 3) f) (two_stores d at a b (omega arith))
    ∙ ap (λ (k : ℕ). set (set (put_at d at (a ∷ b ∷ [])) (at + 2) e) k f) three
    ∙ two_stores (put_at d at (a ∷ b ∷ [])) (at + 2) e f (rw (put_length d at (a ∷ b ∷ []) (omega arith)) (omega arith))
    ∙ put_put d at (a ∷ b ∷ []) (e ∷ f ∷ []) (omega arith)

pub put_then : (l₀ l₁ l₂ : List ℕ) (at k : ℕ) (s u : List ℕ) → at + length s ≤ length l₀ → k ≡ at + length s → l₁ ≡ put_at l₀ at s → l₂ ≡ put_at l₁ k u
    → l₂ ≡ put_at l₀ at (s ++ u)
put_then l₀ l₁ l₂ at k s u h e p q = q ∙ ap₂ (λ (l : List ℕ) (m : ℕ). put_at l m u) p e ∙ put_put l₀ at s u h

pub put_seam : (b c rest s : List ℕ) (n : ℕ) → length b ≡ n → length c ≡ length s → put_at (b ++ (c ++ rest)) n s ≡ b ++ (s ++ rest)
unfolding put_at
put_seam b c rest s n e f =
    let k : length (b ++ c) ≡ n + length s = length-append b c ∙ ap₂ ◌+◌ e f in
    ap₂ (λ (x y : List ℕ). x ++ (s ++ y)) (take_at b (c ++ rest) n e) (rw (← (append_assoc b c rest)) (drop_at (b ++ c) rest (n + length s) k))
