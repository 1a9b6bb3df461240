-- A turn of the writing loop and its end, and what a filled buffer comes to. Assumes nothing.
use Rattle.std.proofs.Common.{ℕ, ◌+◌, ◌*◌, ◌≤◌, ◌<◌, ◌≡◌, refl, sym, ap, ◌∙◌, Bool, true, false, List, [], ◌∷◌, ◌++◌, append_assoc, append-nil, ltb, length, get_or, drop, replicate, drop_of_length-le, ltb-false, arith}
use Rattle.units.specs.Told.{Told, gives, refuses, pick}
use Rattle.layout_bytes.specs.inner.Bytes.{put_at}
use Rattle.layout_sector.specs.Counter.{aligned_up}
use Rattle.table_model.specs.Entry.{Item}
use Rattle.table_model.specs.inner.Writing.{stored, Spaced, written_over}
use Rattle.table_model.proofs.Writing.{written_none, written_next}
use Rattle.dirtab_place.specs.inner.Places.{free_in, free_over}
use Rattle.dirtab_place.proofs.Turns.{cut}
use Rattle.dirtab_write.specs.inner.Columns.{Cols, item_by, items_by, put_all}

low_of : (b : Bool) (n f : ℕ) (x : Told ℕ) → ltb 4294967295 n ≡ b → pick b (refuses 8 []) x ≡ gives f → (n ≤ 4294967295) × (x ≡ gives f)
low_of true n f x q e = let z : ◌≡◌ {A = ℕ} 0 1 = cc in absurd (omega arith)
low_of false n f x q e = (ltb-false _ _ q, e)

module _ (c : Cols) (order : List ℕ) (s₀ s k f : ℕ) (counted : free_over c.size c.kind s (drop k order) ≡ gives f) (h : k < length order) where
  parts : (free_in c.size c.kind s (get_or order k 0) ≤ 4294967295) × (free_over c.size c.kind (free_in c.size c.kind s (get_or order k 0)) (drop (k + 1) order) ≡ gives f)
  unfolding free_over
  parts = low_of (ltb 4294967295 (free_in c.size c.kind s (get_or order k 0))) _ f _ refl (ap (free_over c.size c.kind s) (sym (cut order k h)) ∙ counted)

  -- the next entry can take its sectors
  pub next_low : free_in c.size c.kind s (get_or order k 0) ≤ 4294967295
  next_low = parts.0

  module _ (t : ℕ) (et : t ≡ free_in c.size c.kind s (get_or order k 0)) where
    -- and then the rest can
    pub next_counted : free_over c.size c.kind t (drop (k + 1) order) ≡ gives f
    next_counted = ap (λ (m : ℕ). free_over c.size c.kind m (drop (k + 1) order)) et ∙ parts.1

    -- the buffer after it is put
    pub next_put : (d₀ d d₁ : List ℕ) → put_all (items_by c s₀ order) d₀ ≡ put_all (items_by c s (drop k order)) d
        → d₁ ≡ put_at d (4 * get_or c.place (get_or order k 0) 0) (stored (item_by c (aligned_up 1 s) (get_or order k 0)))
        → put_all (items_by c s₀ order) d₀ ≡ put_all (items_by c t (drop (k + 1) order)) d₁
    unfolding put_all items_by
    next_put d₀ d d₁ so_far e = so_far ∙ rw (cut order k h, et, e)

-- the end of the loop
pub last_put : (c : Cols) (order : List ℕ) (s₀ s f k : ℕ) (d₀ d : List ℕ) → s₀ ≡ f → length order ≤ k
    → put_all (items_by c s₀ order) d₀ ≡ put_all (items_by c s (drop k order)) d → d ≡ put_all (items_by c f order) d₀
unfolding put_all items_by
last_put c order s₀ s f k d₀ d e h so_far =
    sym (ap (λ (m : ℕ). put_all (items_by c m order) d₀) (sym e) ∙ so_far ∙ rw (drop_of_length-le order h))

-- items put one after another into a filled buffer
put_on : (n : ℕ) (xs ys : List Item) (d : List ℕ) → Spaced 0 n (xs ++ ys) → put_all ys (written_over n xs d) ≡ written_over n (xs ++ ys) d
unfolding put_all
put_on n xs [] d s = ap (λ (zs : List Item). written_over n zs d) (sym (append-nil xs))
put_on n xs (y ∷ ys) d s =
    let e : (xs ++ (y ∷ [])) ++ ys ≡ xs ++ (y ∷ ys) = append_assoc xs (y ∷ []) ys in
    ap (put_all ys) (written_next xs y ys n d s)
    ∙ put_on n (xs ++ (y ∷ [])) ys d (rw e s)
    ∙ ap (λ (zs : List Item). written_over n zs d) e

pub table_put : (n : ℕ) (xs : List Item) (d d₁ d₂ : List ℕ) → Spaced 0 n xs → d₁ ≡ replicate n 255 ++ drop n d → d₂ ≡ put_all xs d₁ → d₂ ≡ written_over n xs d
table_put n xs d d₁ d₂ s e q = q ∙ ap (put_all xs) (e ∙ sym (written_none n d)) ∙ put_on n [] xs d s
