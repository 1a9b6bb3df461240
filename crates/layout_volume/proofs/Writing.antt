-- Six calls that write a descriptor leave its bytes. Assumes nothing.
use Rattle.std.proofs.Common.{ℕ, ◌+◌, ◌≤◌, ◌<◌, ◌≡◌, refl, sym, ap, ◌∙◌, List, [], ◌++◌, append_assoc, arith, length, drop, replicate, length-append}
use borrow.Author.Tests.{lt-ltb, le-ltb}
use Rattle.units.specs.Told.{gives, refuses}
use Rattle.layout_bytes.specs.Bytes.{le32, le64}
use Rattle.layout_bytes.specs.inner.Bytes.{put_at}
use Rattle.layout_bytes.proofs.Put.{put_then, put_seam}
use Rattle.layout_volume.specs.declared.Descriptor.{Descriptor}
use Rattle.layout_volume.specs.Descriptor.{mark, descriptor_bytes, write_of, bytes_after}

-- m, w, x, u at the start, and m again behind v, put over as many bytes, where v stands already
module _ (m w x u v z₀ z₁ rest : List ℕ) (k₁ k₂ k₃ k₄ : ℕ) (as_many : length z₀ ≡ length (((m ++ w) ++ x) ++ u)) (as-many-again : length z₁ ≡ length m)
    (at₁ : k₁ ≡ 0 + length m) (at₂ : k₂ ≡ 0 + length (m ++ w)) (at₃ : k₃ ≡ 0 + length ((m ++ w) ++ x)) (at₄ : k₄ ≡ length ((((m ++ w) ++ x) ++ u) ++ v)) where
  puts : (l₁ l₂ l₃ l₄ l₅ l₆ : List ℕ) → l₁ ≡ z₀ ++ (v ++ (z₁ ++ rest)) → l₂ ≡ put_at l₁ 0 m → l₃ ≡ put_at l₂ k₁ w → l₄ ≡ put_at l₃ k₂ x → l₅ ≡ put_at l₄ k₃ u
      → l₆ ≡ put_at l₅ k₄ m → l₆ ≡ (m ++ (w ++ (x ++ (u ++ (v ++ m))))) ++ rest
  puts l₁ l₂ l₃ l₄ l₅ l₆ p₁ p₂ p₃ p₄ p₅ p₆ =
      let long : length z₀ ≡ length m + length w + length x + length u = simp length-append at as_many in
      let whole : length l₁ ≡ length z₀ + (length v + (length z₁ + length rest)) = simp length-append at (ap length p₁) in
      let s : List ℕ = ((m ++ w) ++ x) ++ u in
      let r₃ : l₃ ≡ put_at l₁ 0 (m ++ w) = put_then l₁ l₂ l₃ 0 k₁ m w (omega arith) at₁ p₂ p₃ in
      let r₄ : l₄ ≡ put_at l₁ 0 ((m ++ w) ++ x) = put_then l₁ l₃ l₄ 0 k₂ (m ++ w) x (simp length-append (omega arith)) at₂ r₃ p₄ in
      let r₅ : l₅ ≡ put_at l₁ 0 s = put_then l₁ l₄ l₅ 0 k₃ ((m ++ w) ++ x) u (simp length-append (omega arith)) at₃ r₄ p₅ in
      let q₅ : l₅ ≡ (s ++ v) ++ (z₁ ++ rest) = r₅ ∙ ap (λ (l : List ℕ). put_at l 0 s) p₁ ∙ put_seam [] z₀ (v ++ (z₁ ++ rest)) s 0 refl as_many
      ∙ sym (append_assoc s v (z₁ ++ rest)) in
      p₆ ∙ ap (λ (l : List ℕ). put_at l k₄ m) q₅ ∙ put_seam (s ++ v) z₁ rest m k₄ (sym at₄) as-many-again ∙ simp append_assoc

module _ (l₀ : List ℕ) (d : Descriptor) where
  module _ (cut : length l₀ < 2048) where
    pub too_small : refuses 9 [] ≡ write_of l₀
    unfolding write_of
    too_small = sym (simp (lt-ltb _ _ cut))

    pub unchanged : l₀ ≡ bytes_after l₀ d
    unfolding bytes_after
    unchanged = sym (simp (lt-ltb _ _ cut))

  module _ (room : 2048 ≤ length l₀) where
    pub done : gives tt ≡ write_of l₀
    unfolding write_of
    done = sym (simp (le-ltb _ _ room))

    zeros : replicate 2048 0 ++ drop 2048 l₀ ≡ replicate 36 0 ++ (replicate 1992 0 ++ (replicate 20 0 ++ drop 2048 l₀))
    zeros = refl

    pub written : (l₁ l₂ l₃ l₄ l₅ l₆ : List ℕ) (a : ℕ) → l₁ ≡ replicate 2048 0 ++ drop 2048 l₀ → l₂ ≡ put_at l₁ 0 mark → a ≡ d.root.sector.0 → l₃ ≡ put_at l₂ 20 (le32 a)
        → l₄ ≡ put_at l₃ 24 (le32 d.root.size) → l₅ ≡ put_at l₄ 28 (le64 d.stamp) → l₆ ≡ put_at l₅ 2028 mark → l₆ ≡ bytes_after l₀ d
    unfolding bytes_after descriptor_bytes
    written l₁ l₂ l₃ l₄ l₅ l₆ a p₁ p₂ e p₃ p₄ p₅ p₆ =
        rw (le-ltb (length l₀) 2048 room)
        (puts mark (le32 d.root.sector.0) (le32 d.root.size) (le64 d.stamp) (replicate 1992 0) (replicate 36 0) (replicate 20 0) (drop 2048 l₀) 20 24 28 2028
        refl refl refl refl refl refl
        l₁ l₂ l₃ l₄ l₅ l₆ (p₁ ∙ zeros) p₂ (p₃ ∙ ap (λ (x : ℕ). put_at l₂ 20 (le32 x)) e) p₄ p₅ p₆)
