-- `layout_node::put_header` meets its contract: five puts, one behind the other, are one. Assumes nothing.
use Rattle.std.proofs.Common.{ℕ, ◌+◌, ◌≤◌, ◌≡◌, refl, ap, ◌∙◌, List, [], ◌∷◌, length, arith}
use Rattle.layout_node.specs.declared.Header.{Header}
use Rattle.layout_bytes.specs.Bytes.{le16, le32}
use Rattle.layout_bytes.specs.inner.Bytes.{put_at}
use Rattle.layout_bytes.proofs.Put.{put_then}
use Rattle.layout_node.specs.Header.{header_bytes}
use Rattle.layout_node.proofs.put_header.Goals as goal

-- what five puts leave
module _ (at : ℕ) (h : Header) (l₀ l₁ l₂ l₃ l₄ l₅ : List ℕ) (a b d : ℕ) (fits : at + 14 ≤ length l₀) where
  five : a ≡ h.left.0 → l₁ ≡ put_at l₀ at (le16 a) → b ≡ h.right.0 → l₂ ≡ put_at l₁ (at + 2) (le16 b) → d ≡ h.sector.0 → l₃ ≡ put_at l₂ (at + 4) (le32 d)
      → l₄ ≡ put_at l₃ (at + 8) (le32 h.size) → l₅ ≡ put_at l₄ (at + 12) (h.attributes ∷ h.name_len ∷ []) → l₅ ≡ put_at l₀ at (header_bytes h)
  unfolding header_bytes
  five ea p₁ eb p₂ ed p₃ p₄ p₅ =
      let q₁ : l₁ ≡ put_at l₀ at (le16 h.left.0) = p₁ ∙ ap (λ (x : ℕ). put_at l₀ at (le16 x)) ea in
      let q₂ : l₂ ≡ put_at l₁ (at + 2) (le16 h.right.0) = p₂ ∙ ap (λ (x : ℕ). put_at l₁ (at + 2) (le16 x)) eb in
      let q₃ : l₃ ≡ put_at l₂ (at + 4) (le32 h.sector.0) = p₃ ∙ ap (λ (x : ℕ). put_at l₂ (at + 4) (le32 x)) ed in
      let r₂ = put_then _ _ _ at (at + 2) _ _ (omega arith) refl q₁ q₂ in
      let r₃ = put_then _ _ _ at (at + 4) _ _ (omega arith) refl r₂ q₃ in
      let r₄ = put_then _ _ _ at (at + 8) _ _ (omega arith) refl r₃ p₄ in
      put_then _ _ _ at (at + 12) _ _ (omega arith) refl r₄ p₅

pub returns : goal.returns
returns c =
    five c.args.at c.args.header _ _ _ _ _ _ _ _ _ c.requires c.number.ensures c.put16.ensures c.number-2.ensures c.put16-2.ensures c.number-3.ensures c.put32.ensures
    c.put32-2.ensures c.put_two.ensures
