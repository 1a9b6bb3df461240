-- The fourteen bytes of a header are read back as its fields, and the fields that fourteen bytes say are written as those bytes. Assumes nothing.
use Rattle.std.proofs.Common.{ℕ, zero, suc, ◌+◌, ◌*◌, ◌<◌, ◌≡◌, refl, sym, ap, ap₂, ◌∙◌, List, [], ◌∷◌, ◌++◌, arith, length, get_or, drop, drop_of_length-le, drop-cons}
use Rattle.layout_bytes.specs.Bytes.{le16, le32}
use Rattle.layout_bytes.proofs.Numbers.{u16_le16, u32_le32, le16_u16, le32_u32}
use Rattle.layout_node.specs.declared.Header.{Header}
use Rattle.layout_node.specs.Header.{header_of, header_bytes}

-- each field fits its width
pub record Fits (h : Header) : Type 0 where
  pub left : h.left.0 < 65536
  pub right : h.right.0 < 65536
  pub sector : h.sector.0 < 4294967296
  pub size : h.size < 4294967296
  pub attributes : h.attributes < 256
  pub name_len_fits : h.name_len < 256

-- a header has fourteen bytes
pub header_length : (h : Header) → length (header_bytes h) ≡ 14
unfolding header_bytes
header_length h = refl

-- a header is read back from its bytes
pub header_back : (h : Header) → Fits h → header_of (header_bytes h) ≡ h
unfolding header_of header_bytes
header_back h f = λ i. record {
  left = record { 0 = u16_le16 h.left.0 [] f.left i };
  right = record { 0 = u16_le16 h.right.0 [] f.right i };
  sector = record { 0 = u32_le32 h.sector.0 [] f.sector i };
  size = u32_le32 h.size [] f.size i;
  attributes = h.attributes;
  name_len = h.name_len;
}

-- n numbers of a list from place i on
from : ℕ → ℕ → List ℕ → List ℕ
from zero i s = []
from (suc n) i s = get_or s i 0 ∷ from n (suc i) s

from-drop : (n i : ℕ) (s : List ℕ) → i + n ≡ length s → from n i s ≡ drop i s
unfolding from
from-drop zero i s e = sym (drop_of_length-le s {i = i} (omega arith))
from-drop (suc n) i s e = rw (drop-cons s i 0 (omega arith)) (ap (λ (l : List ℕ). get_or s i 0 ∷ l) (from-drop n (suc i) s (omega arith)))

-- fourteen bytes are written again from the header that they say
pub bytes_back : (b : List ℕ) → length b ≡ 14 → ((i : ℕ) → i < length b → get_or b i 0 < 256) → header_bytes (header_of b) ≡ b
unfolding header_of header_bytes from
bytes_back b e h =
    let at : (i : ℕ) → i < 14 → get_or b i 0 < 256 = λ i k. h i (omega arith) in
    let two : (i j : ℕ) → i < 14 → j < 14 → le16 (get_or b i 0 + 256 * get_or b j 0) ≡ get_or b i 0 ∷ get_or b j 0 ∷ [] = λ i j p q. le16_u16 _ _ [] (at i p) (at j q) in
    let four : (i j k l : ℕ) → i < 14 → j < 14 → k < 14 → l < 14
    → le32 (get_or b i 0 + 256 * get_or b j 0 + 65536 * (get_or b k 0 + 256 * get_or b l 0)) ≡ get_or b i 0 ∷ get_or b j 0 ∷ get_or b k 0 ∷ get_or b l 0 ∷ []
    = λ i j k l p q r s. le32_u32 _ _ _ _ [] (at i p) (at j q) (at k r) (at l s) in
    ap₂ ◌++◌ (two 0 1 (omega arith) (omega arith))
    (ap₂ ◌++◌ (two 2 3 (omega arith) (omega arith))
    (ap₂ ◌++◌ (four 4 5 6 7 (omega arith) (omega arith) (omega arith) (omega arith))
    (ap (λ (l : List ℕ). l ++ (get_or b 12 0 ∷ get_or b 13 0 ∷ [])) (four 8 9 10 11 (omega arith) (omega arith) (omega arith) (omega arith)))))
    ∙ from-drop 14 0 b (sym e)
