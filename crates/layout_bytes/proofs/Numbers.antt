-- A number written as bytes is read back, and bytes read as a number are written again. Assumes nothing.
use Rattle.std.proofs.Common.{ℕ, ◌+◌, ◌*◌, ◌/◌, ◌%◌, ◌<◌, ◌≡◌, refl, ap, ap₂, ◌∙◌, List, [], ◌∷◌, ◌++◌, arith}
use Rattle.layout_bytes.specs.Bytes.{u16_at, u32_at, u64_at, le16, le32, le64}

-- the number of two bytes that were written of it
pub u16_le16 : (x : ℕ) (rest : List ℕ) → x < 65536 → u16_at (le16 x ++ rest) 0 ≡ x
u16_le16 x rest h = omega arith

-- (one division at a time: each quotient is a number of its own)
by_quotients : (n a b c : ℕ) → a ≡ n / 256 → b ≡ a / 256 → c ≡ b / 256 → c < 256 → n % 256 + 256 * (a % 256) + 65536 * (b % 256 + 256 * (c % 256)) ≡ n
by_quotients n a b c p q r h =
    let x : n ≡ n % 256 + 256 * a = omega arith in
    let y : a ≡ a % 256 + 256 * b = omega arith in
    let z : b ≡ b % 256 + 256 * c = omega arith in
    let k : c % 256 ≡ c = omega arith in
    omega arith

-- the number of four bytes that were written of it
pub u32_le32 : (x : ℕ) (rest : List ℕ) → x < 4294967296 → u32_at (le32 x ++ rest) 0 ≡ x
u32_le32 x rest h = by_quotients x (x / 256) (x / 65536) (x / 16777216) refl (omega arith) (omega arith) (omega arith)

-- the number of eight bytes that were written of it: of its two halves
pub u64_le64 : (x : ℕ) (rest : List ℕ) → x < 18446744073709551616 → u64_at (le64 x ++ rest) 0 ≡ x
u64_le64 x rest h =
    ap₂ (λ (low high : ℕ). low + 4294967296 * high) (u32_le32 (x % 4294967296) [] (omega arith)) (u32_le32 (x / 4294967296) [] (omega arith)) ∙ omega arith

-- the two bytes that are written of the number that they say
pub le16_u16 : (a b : ℕ) (rest : List ℕ) → a < 256 → b < 256 → le16 (u16_at (a ∷ b ∷ rest) 0) ≡ a ∷ b ∷ []
le16_u16 a b rest p q =
    let n : ℕ = a + 256 * b in
    let e₀ : n % 256 ≡ a = omega arith in
    let e₁ : n / 256 ≡ b = omega arith in
    let f₁ : n / 256 % 256 ≡ b = ap (λ (k : ℕ). k % 256) e₁ ∙ omega arith in
    rw (e₀, f₁)

-- the four bytes that are written of the number that they say
pub le32_u32 : (a b c d : ℕ) (rest : List ℕ) → a < 256 → b < 256 → c < 256 → d < 256 → le32 (u32_at (a ∷ b ∷ c ∷ d ∷ rest) 0) ≡ a ∷ b ∷ c ∷ d ∷ []
le32_u32 a b c d rest p q r s =
    let n : ℕ = a + 256 * b + 65536 * (c + 256 * d) in
    let e₀ : n % 256 ≡ a = omega arith in
    let e₁ : n / 256 ≡ b + 256 * (c + 256 * d) = omega arith in
    let e₂ : n / 65536 ≡ c + 256 * d = omega arith in
    let e₃ : n / 16777216 ≡ d = omega arith in
    let f₁ : n / 256 % 256 ≡ b = ap (λ (k : ℕ). k % 256) e₁ ∙ omega arith in
    let f₂ : n / 65536 % 256 ≡ c = ap (λ (k : ℕ). k % 256) e₂ ∙ omega arith in
    let f₃ : n / 16777216 % 256 ≡ d = ap (λ (k : ℕ). k % 256) e₃ ∙ omega arith in
    rw (e₀, f₁, f₂, f₃)
