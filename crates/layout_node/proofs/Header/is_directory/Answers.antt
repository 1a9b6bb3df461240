-- `layout_node::Header::is_directory` meets its contract: a bit of a number is the remainder of a quotient. Assumes nothing.
use Rattle.std.proofs.Common.{◌≡◌, ℕ, zero, suc, ◌+◌, ◌/◌, ◌%◌, ◌*◌, ◌<◌, not, bit_and, eqb, arith, refl, ap, ◌∙◌}
use Rattle.std.proofs.lemmas.Nat.{and_block, and_mask, and_le_r}
use Rattle.layout_node.proofs.Header.is_directory.Goals as goal

-- the bit 16
bit : (a : ℕ) → bit_and a 16 ≡ a / 16 % 2 * 16
bit a =
    let parts : a / 16 * 16 + a % 16 ≡ a = omega arith in
    let block : bit_and (a / 16 * 16 + a % 16) 16 ≡ bit_and (a / 16) 1 * 16 + bit_and (a % 16) 0 = and_block 4 (a / 16) 1 (a % 16) 0 (omega arith) (omega arith) in
    let none : bit_and (a % 16) 0 ≡ 0 = omega (arith, and_le_r (a % 16) 0) in
    let low : bit_and (a / 16) 1 ≡ a / 16 % 2 = and_mask (a / 16) 1 in
    rw parts at block ∙ rw (none, low) (omega arith)

-- is set where that is 1
set_by : (n : ℕ) → n < 2 → not (eqb (n * 16) 0) ≡ eqb n 1
set_by zero h = refl
set_by (suc zero) h = refl
set_by (suc (suc n)) h = absurd (omega arith)

pub returns : goal.returns
returns c = let a = c.args.self.attributes in ap (λ (n : ℕ). not (eqb n 0)) (bit a) ∙ set_by (a / 16 % 2) (omega arith)
