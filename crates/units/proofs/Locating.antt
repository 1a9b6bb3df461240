-- What the answer of a region says of the offset. Assumes nothing.
use Rattle.std.proofs.Common.{ℕ, ◌+◌, ◌*◌, ◌≤◌, ◌<◌, ◌≡◌, refl, sym, ap, ◌∙◌, Bool, true, false, [], ◌∷◌, arith, leb}
use borrow.Author.Tests.{leb-true, leb-false}
use Rattle.units.specs.declared.Offset.{Offset}
use Rattle.units.specs.declared.Region.{Region}
use Rattle.std.specs.Prelude.{Result, Ok, Err}
use Rattle.units.specs.declared.OutOfBounds.{OutOfBounds}
use Rattle.units.specs.Told.{gives, refuses, pick}
use Rattle.units.specs.Region.{told, locate_of}

-- which of two cases it was
byte_by : (b : Bool) (n k m : ℕ) → gives n ≡ pick b (refuses 23 (k ∷ [])) (gives m) → (b ≡ false) × (n ≡ m)
byte_by true n k m e = let z : ◌≡◌ {A = ℕ} 0 1 = cc in absurd (omega arith)
byte_by false n k m e = (refl, cc)

out_by : (b : Bool) (j k m : ℕ) → refuses 23 (j ∷ []) ≡ pick b (refuses 23 (k ∷ [])) (gives m) → (b ≡ true) × (j ≡ k)
out_by true j k m e = (refl, cc)
out_by false j k m e = let z : ◌≡◌ {A = ℕ} 0 1 = cc in absurd (omega arith)

module _ (t : Region) (o : Offset) (l : Result ℕ OutOfBounds) (is : told l ≡ locate_of t o) where
  -- a byte: the offset is below the size, and the byte is 2,048 for each sector before the region and then the offset
  pub byte_is : (n : ℕ) → l ≡ Ok n → (o.0 < t.size) × (n ≡ 2048 * t.sector.0 + o.0)
  unfolding locate_of
  byte_is n e =
      let f = byte_by (leb t.size o.0) n o.0 (2048 * t.sector.0 + o.0) (sym (ap told e) ∙ is) in
      (leb-false t.size o.0 f.0, f.1)

  -- out of bounds: the offset is not below the size, and it is the one that is told
  pub out-is : (p : OutOfBounds) → l ≡ Err p → (t.size ≤ o.0) × (p.0.0 ≡ o.0)
  unfolding locate_of
  out-is p e =
      let f = out_by (leb t.size o.0) p.0.0 o.0 (2048 * t.sector.0 + o.0) (sym (ap told e) ∙ is) in
      (leb-true t.size o.0 f.0, f.1)
