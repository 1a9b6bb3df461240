-- What reading a descriptor answers, from the two tests for the mark. Assumes nothing.
use Rattle.std.proofs.Common.{ℕ, ◌+◌, ◌≤◌, ◌<◌, ◌≡◌, sym, ◌∙◌, Bool, true, false, List, [], arith, length, take, drop, length-take, length-drop}
use Rattle.std.proofs.Math.Decide.{dec_lt}
use Rattle.units.specs.declared.Sector.{Sector}
use Rattle.units.specs.Told.{Told, gives, refuses}
use Rattle.layout_bytes.specs.Bytes.{u32_at, u64_at}
use Rattle.layout_volume.specs.declared.Descriptor.{Descriptor}
use Rattle.layout_volume.specs.Descriptor.{mark, same_list, read_of}
use Rattle.layout_volume.proofs.Same.{shorter}

-- a list that has the mark at a place reaches past it
reaches : (s : List ℕ) (at : ℕ) (b : Bool) → b ≡ same_list (take 20 (drop at s)) mark → b ≡ true → at + 20 ≤ length s
reaches s at b is e = by (dec_lt (length (take 20 (drop at s))) 20)
  where
    by : Dec (length (take 20 (drop at s)) < 20) → at + 20 ≤ length s
    by (yes h) = let z : false ≡ true = sym (shorter (take 20 (drop at s)) mark h) ∙ sym is ∙ e in let k : ◌≡◌ {A = ℕ} 0 1 = cc in absurd (omega arith)
    by (no h) = omega (arith, simp (length-take, length-drop) at h)

-- so one that has the second mark has the whole descriptor
pub all_inside : (s : List ℕ) (q : Bool) → q ≡ same_list (take 20 (drop 2028 s)) mark → q ≡ true → 2048 ≤ length s
all_inside s q second has = reaches s 2028 q second has

-- and so the stamp
pub stamp_inside : (s : List ℕ) (q : Bool) → q ≡ same_list (take 20 (drop 2028 s)) mark → q ≡ true → 28 + 8 ≤ length s
stamp_inside s q second has = omega (arith, all_inside s q second has)

module _ (s : List ℕ) (p : Bool) (first : p ≡ same_list (take 20 s) mark) where
  pub no_first : p ≡ false → refuses 20 [] ≡ read_of s
  unfolding read_of
  no_first e = rw (← first, e)

  module _ (has : p ≡ true) (q : Bool) (second : q ≡ same_list (take 20 (drop 2028 s)) mark) where
    pub no_second : q ≡ false → refuses 20 [] ≡ read_of s
    unfolding read_of
    no_second e = rw (← first, has, ← second, e)

    pub volume : (sector : Sector) (a z x : ℕ) → q ≡ true → sector.0 ≡ a → a ≡ u32_at s 20 → z ≡ u32_at s 24 → x ≡ u64_at s 28
        → ◌≡◌ {A = Told Descriptor} (gives (record { root = record { sector = sector; size = z }; stamp = x })) (read_of s)
    unfolding read_of
    volume sector a z x e es ea ez ex =
        rw (← first, has, ← second, e) (λ i. gives (record { root = record { sector = record { 0 = (es ∙ ea) i }; size = ez i }; stamp = ex i }))
