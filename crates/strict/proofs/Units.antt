-- The map of units and the entries listed: a run of units is free of marks exactly where the entry on it is apart from those listed, and marking an entry keeps
-- the map true. Assumes nothing.
use Prim.Native.Nat.{ℕ, ◌+◌, ◌-◌, ◌*◌, ◌/◌, ◌%◌, ◌≤◌, ◌<◌}
use mathlib.Core.Path.{◌≡◌, refl, sym, ap, ap₂, ◌∙◌}
use mathlib.Core.Bool.{Bool, true, false, ◌&&◌}
use mathlib.Core.Logic.{◌⊎◌, inl, inr, ⊎_elim}
use mathlib.Core.List.Memᴰ
use mathlib.Core.List.{List, [], ◌∷◌, ◌++◌, Memᴰ}
use mathlib.Core.Option.{Option}
use native.Mathlib.Omega.{arith}
use borrow.Author.Tests.{eq-eqb, ne_eqb, eqb-true}
use lib.Dec.{eqb}
use lib.ListN.{length, get_or, replicate, length-replicate, get_or-replicate}
use Rattle.units.specs.Told.{Told}
use Rattle.read_entry.specs.declared.Placed.{Placed}
use Rattle.read_entry.specs.Links.{is_in}
use Rattle.strict_map.specs.inner.Map.{Tested, Taken, Marked}
use Rattle.strict_map.proofs.Turn.{below_or_not}
use Rattle.strict_rule.specs.Strict.{end_by, clear, apart}
use Rattle.strict_rule.proofs.Clear.{not_true_is_false, true_not_false, both_first, both_second, is_in_last, is_in_other, clear_says, is_clear_lem, not_clear}
use Rattle.strict.specs.inner.Run.{Whole, Mapped}

both_end : (a : Bool) → a && true ≡ a
both_end true = refl
both_end false = refl

both_none : (a : Bool) → a && false ≡ false
both_none true = refl
both_none false = refl

both_assoc : (a b c : Bool) → a && (b && c) ≡ (a && b) && c
both_assoc true b c = refl
both_assoc false b c = refl

module _ (f : ℕ → Told (Option Placed)) where
  -- a part of what is apart is apart
  apart_part : (o e p q : ℕ) (xs : List ℕ) → o ≤ p → q ≤ e → apart f o e xs ≡ true → apart f p q xs ≡ true
  unfolding apart
  apart_part o e p q [] a b h = refl
  apart_part o e p q (x ∷ xs) a b h =
      let c : clear f p q x ≡ true = is_clear_lem f p q x (⊎_elim (λ (l : e ≤ x). inl (omega arith)) (λ (l : end_by (f x) x ≤ o). inr (omega arith)) (clear_says f o e x (both_first (clear f o e x) (apart f o e xs) h))) in
      ap₂ ◌&&◌ c (apart_part o e p q xs a b (both_second (clear f o e x) (apart f o e xs) h))

  pub apart_snoc : (o e x : ℕ) (xs : List ℕ) → apart f o e (xs ++ (x ∷ [])) ≡ apart f o e xs && clear f o e x
  unfolding apart
  apart_snoc o e x [] = both_end (clear f o e x)
  apart_snoc o e x (y ∷ ys) = ap (λ b. clear f o e y && b) (apart_snoc o e x ys) ∙ both_assoc (clear f o e y) (apart f o e ys) (clear f o e x)

  -- the units that the test of a run looks at: every fourth from the first, and the last
  abbrev Looked : ℕ → ℕ → ℕ → Type 0
  Looked k t u = ((k ≤ u) × (u < t) × ((u - k) % 4 ≡ 0)) ⊎ (u ≡ t - 1)

  module _ (k t : ℕ) (some-units : k < t) where
    -- an entry of four units or more that stands on the run stands on one of those
    stands_on : (x a b : ℕ) → x ≡ 4 * a → end_by (f x) x ≡ 4 * b → a + 4 ≤ b → a < t → k < b →
        ((u : ℕ) → Looked k t u → (4 * u + 4 ≤ x) ⊎ (end_by (f x) x ≤ 4 * u)) → ⊥
    stands_on x a b p q long before after says = ⊎_elim
        (λ (l : k < a). ⊎_elim
        (λ (m : t < b). ⊎_elim (λ (g : 4 * (t - 1) + 4 ≤ x). omega arith) (λ (g : end_by (f x) x ≤ 4 * (t - 1)). omega arith) (says (t - 1) (inr refl)))
        (λ (m : b ≤ t). inner l m (k + (a - k + 3) / 4 * 4) (omega arith) (omega arith) (omega arith))
        (below_or_not t b))
        (λ (l : a ≤ k). ⊎_elim (λ (g : 4 * k + 4 ≤ x). omega arith) (λ (g : end_by (f x) x ≤ 4 * k). omega arith) (says k (inl (omega arith, some-units, omega arith))))
        (below_or_not k a)
      where
        inner : k < a → b ≤ t → (u : ℕ) → a ≤ u → u < a + 4 → (u - k) % 4 ≡ 0 → ⊥
        inner l m u c d e = ⊎_elim (λ (g : 4 * u + 4 ≤ x). omega arith) (λ (g : end_by (f x) x ≤ 4 * u). omega arith) (says u (inl (omega arith, omega arith, e)))

    -- so what is clear of a list at those is clear of it on the whole run
    looked_apart : (xs : List ℕ) → ((x : ℕ) → Memᴰ x xs → Whole f x) → ((u : ℕ) → Looked k t u → apart f (4 * u) (4 * u + 4) xs ≡ true) → apart f (4 * k) (4 * t) xs ≡ true
    unfolding apart
    looked_apart [] whole says = refl
    looked_apart (x ∷ xs) whole says =
        ap₂ ◌&&◌
        (one (whole x (Memᴰ.head refl)) (λ u l. clear_says f (4 * u) (4 * u + 4) x (both_first (clear f (4 * u) (4 * u + 4) x) (apart f (4 * u) (4 * u + 4) xs) (says u l))))
        (looked_apart xs (λ y m. whole y (Memᴰ.tail m)) (λ u l. both_second (clear f (4 * u) (4 * u + 4) x) (apart f (4 * u) (4 * u + 4) xs) (says u l)))
      where
        one : Whole f x → ((u : ℕ) → Looked k t u → (4 * u + 4 ≤ x) ⊎ (end_by (f x) x ≤ 4 * u)) → clear f (4 * k) (4 * t) x ≡ true
        one w at = ⊎_elim
            (λ (l : x < 4 * t). ⊎_elim
            (λ (m : 4 * k < end_by (f x) x). absurd (stands_on x w.from w.to w.starts w.ends w.long (omega (arith, w.starts)) (omega (arith, w.ends)) at))
            (λ (m : end_by (f x) x ≤ 4 * k). is_clear_lem f (4 * k) (4 * t) x (inr m))
            (below_or_not (4 * k) (end_by (f x) x)))
            (λ (l : 4 * t ≤ x). is_clear_lem f (4 * k) (4 * t) x (inl l))
            (below_or_not x (4 * t))

    -- the test of a run of units of the map
    module _ (seen m : List ℕ) (map : Mapped f seen m) (in_map : t ≤ length m) where
      free_at : (u : ℕ) → u < t → get_or m u 0 ≡ 0 → apart f (4 * u) (4 * u + 4) seen ≡ true
      free_at u l e = sym (map.free u (omega arith)) ∙ eq-eqb _ _ e

      tested_by : (r : Bool) → Tested m k t r → r ≡ apart f (4 * k) (4 * t) seen
      tested_by true d = sym (looked_apart seen map.whole (λ u l. ⊎_elim
          (λ (g : (k ≤ u) × (u < t) × ((u - k) % 4 ≡ 0)). free_at u g.1 (d.fourth refl u g.0 g.1 g.2))
          (λ (g : u ≡ t - 1). free_at u (omega arith) (ap (λ (v : ℕ). get_or m v 0) g ∙ d.last refl)) l))
      tested_by false d = sym (not_true_is_false (apart f (4 * k) (4 * t) seen) (λ h.
          let g : Taken m k t = d.taken refl in
          let u : ℕ = g.unit in
          true_not_false
          (apart_part (4 * k) (4 * t) (4 * u) (4 * u + 4) seen (omega (arith, g.not_before)) (omega (arith, g.inside)) h)
          (sym (map.free u (omega (arith, g.inside))) ∙ ne_eqb _ _ g.marked)))

  pub tested_apart : (k t : ℕ) → k < t → (seen m : List ℕ) → t ≤ length m → Mapped f seen m → (r : Bool) → Tested m k t r → r ≡ apart f (4 * k) (4 * t) seen
  tested_apart k t h seen m l map r d = tested_by k t h seen m map l r d

-- an entry marked on the map: from unit k to before unit t
module _ (f : ℕ → Told (Option Placed)) (seen m : List ℕ) (map : Mapped f seen m) (k t : ℕ) (in_map : t ≤ length m) (long : k + 4 ≤ t)
    (ends : end_by (f (4 * k)) (4 * k) ≡ 4 * t) (alone : apart f (4 * k) (4 * t) seen ≡ true) (after : List ℕ) (marks : Marked m k t after) where
  -- where the run stands to a unit
  data Side (u : ℕ) : Type 0 where
    first : u ≡ k → Side u
    other : k < u → u < t → Side u
    beside : (u < k) ⊎ (t ≤ u) → Side u

  side : (u : ℕ) → Side u
  side u = ⊎_elim (λ (a : u < k). beside (inl a))
      (λ (a : k ≤ u). ⊎_elim (λ (b : k < u). ⊎_elim (λ (c : u < t). other b c) (λ (c : t ≤ u). beside (inr c)) (below_or_not u t)) (λ (b : u ≤ k). first (omega arith)) (below_or_not k u))
      (below_or_not u k)

  -- on the run no unit was marked
  none_there : (u : ℕ) → k ≤ u → u < t → get_or m u 0 ≡ 0
  none_there u a b = eqb-true _ _ (map.free u (omega arith) ∙ apart_part f (4 * k) (4 * t) (4 * u) (4 * u + 4) seen (omega arith) (omega arith) alone)

  starts_by : (u : ℕ) → u < length m → Side u → eqb (get_or after u 0) 1 ≡ is_in (4 * u) (seen ++ (4 * k ∷ []))
  starts_by u l (first e) = rw (e, marks.first) (sym (is_in_last (4 * k) (4 * k) seen refl))
  starts_by u l (other a b) = rw (marks.others u a b)
      (sym (is_in_other (4 * u) (4 * k) seen (λ e. omega arith) ∙ sym (map.starts u l) ∙ rw (none_there u (omega arith) b)))
  starts_by u l (beside a) = rw (marks.beside u a)
      (map.starts u l ∙ sym (is_in_other (4 * u) (4 * k) seen (λ e. ⊎_elim (λ (b : u < k). omega arith) (λ (b : t ≤ u). omega arith) a)))

  free_on : (u : ℕ) → k ≤ u → u < t → false ≡ apart f (4 * u) (4 * u + 4) (seen ++ (4 * k ∷ []))
  free_on u a b = sym (apart_snoc f (4 * u) (4 * u + 4) (4 * k) seen
      ∙ rw (not_clear f (4 * u) (4 * u + 4) (4 * k) (omega arith) (omega (arith, ends))) (both_none (apart f (4 * u) (4 * u + 4) seen)))

  free_by : (u : ℕ) → u < length m → Side u → eqb (get_or after u 0) 0 ≡ apart f (4 * u) (4 * u + 4) (seen ++ (4 * k ∷ []))
  free_by u l (first e) = rw (e, marks.first) (free_on k (omega arith) (omega arith))
  free_by u l (other a b) = rw (marks.others u a b) (free_on u (omega arith) b)
  free_by u l (beside a) = rw (marks.beside u a)
      (map.free u l ∙ sym (apart_snoc f (4 * u) (4 * u + 4) (4 * k) seen
      ∙ rw (is_clear_lem f (4 * u) (4 * u + 4) (4 * k) (⊎_elim (λ (b : u < k). inl (omega arith)) (λ (b : t ≤ u). inr (omega (arith, ends))) a)) (both_end (apart f (4 * u) (4 * u + 4) seen))))

  whole_by : (x : ℕ) → Memᴰ x seen ⊎ Memᴰ x (4 * k ∷ []) → Whole f x
  whole_by x (inl in-seen) = map.whole x in-seen
  whole_by x (inr is_last) =
      let e : x ≡ 4 * k = Memᴰ.eq_of_singleton is_last in
      record { from = k; to = t; starts = e; ends = ap (λ (y : ℕ). end_by (f y) y) e ∙ ends; long = long }

  pub marked_mapped : Mapped f (seen ++ (4 * k ∷ [])) after
  marked_mapped = record {
    starts = λ u l. starts_by u (omega (arith, marks.kept)) (side u);
    free = λ u l. free_by u (omega (arith, marks.kept)) (side u);
    whole = λ x d. whole_by x (Memᴰ.append_cases seen d);
  }

-- a map of zeros is that of no entries
pub none_mapped : (f : ℕ → Told (Option Placed)) (n : ℕ) → Mapped f [] (replicate n 0)
unfolding apart is_in
none_mapped f n = record {
  starts = λ u l. rw (get_or-replicate {A = ℕ} n u 0 0 (omega (arith, length-replicate {A = ℕ} n 0)));
  free = λ u l. rw (get_or-replicate {A = ℕ} n u 0 0 (omega (arith, length-replicate {A = ℕ} n 0)));
  whole = λ x d. absurd (Memᴰ.not-nil d);
}
