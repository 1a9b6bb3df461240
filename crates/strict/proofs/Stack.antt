-- Visits as numbers of the scratch, and what pushing leaves. Assumes nothing.
use Prim.Native.Nat.{ℕ, ◌+◌, ◌*◌, ◌/◌, ◌%◌, ◌<◌}
use mathlib.Core.Path.{◌≡◌, refl, sym, ap, ap₂, ◌∙◌}
use mathlib.Core.Bool.{Bool, true, false}
use mathlib.Core.Logic.{◌⊎◌, inl, inr}
use mathlib.Core.List.{List, [], ◌∷◌, map}
use native.Mathlib.Omega.{arith}
use borrow.Author.Tests.{eq-eqb, ne_eqb}
use lib.Dec.{eqb}
use lib.ListN.{length, take, set, length-set}
use Rattle.units.specs.Told.{pick}
use Rattle.units.specs.declared.Link.{Link}
use Rattle.layout_node.specs.declared.Header.{Header}
use Rattle.read_entry.specs.Links.{is_in}
use Rattle.read_walk.proofs.Stack.{stack_push}
use Rattle.strict_rule.specs.Strict.{Visit, visit_left, visit_right, push}
use Rattle.strict_rule.specs.inner.Nearest.{nearest}
use Rattle.strict.specs.inner.Run.{bound_of, visit_of, visits_of, Pushed, Entered}

-- the number of a visit of link k under u and over v: its three parts
module _ (k u v : ℕ) (low-k : k < 65536) (low-u : u < 65536) (low-v : v < 65536) where
  link_part : (k + 65536 * (u + 65536 * v)) % 65536 ≡ k
  link_part = omega arith

  under_part : (k + 65536 * (u + 65536 * v)) / 65536 % 65536 ≡ u
  under_part =
      let q : (k + 65536 * (u + 65536 * v)) / 65536 ≡ u + 65536 * v = omega arith in
      rw q (let e : (u + 65536 * v) % 65536 ≡ u = omega arith in e)

  over_part : (k + 65536 * (u + 65536 * v)) / 4294967296 % 65536 ≡ v
  over_part =
      let q : (k + 65536 * (u + 65536 * v)) / 4294967296 ≡ v = omega arith in
      rw q (let e : v % 65536 ≡ v = omega arith in e)

  pub unpacked : (rest : ℕ) → rest ≡ u + 65536 * v → visit_of (k + 65536 * rest) ≡ record { offset = 4 * k; under = bound_of u; over = bound_of v }
  unpacked rest e =
      ap (λ (r : ℕ). visit_of (k + 65536 * r)) e ∙ (λ i. record { offset = 4 * link_part i; under = bound_of (under_part i); over = bound_of (over_part i) })

-- a link, n its number, with the rest of its visit's number
module _ (s : List ℕ) (top rest n : ℕ) (l : Link) (is-n : n ≡ l.0) where
  zero_link : n ≡ 0 → Pushed l.0 rest s top s top
  unfolding push is_in
  zero_link e = record { stack = rw (← is-n, eq-eqb _ _ e); height = omega arith; kept = refl }

  module _ (not_zero : n ≡ 0 → ⊥) where
    ones_link : n ≡ 65535 → Pushed l.0 rest s top s top
    unfolding push is_in
    ones_link e = record { stack = rw (← is-n, ne_eqb _ _ not_zero, eq-eqb _ _ e); height = omega arith; kept = refl }

    pub link : (top < length s) × (rest < 4294967296) → (n ≡ 65535 → ⊥) → (v : ℕ) → v ≡ n → (r : ℕ) → r ≡ top + 1 → Pushed l.0 rest s top (set s top (v + 65536 * rest)) r
    unfolding push is_in
    link h m v is-v r d = rw is-v (record {
      stack = rw (← is-n, ne_eqb _ _ not_zero, ne_eqb _ _ m, d) (ap (map visit_of) (stack_push s top (n + 65536 * rest) h.0));
      height = omega arith;
      kept = length-set s top (n + 65536 * rest);
    })

  pub absent_link : (n ≡ 0) ⊎ ((n ≡ 0 → ⊥) × (n ≡ 65535)) → Pushed l.0 rest s top s top
  absent_link (inl e) = zero_link e
  absent_link (inr e) = ones_link e.0 e.1

-- the children of the entry at visit c
bound_of_link : (k : ℕ) → k < 65535 → bound_of k ≡ 4 * k ∷ []
bound_of_link k h = rw (ne_eqb k 65535 (λ e. omega arith))

-- a visit's number has no more than one bound on each side
one_bound : (k : ℕ) → take 1 (bound_of k) ≡ bound_of k
one_bound k = by (eqb k 65535)
  where
    by : (b : Bool) → take 1 (pick b [] (4 * k ∷ [])) ≡ pick b [] (4 * k ∷ [])
    by true = refl
    by false = refl

module _ (c k : ℕ) (is-k : k ≡ c % 65536) (low : k < 65535) (j : ℕ) (low-j : j < 65536) where
  left_visit : (over : ℕ) → over ≡ c / 4294967296 % 65536 → visit_of (j + 65536 * (k + 65536 * over)) ≡ nearest (visit_left j (visit_of c))
  left_visit over e =
      unpacked j k over low-j (omega arith) (omega arith) (k + 65536 * over) refl
      ∙ ap₂ (λ (a b : List ℕ). record { offset = 4 * j; under = a; over = b }) (bound_of_link k low ∙ ap (λ (n : ℕ). 4 * n ∷ []) is-k) (ap bound_of e ∙ sym (one_bound (c / 4294967296 % 65536)))

  right_visit : (under : ℕ) → under ≡ c / 65536 % 65536 → visit_of (j + 65536 * (under + 65536 * k)) ≡ nearest (visit_right j (visit_of c))
  right_visit under e =
      unpacked j under k low-j (omega arith) (omega arith) (under + 65536 * k) refl
      ∙ ap₂ (λ (a b : List ℕ). record { offset = 4 * j; under = a; over = b }) (ap bound_of e ∙ sym (one_bound (c / 65536 % 65536))) (bound_of_link k low ∙ ap (λ (n : ℕ). 4 * n ∷ []) is-k)

pub children : (s : List ℕ) (top c k under over : ℕ) (h : Header) → (top + 1 < length s) × (c % 65536 < 65535) → k ≡ c % 65536 → under ≡ c / 65536 % 65536 → over ≡ c / 4294967296 % 65536 →
    h.left.0 < 65536 → h.right.0 < 65536 →
    (s₁ : List ℕ) (t₁ : ℕ) → Pushed h.right.0 (under + 65536 * k) s top s₁ t₁ → (s₂ : List ℕ) (t₂ : ℕ) → Pushed h.left.0 (k + 65536 * over) s₁ t₁ s₂ t₂ →
    Entered (visit_of c) h s top s₂ t₂
children s top c k under over h room is-k is_under_lem is_over_lem low_left low_right s₁ t₁ p s₂ t₂ q =
    let low : k < 65535 = omega arith in
    let a = left_visit c k is-k low h.left.0 low_left over is_over_lem in
    let b = right_visit c k is-k low h.right.0 low_right under is_under_lem in
    record {
      stack = q.stack ∙ ap (λ (v : Visit). push h.left.0 v (visits_of s₁ t₁)) a
          ∙ ap (push h.left.0 (nearest (visit_left h.left.0 (visit_of c)))) (p.stack ∙ ap (λ (v : Visit). push h.right.0 v (visits_of s top)) b);
      height = omega (arith, p.height, q.height);
      kept = q.kept ∙ p.kept;
    }
