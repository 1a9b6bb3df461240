-- What `bal` keeps: the nodes, and the height but for one.
use Rattle.std.proofs.Common.{ℕ, suc, ◌+◌, ◌≤◌, ◌<◌, max, arith, ◌≡◌, refl, sym, ap, Bool, true, false, ltb, ltb-true, ltb-false}
use Rattle.avl_model.specs.Tree.{Tree, leaf, node, ht, δ, cnt, turn_left_by, turn_right_by, bal, bal_by, ins, ins_by}

-- A property that the node l i r has where the heights are near, and that each rotation has where it is made, `bal l i r` has.
module _ (P : Tree → Type 0) where
  by_left : (t : Bool) (x : Tree) (a : ℕ) (y : Tree) (b : ℕ) (z : Tree) → t ≡ ltb (ht z) (ht y)
      → (ht y ≤ ht z → P (node (node x a y) b z))
      → ((u : Tree) (c : ℕ) (v : Tree) → y ≡ node u c v → ht z < ht y → P (node (node x a u) c (node v b z))) → P (turn_left_by t x a y b z)
  by_left false x a y b z e s d = s (ltb-false (ht z) (ht y) (sym e))
  by_left true x a leaf b z e s d = absurd (omega (arith, ltb-true (ht z) 0 (sym e)))
  by_left true x a (node u c v) b z e s d = d u c v refl (ltb-true (ht z) (ht (node u c v)) (sym e))

  by_right : (t : Bool) (x : Tree) (b : ℕ) (y : Tree) (a : ℕ) (z : Tree) → t ≡ ltb (ht x) (ht y)
      → (ht y ≤ ht x → P (node x b (node y a z)))
      → ((u : Tree) (c : ℕ) (v : Tree) → y ≡ node u c v → ht x < ht y → P (node (node x b u) c (node v a z))) → P (turn_right_by t x b y a z)
  by_right false x b y a z e s d = s (ltb-false (ht x) (ht y) (sym e))
  by_right true x b leaf a z e s d = absurd (omega (arith, ltb-true (ht x) 0 (sym e)))
  by_right true x b (node u c v) a z e s d = d u c v refl (ltb-true (ht x) (ht (node u c v)) (sym e))

  -- the four rotations, with what holds where each is made
  abbrev Sides : Tree → ℕ → Tree → Type 0
  Sides l i r =
      ((x : Tree) (b : ℕ) (y : Tree) → l ≡ node x b y → suc (ht r) < ht l
      → (ht y ≤ ht x → P (node x b (node y i r))) × ((u : Tree) (c : ℕ) (v : Tree) → y ≡ node u c v → ht x < ht y → P (node (node x b u) c (node v i r))))
      × ((y : Tree) (b : ℕ) (z : Tree) → r ≡ node y b z → suc (ht l) < ht r
      → (ht y ≤ ht z → P (node (node l i y) b z)) × ((u : Tree) (c : ℕ) (v : Tree) → y ≡ node u c v → ht z < ht y → P (node (node l i u) c (node v b z))))

  bal_by_lem : (s t : Bool) (l : Tree) (i : ℕ) (r : Tree) → s ≡ ltb (suc (ht r)) (ht l) → t ≡ ltb (suc (ht l)) (ht r) → (ht l ≤ suc (ht r) → ht r ≤ suc (ht l) → P (node l i r)) → Sides l i r → P (bal_by s t l i r)
  bal_by_lem false false l i r es et n d = n (ltb-false (suc (ht r)) (ht l) (sym es)) (ltb-false (suc (ht l)) (ht r) (sym et))
  bal_by_lem false true l i leaf es et n d = absurd (omega (arith, ltb-true (suc (ht l)) 0 (sym et)))
  bal_by_lem false true l i (node y b z) es et n d = let g = d.1 y b z refl (ltb-true (suc (ht l)) (ht (node y b z)) (sym et)) in by_left (ltb (ht z) (ht y)) l i y b z refl g.0 g.1
  bal_by_lem true t leaf i r es et n d = absurd (omega (arith, ltb-true (suc (ht r)) 0 (sym es)))
  bal_by_lem true t (node x b y) i r es et n d = let g = d.0 x b y refl (ltb-true (suc (ht r)) (ht (node x b y)) (sym es)) in by_right (ltb (ht x) (ht y)) x b y i r refl g.0 g.1

  pub bal_ind : (l : Tree) (i : ℕ) (r : Tree) → (ht l ≤ suc (ht r) → ht r ≤ suc (ht l) → P (node l i r)) → Sides l i r → P (bal l i r)
  unfolding bal
  bal_ind l i r n d = bal_by_lem (ltb (suc (ht r)) (ht l)) (ltb (suc (ht l)) (ht r)) l i r refl refl n d

pub bal-cnt : (j : ℕ) (l : Tree) (i : ℕ) (r : Tree) → cnt j (bal l i r) ≡ cnt j l + (δ i j + cnt j r)
bal-cnt j l i r = bal_ind (λ s. cnt j s ≡ cnt j l + (δ i j + cnt j r)) l i r (λ p q. refl) (
  (λ x b y e h. (λ q. rw e (omega arith), λ u c v f q. rw e (rw f (omega arith)))),
  (λ y b z e h. (λ q. rw e (omega arith), λ u c v f q. rw e (rw f (omega arith)))),
)

pub bal-ht : (l : Tree) (i : ℕ) (r : Tree) → (1 ≤ ht (bal l i r)) × (ht (bal l i r) ≤ suc (max (ht l) (ht r)))
bal-ht l i r = bal_ind (λ s. (1 ≤ ht s) × (ht s ≤ suc (max (ht l) (ht r)))) l i r (λ p q. omega arith) (
  (λ x b y e h. let k : ht l ≡ suc (max (ht x) (ht y)) = ap ht e in
      (λ q. omega arith, λ u c v f q. let m : ht y ≡ suc (max (ht u) (ht v)) = ap ht f in omega arith)),
  (λ y b z e h. let k : ht r ≡ suc (max (ht y) (ht z)) = ap ht e in
      (λ q. omega arith, λ u c v f q. let m : ht y ≡ suc (max (ht u) (ht v)) = ap ht f in omega arith)),
)

-- insertion puts in the new node and keeps all others: each number as often as before, and `new` once more
pub ins-cnt : (less : ℕ → Bool) (new j : ℕ) (t : Tree) → cnt j (ins less new t) ≡ cnt j t + δ new j
ins-cnt less new j leaf = omega arith
ins-cnt less new j (node l i r) = elim (less i) as (λ b. cnt j (ins_by b l (ins less new l) i r (ins less new r)) ≡ cnt j l + (δ i j + cnt j r) + δ new j) [
  | true ↦ omega (arith, bal-cnt j (ins less new l) i r, ins-cnt less new j l)
  | false ↦ omega (arith, bal-cnt j l i (ins less new r), ins-cnt less new j r)
]
