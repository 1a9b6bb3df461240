-- The Rust chooses the rotation by the way that the climb came, and not by the heights of the grandchildren. On an AVL tree that is the same choice.
use Rattle.std.proofs.Common.{ℕ, suc, ◌≤◌, ◌<◌, arith, ◌≡◌, refl, sym, ap, ◌∙◌, Bool, true, false, not, ◌⊎◌, inl, inr, ltb, lt-ltb, le-ltb}
use Rattle.std.proofs.Math.Decide.{dec_lt}
use Rattle.avl_model.specs.Tree.{Tree, leaf, node, ht, bal, ins, ins_by, turn_left_by, turn_right_by}
use Rattle.avl_model.specs.Laws.{Avl}
use Rattle.avl_model.specs.Rust.{rust, rust_by, ins_rust}
use Rattle.avl_model.proofs.Avl.{Lean, Grown, ins_grown}

-- the side that is higher is the way that was gone
flag_left : (b : Bool) (x y : ℕ) → (b ≡ true → y < x) × (b ≡ false → x < y) → not b ≡ ltb x y
flag_left true x y f = sym (le-ltb x y (omega (arith, f.0 refl)))
flag_left false x y f = sym (lt-ltb x y (f.1 refl))

flag_right : (b : Bool) (y z : ℕ) → (b ≡ true → z < y) × (b ≡ false → y < z) → b ≡ ltb z y
flag_right true y z f = sym (lt-ltb z y (f.0 refl))
flag_right false y z f = sym (le-ltb z y (omega (arith, f.1 refl)))

module _ (less : ℕ → Bool) (i h : ℕ) where
  left_same : (l r : Tree) → Grown less h l → h ≤ suc (ht r) → ht r ≤ suc h → rust less true l i r ≡ bal l i r
  unfolding bal
  left_same leaf r g p q = rw (le-ltb (suc (ht r)) 0 (omega arith), le-ltb (suc 0) (ht r) (low g.high))
    where
      low : (0 ≡ h) ⊎ ((0 ≡ suc h) × Unit {0}) → ht r ≤ suc 0
      low (inl e) = omega arith
      low (inr e) = absurd (omega (arith, e.0))
  left_same (node x b y) r g p q = elim (dec_lt (suc (ht r)) (ht (node x b y))) [
    | yes t ↦ rw (lt-ltb (suc (ht r)) (ht (node x b y)) t) (ap (λ (f : Bool). turn_right_by f x b y i r) (flag_left (less b) (ht x) (ht y) (lean g.high t)))
    | no t ↦ rw (le-ltb (suc (ht r)) (ht (node x b y)) (omega arith), le-ltb (suc (ht (node x b y))) (ht r) (low g.high))
  ]
    where
      lean : (ht (node x b y) ≡ h) ⊎ ((ht (node x b y) ≡ suc h) × Lean less (node x b y)) → suc (ht r) < ht (node x b y) → (less b ≡ true → ht y < ht x) × (less b ≡ false → ht x < ht y)
      lean (inl e) t = absurd (omega arith)
      lean (inr e) t = e.1 (omega arith)

      low : (ht (node x b y) ≡ h) ⊎ ((ht (node x b y) ≡ suc h) × Lean less (node x b y)) → ht r ≤ suc (ht (node x b y))
      low (inl e) = omega arith
      low (inr e) = omega (arith, e.0)

  right_same : (l r : Tree) → Grown less h r → h ≤ suc (ht l) → ht l ≤ suc h → rust less false l i r ≡ bal l i r
  unfolding bal
  right_same l leaf g p q = rw (le-ltb (suc (ht l)) 0 (omega arith), le-ltb (suc 0) (ht l) (low g.high))
    where
      low : (0 ≡ h) ⊎ ((0 ≡ suc h) × Unit {0}) → ht l ≤ suc 0
      low (inl e) = omega arith
      low (inr e) = absurd (omega (arith, e.0))
  right_same l (node y b z) g p q = elim (dec_lt (suc (ht l)) (ht (node y b z))) [
    | yes t ↦ rw (lt-ltb (suc (ht l)) (ht (node y b z)) t, le-ltb (suc (ht (node y b z))) (ht l) (omega arith)) (ap (λ (f : Bool). turn_left_by f l i y b z) (flag_right (less b) (ht y) (ht z) (lean g.high t)))
    | no t ↦ rw (le-ltb (suc (ht l)) (ht (node y b z)) (omega arith), le-ltb (suc (ht (node y b z))) (ht l) (low g.high))
  ]
    where
      lean : (ht (node y b z) ≡ h) ⊎ ((ht (node y b z) ≡ suc h) × Lean less (node y b z)) → suc (ht l) < ht (node y b z) → (less b ≡ true → ht z < ht y) × (less b ≡ false → ht y < ht z)
      lean (inl e) t = absurd (omega arith)
      lean (inr e) t = e.1 (omega arith)

      low : (ht (node y b z) ≡ h) ⊎ ((ht (node y b z) ≡ suc h) × Lean less (node y b z)) → ht l ≤ suc (ht (node y b z))
      low (inl e) = omega arith
      low (inr e) = omega (arith, e.0)

-- insertion by the way that was gone is insertion by heights
pub ins_rust_lem : (less : ℕ → Bool) (new : ℕ) (t : Tree) → Avl t → ins_rust less new t ≡ ins less new t
ins_rust_lem less new leaf a = refl
ins_rust_lem less new (node l i r) a = elim (less i) as (λ b. rust_by less b l (ins_rust less new l) i r (ins_rust less new r) ≡ ins_by b l (ins less new l) i r (ins less new r)) [
  | true ↦ ap (λ (q : Tree). rust less true q i r) (ins_rust_lem less new l a.2) ∙ left_same less i (ht l) (ins less new l) r (ins_grown less new l a.2) a.0 a.1
  | false ↦ ap (λ (q : Tree). rust less false l i q) (ins_rust_lem less new r a.3) ∙ right_same less i (ht r) l (ins less new r) (ins_grown less new r a.3) a.1 a.0
]
