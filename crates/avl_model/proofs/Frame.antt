-- What does not touch a tree's nodes leaves the tree held.
use Rattle.std.proofs.Common.{ℕ, suc, ◌≤◌, max, arith, ◌≡◌, refl, ap, subst, ◌∙◌, eq-eqb, ne_eqb}
use Rattle.avl_model.specs.Tree.{Tree, leaf, node, top, ht, one, δ, cnt}
use Rattle.avl_model.specs.Rep.{Arr, Rep}
use Rattle.avl_model.specs.inner.Rep.{Ctx, hole, in_l, in_r, cnt_k, Link, Step, RepK}

pub δ-same : (i : ℕ) → δ i i ≡ 1
unfolding δ
δ-same i = ap one (eq-eqb i i refl)

-- B is as A is at j
pub record Agree (A B : Arr) (j : ℕ) : Type 0 where
  pub l : B.L j ≡ A.L j
  pub r : B.R j ≡ A.R j
  pub p : B.P j ≡ A.P j
  pub h : B.H j ≡ A.H j

module _ (A B : Arr) (n : ℕ) where
  pub frame : (t : Tree) (p : ℕ) → ((j : ℕ) → 1 ≤ cnt j t → Agree A B j) → Rep A n p t → Rep B n p t
  frame leaf p h c = tt
  frame (node l i r) p h c =
      let at : Agree A B i = h i (omega (arith, δ-same i)) in (
        record {
          fits = c.0.fits;
          left = at.l ∙ c.0.left;
          right = at.r ∙ c.0.right;
          up = at.p ∙ c.0.up;
          high = at.h ∙ c.0.high;
        },
        frame l i (λ j q. h j (omega arith)) c.1,
        frame r i (λ j q. h j (omega arith)) c.2,
      )

  pub frame_link : (k : Ctx) (i : ℕ) → B.root ≡ A.root → ((j : ℕ) → 1 ≤ cnt_k j k → Agree A B j) → Link A k i → Link B k i
  frame_link hole i q h c = q ∙ c
  frame_link (in_l m r k) i q h c = (h m (omega (arith, δ-same m))).l ∙ c
  frame_link (in_r l m k) i q h c = (h m (omega (arith, δ-same m))).r ∙ c

  frame_step : (hh i : ℕ) (o : Tree) (k : Ctx) → B.root ≡ A.root → Agree A B i → ((j : ℕ) → 1 ≤ cnt j o → Agree A B j)
      → ((j : ℕ) → 1 ≤ cnt_k j k → Agree A B j) → Step A n hh i o k → Step B n hh i o k
  frame_step hh i o k q at ho hk c = record {
    fits = c.fits;
    up = at.p ∙ c.up;
    high = at.h ∙ c.high;
    sib = frame o i ho c.sib;
    link = frame_link k i q hk c.link;
  }

  pub frame_k : (k : Ctx) (hh : ℕ) → B.root ≡ A.root → ((j : ℕ) → 1 ≤ cnt_k j k → Agree A B j) → RepK A n hh k → RepK B n hh k
  frame_k hole hh q h c = tt
  frame_k (in_l i r k) hh q h c =
      let at : Agree A B i = h i (omega (arith, δ-same i)) in
      (at.r ∙ c.0, frame_step hh i r k q at (λ j m. h j (omega arith)) (λ j m. h j (omega arith)) c.1, frame_k k (suc (max hh (ht r))) q (λ j m. h j (omega arith)) c.2)
  frame_k (in_r l i k) hh q h c =
      let at : Agree A B i = h i (omega (arith, δ-same i)) in
      (at.l ∙ c.0, frame_step hh i l k q at (λ j m. h j (omega arith)) (λ j m. h j (omega arith)) c.1, frame_k k (suc (max hh (ht l))) q (λ j m. h j (omega arith)) c.2)

pub δ-apart : (i j : ℕ) → (i ≡ j → ⊥) → δ i j ≡ 0
unfolding δ
δ-apart i j ne = ap one (ne_eqb i j ne)

-- what stands in f, and what does not, are two
pub apart : (f : ℕ → ℕ) {j a : ℕ} → 1 ≤ f j → f a ≡ 0 → j ≡ a → ⊥
apart f {j} {a} h z e = let g : 1 ≤ f a = subst (λ (v : ℕ). 1 ≤ f v) e h in omega arith

-- B is as A is at j, but for the parent of t
pub record Moved (A B : Arr) (t j : ℕ) : Type 0 where
  pub l : B.L j ≡ A.L j
  pub r : B.R j ≡ A.R j
  pub p : (j ≡ t → ⊥) → B.P j ≡ A.P j
  pub h : B.H j ≡ A.H j

module _ (A B : Arr) (n : ℕ) where
  agreed : (t j : ℕ) → Moved A B t j → (j ≡ t → ⊥) → Agree A B j
  agreed t j m ne = record { l = m.l; r = m.r; p = m.p ne; h = m.h }

  -- a subtree whose root alone gets another parent
  pub move : (t : Tree) (p q : ℕ) → ((j : ℕ) → cnt j t ≤ 1) → ((j : ℕ) → 1 ≤ cnt j t → Moved A B (top t) j)
      → (1 ≤ cnt (top t) t → B.P (top t) ≡ q) → Rep A n p t → Rep B n q t
  move leaf p q o h u c = tt
  move (node l i r) p q o h u c =
      let here : δ i i ≡ 1 = δ-same i in
      let at : Moved A B i i = h i (omega arith) in (
        record {
          fits = c.0.fits;
          left = at.l ∙ c.0.left;
          right = at.r ∙ c.0.right;
          up = u (omega arith);
          high = at.h ∙ c.0.high;
        },
        frame A B n l i (λ j m. agreed i j (h j (omega arith)) (apart (λ v. cnt v l) m (omega (arith, o i)))) c.1,
        frame A B n r i (λ j m. agreed i j (h j (omega arith)) (apart (λ v. cnt v r) m (omega (arith, o i)))) c.2,
      )
