-- How often a number stands in an ordered tree, how many nodes a tree of n numbers has, and how high it is.
use Rattle.std.proofs.Common.{ℕ, zero, suc, ◌+◌, ◌≤◌, ◌<◌, arith, ◌≡◌, refl, sym, subst, ◌∙◌}
use Rattle.std.proofs.Math.Decide.{dec_le, ℕ_discrete}
use Rattle.avl_model.specs.Tree.{Tree, leaf, node, ht, δ, cnt}
use Rattle.avl_model.specs.Rep.{Arr, Rep}
use Rattle.avl_model.specs.Laws.{Avl, All, Ordered, size}
use Rattle.avl_model.proofs.Frame.{δ-same, δ-apart}
use Rattle.avl_model.proofs.Peak.{δ-is}
use Rattle.avl_model.proofs.Avl.{tally, size-tally, tally_le, least_mono, least_23, avl_size}

-- what holds of each node holds of a number that stands in the tree
pub all_at : (P : ℕ → Type 0) (t : Tree) (j : ℕ) → All P t → 1 ≤ cnt j t → P j
all_at P leaf j a h = absurd (omega arith)
all_at P (node l i r) j a h = elim (dec_le 1 (cnt j l)) [
  | yes k ↦ all_at P l j a.1 k
  | no k ↦ elim (dec_le 1 (cnt j r)) [
    | yes k2 ↦ all_at P r j a.2 k2
    | no k2 ↦ subst P (δ-is i j (omega arith)) a.0
  ]
]

-- a number that is no index stands nowhere
pub all_below : (n : ℕ) (t : Tree) (j : ℕ) → All (λ i. i < n) t → n ≤ j → cnt j t ≡ 0
all_below n t j a h = elim (dec_le 1 (cnt j t)) [
  | yes k ↦ absurd (omega (arith, all_at (λ i. i < n) t j a k))
  | no k ↦ omega arith
]

-- the nodes of a tree that arrays hold are below n
pub rep_below : (A : Arr) (n p : ℕ) (t : Tree) → Rep A n p t → All (λ j. j < n) t
rep_below A n p leaf c = tt
rep_below A n p (node l i r) c = (c.0.fits, rep_below A n i l c.1, rep_below A n i r c.2)

δ-le : (i j : ℕ) → δ i j ≤ 1
δ-le i j = elim (ℕ_discrete i j) [
  | yes e ↦ let d : δ i j ≡ 1 = subst (λ (v : ℕ). δ i v ≡ 1) e (δ-same i) in omega arith
  | no ne ↦ omega (arith, δ-apart i j ne)
]

-- three counts of at most one, of which no two are one at a time
one_of : (a b d : ℕ) → a ≤ 1 → b ≤ 1 → d ≤ 1 → (1 ≤ a → 1 ≤ b → ⊥) → (1 ≤ a → 1 ≤ d → ⊥) → (1 ≤ b → 1 ≤ d → ⊥) → a + (d + b) ≤ 1
one_of a b d p q s ab ad bd = elim (dec_le 1 a) [
  | yes ha ↦ elim (dec_le 1 b) [
    | yes hb ↦ absurd (ab ha hb)
    | no hb ↦ elim (dec_le 1 d) [ yes hd ↦ absurd (ad ha hd) | no hd ↦ omega arith ]
  ]
  | no ha ↦ elim (dec_le 1 b) [
    | yes hb ↦ elim (dec_le 1 d) [ yes hd ↦ absurd (bd hb hd) | no hd ↦ omega arith ]
    | no hb ↦ omega arith
  ]
]

-- a tree that is ordered strictly has no node twice
module _ (lt : ℕ → ℕ → Type 0) (trans : (a b c : ℕ) → lt a b → lt b c → lt a c) (never : (a : ℕ) → lt a a → ⊥) where
  pub ordered_once : (t : Tree) → Ordered lt t → (j : ℕ) → cnt j t ≤ 1
  ordered_once leaf o j = omega arith
  ordered_once (node l i r) o j =
      let below : 1 ≤ cnt j l → lt j i = all_at (λ k. lt k i) l j o.0 in
      let above : 1 ≤ cnt j r → lt i j = all_at (λ k. lt i k) r j o.1 in
      one_of (cnt j l) (cnt j r) (δ i j) (ordered_once l o.2 j) (ordered_once r o.3 j) (δ-le i j)
      (λ p q. never j (trans j i j (below p) (above q)))
      (λ p q. never j (subst (lt j) (δ-is i j q) (below p)))
      (λ p q. never j (subst (λ (v : ℕ). lt v j) (δ-is i j q) (above p)))

-- n nodes below n, none twice, are all of them
tally_full : (m : ℕ) (f : ℕ → ℕ) → ((j : ℕ) → f j ≤ 1) → tally m f ≡ m → (j : ℕ) → j < m → 1 ≤ f j
tally_full zero f o e j h = absurd (omega arith)
tally_full (suc m) f o e j h = elim (ℕ_discrete j m) [
  | yes q ↦ subst (λ (v : ℕ). 1 ≤ f v) (sym q) (omega (arith, o m, tally_le m f o))
  | no ne ↦ tally_full m f o (omega (arith, o m, tally_le m f o)) j (omega arith)
]

pub each_once : (n : ℕ) (t : Tree) → All (λ j. j < n) t → ((j : ℕ) → cnt j t ≤ 1) → size t ≡ n → (j : ℕ) → j < n → cnt j t ≡ 1
each_once n t a o e j h = omega (arith, o j, tally_full n (λ i. cnt i t) o (size-tally n t a ∙ e) j h)

tally_ones : (n : ℕ) (f : ℕ → ℕ) → ((j : ℕ) → j < n → f j ≡ 1) → tally n f ≡ n
tally_ones zero f h = refl
tally_ones (suc n) f h = omega (arith, h n (omega arith), tally_ones n f (λ j k. h j (omega arith)))

-- a tree of all numbers below n, each once, has n nodes
pub each_size : (n : ℕ) (t : Tree) → All (λ j. j < n) t → ((j : ℕ) → j < n → cnt j t ≡ 1) → size t ≡ n
each_size n t a h = sym (size-tally n t a) ∙ tally_ones n (λ j. cnt j t) h

-- of 65,535 nodes or fewer no AVL tree is 23 high
pub low_22 : (t : Tree) → size t ≤ 65535 → Avl t → ht t ≤ 22
low_22 t h v = elim (dec_le (ht t) 22) [
  | yes k ↦ k
  | no k ↦ absurd (omega (arith, least_23, least_mono 23 (ht t) (omega arith), avl_size t v))
]
