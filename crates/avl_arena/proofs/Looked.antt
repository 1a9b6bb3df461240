-- What `look` finds at a node, from what it finds below: the ways out of it, over plain lists.
use Rattle.std.proofs.Common.{ℕ, zero, suc, ◌+◌, ◌-◌, ◌≤◌, ◌<◌, max, arith, ◌≡◌, refl, sym, ap, subst, ◌∙◌, Bool, true, false, ◌&&◌, List, length, get_or, ltb, Option, Some, None, lt-ltb, le-ltb}
use Rattle.std.proofs.Math.Bool.{and-false}
use Rattle.avl_model.specs.Lists.{Lists}
use Rattle.avl_model.specs.Names.{Names}
use Rattle.avl_model.specs.Tree.{Tree, leaf, node, top, ht}
use Rattle.avl_model.specs.Laws.{size}
use Rattle.avl_model.specs.Seek.{tree_at}
use Rattle.avl_arena.specs.declared.Seen.{Seen}
use Rattle.avl_arena.specs.Test.{between, cell_ok, ok_tree}
use Rattle.avl_arena.specs.inner.Seeing.{Judged}

-- ---- the tree that the links hold, case by case

tree_at_zero : (d : ℕ) (L R : List ℕ) (i : ℕ) → d ≡ 0 → tree_at d L R i ≡ leaf
unfolding tree_at
tree_at_zero zero L R i e = refl
tree_at_zero (suc d) L R i e = absurd (omega arith)

tree_at_out : (d : ℕ) (L R : List ℕ) (i : ℕ) → length L ≤ i → tree_at d L R i ≡ leaf
unfolding tree_at
tree_at_out zero L R i h = refl
tree_at_out (suc d) L R i h = rw (le-ltb i (length L) h, tree_at)

tree_at-suc : (d : ℕ) (L R : List ℕ) (i : ℕ) → i < length L → tree_at (suc d) L R i ≡ node (tree_at d L R (get_or L i 0)) i (tree_at d L R (get_or R i 0))
unfolding tree_at
tree_at-suc d L R i h = rw (lt-ltb i (length L) h, tree_at)

tree_at-node : (d : ℕ) (L R : List ℕ) (i : ℕ) → (d ≡ 0 → ⊥) → i < length L → tree_at d L R i ≡ node (tree_at (d - 1) L R (get_or L i 0)) i (tree_at (d - 1) L R (get_or R i 0))
tree_at-node zero L R i ne h = absurd (ne refl)
tree_at-node (suc d) L R i ne h =
    subst (λ (f : ℕ). tree_at (suc d) L R i ≡ node (tree_at f L R (get_or L i 0)) i (tree_at f L R (get_or R i 0))) {x = d} {y = suc d - 1} (omega arith) (tree_at-suc d L R i h)

-- a tree of a depth is at most so high, and has at most so many nodes
abbrev cap : ℕ → ℕ
cap zero = 0
cap (suc d) = cap d + suc (cap d)

pub record Within (d : ℕ) (t : Tree) : Type 0 where
  pub high : ht t ≤ d
  pub few : size t ≤ cap d

pub tree_at_within : (d : ℕ) (L R : List ℕ) (i : ℕ) → Within d (tree_at d L R i)
unfolding tree_at
tree_at_within zero L R i = record { high = omega arith; few = omega arith }
tree_at_within (suc d) L R i = elim (ltb i (length L)) as (λ b. Within (suc d) (elim b [ true ↦ node (tree_at d L R (get_or L i 0)) i (tree_at d L R (get_or R i 0)) | false ↦ leaf ])) [
  | true ↦ let l = tree_at_within d L R (get_or L i 0) in let r = tree_at_within d L R (get_or R i 0) in
      record { high = omega (arith, l.high, r.high); few = omega (arith, l.few, r.few) }
  | false ↦ record { high = omega arith; few = omega arith }
]

cap_mono : (a b : ℕ) → cap a ≤ cap (a + b)
cap_mono a zero = subst (λ (v : ℕ). cap a ≤ cap v) {x = a} {y = a + 0} (omega arith) (omega arith)
cap_mono a (suc b) = subst (λ (v : ℕ). cap a ≤ cap v) {x = suc (a + b)} {y = a + suc b} (omega arith) (omega (arith, cap_mono a b))

cap_22 : (d : ℕ) → d ≤ 22 → cap d < 4194304
cap_22 d h = omega (arith, subst (λ (v : ℕ). cap d ≤ cap v) {x = d + (22 - d)} {y = 22} (omega arith) (cap_mono d (22 - d)))

-- ---- the ways out of `look`

-- what is seen where there is nothing to see
abbrev Blank : Seen → Type 0
Blank s = (s.top ≡ 65535) × (s.high ≡ 0) × (s.size ≡ 0)

module _ (S : Lists) (N : Names) (n lo hi up at d : ℕ) where
  abbrev t : Tree
  t = tree_at d S.L S.R at

  abbrev J : Option Seen → Tree → Type 0
  J s t = Judged s (ok_tree S N n lo hi up t) t

  pub seen_zero : {s : Seen} → d ≡ 0 → Blank s → J (Some s) t
  seen_zero {s} e b = subst (J (Some s)) (sym (tree_at_zero d S.L S.R at e)) (refl, b.0, b.1, b.2)

  pub seen_out : {s : Seen} → length S.L ≤ at → Blank s → J (Some s) t
  seen_out {s} h b = subst (J (Some s)) (sym (tree_at_out d S.L S.R at h)) (refl, b.0, b.1, b.2)

  module _ (ne : d ≡ 0 → ⊥) (h : at < length S.L) where
    abbrev tl : Tree
    tl = tree_at (d - 1) S.L S.R (get_or S.L at 0)

    abbrev tr : Tree
    tr = tree_at (d - 1) S.L S.R (get_or S.R at 0)

    abbrev okl : Bool
    okl = ok_tree S N n lo at at tl

    abbrev okr : Bool
    okr = ok_tree S N n at hi at tr

    abbrev cell : Bool
    cell = cell_ok S at up (top tl) (top tr) (ht tl) (ht tr)

    t_is : t ≡ node tl at tr
    t_is = tree_at-node d S.L S.R at ne h

    wrong : ok_tree S N n lo hi up (node tl at tr) ≡ false → J None t
    wrong e = subst (J None) (sym t_is) e

    pub not_between : {b : Bool} (m : ℕ) → m ≡ n → b ≡ between N m lo hi at → b ≡ false → J None t
    not_between {b} m em e f = wrong (ap (λ (b : Bool). b && (okl && (okr && cell))) (ap (λ (v : ℕ). between N v lo hi at) (sym em) ∙ sym e ∙ f))

    pub not_left : {q : Option Seen} → q ≡ None → okl ≡ false → J q t
    not_left {q} none_is e = subst (λ (q : Option Seen). J q t) (sym none_is) (wrong (ap (λ (b : Bool). between N n lo hi at && (b && (okr && cell))) e ∙ and-false (between N n lo hi at)))

    pub not_right : {q : Option Seen} → q ≡ None → okr ≡ false → J q t
    not_right {q} none_is e = subst (λ (q : Option Seen). J q t) (sym none_is) (wrong (ap (λ (b : Bool). between N n lo hi at && (okl && (b && cell))) e
        ∙ ap (λ (b : Bool). between N n lo hi at && b) (and-false okl) ∙ and-false (between N n lo hi at)))

    module _ {b : Bool} (m : ℕ) (em : m ≡ n) (e : b ≡ between N m lo hi at) (eb : b ≡ true) {l r : Seen} (jl : Judged (Some l) okl tl) (jr : Judged (Some r) okr tr)
        {c : Bool} (ec : c ≡ cell_ok S at up l.top r.top l.high r.high) where
      -- the test of the node is that of its cell
      ok_is : ok_tree S N n lo hi up (node tl at tr) ≡ c
      ok_is = (λ q. (ap (λ (v : ℕ). between N v lo hi at) (sym em) ∙ sym e ∙ eb) q && (jl.0 q && (jr.0 q && cell)))
          ∙ sym (ec ∙ (λ q. cell_ok S at up (jl.1 q) (jr.1 q) (jl.2 q) (jr.2 q)))

      pub not_cell : c ≡ false → J None t
      not_cell f = wrong (ok_is ∙ f)

      pub node_seen : {s : Seen} → c ≡ true → (s.top ≡ at) × (s.high ≡ max l.high r.high + 1) × (s.size ≡ l.size + r.size + 1) → J (Some s) t
      node_seen {s} f es = subst (J (Some s)) (sym t_is) (ok_is ∙ f, es.0, omega (arith, es.1, jl.2, jr.2), omega (arith, es.2, jl.3, jr.3))

-- what was found is small
pub high_small : {high few : ℕ} (d : ℕ) (L R : List ℕ) (at : ℕ) → high ≡ ht (tree_at d L R at) → few ≡ size (tree_at d L R at) → d ≤ 22 → (high ≤ 22) × (few < 4194304)
high_small d L R at eh ef h =
    let w = tree_at_within d L R at in
    (omega (arith, w.high), omega (arith, w.few, cap_22 d h))
