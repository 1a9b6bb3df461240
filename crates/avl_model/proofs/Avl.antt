-- Insertion keeps the balance and the order; how few nodes a height takes.
use Rattle.std.proofs.Common.{ℕ, zero, suc, ◌+◌, ◌≤◌, ◌<◌, max, arith, ◌≡◌, refl, sym, ap, subst, ◌∙◌, Bool, true, false, ◌⊎◌, inl, inr}
use Rattle.std.proofs.Math.Decide.{dec_le, ℕ_discrete}
use Rattle.avl_model.specs.Tree.{Tree, leaf, node, ht, δ, cnt, bal, ins, ins_by}
use Rattle.avl_model.specs.Laws.{Avl, All, Ordered, size, least}
use Rattle.avl_model.proofs.Bal.{bal_ind}
use Rattle.avl_model.proofs.Frame.{δ-same, δ-apart}

-- a tree that grew, and is more than one node, is higher on the side to which the new node went
abbrev pub Lean : (ℕ → Bool) → Tree → Type 0
Lean less leaf = Unit {0}
Lean less (node l i r) = 1 ≤ max (ht l) (ht r) → (less i ≡ true → ht r < ht l) × (less i ≡ false → ht l < ht r)

lean_ne : (b : Bool) (x y : ℕ) → (b ≡ true → y < x) × (b ≡ false → x < y) → x ≡ y → ⊥
lean_ne true x y f e = omega (arith, f.0 refl)
lean_ne false x y f e = omega (arith, f.1 refl)

pub two : {X : Type 0} (b : Bool) → b ≡ true → b ≡ false → X
two b e f = let z : ◌≡◌ {A = ℕ} 0 1 = cc in absurd (omega arith)

-- s is balanced, and as high as h or one more
pub record Grown (less : ℕ → Bool) (h : ℕ) (s : Tree) : Type 0 where
  pub avl : Avl s
  pub high : (ht s ≡ h) ⊎ ((ht s ≡ suc h) × Lean less s)

-- The heights at a double rotation, over plain numbers and with few facts in reach: `omega` takes at most six case splits, and each `max` makes one.
-- r is the low side; l, the high one, has x outside and y inside, and y has u and w.
record Five (h r x u w : ℕ) : Type 0 where
  x_is : x ≡ r
  h_is : h ≡ suc r
  u≤ : u ≤ r
  ≤u : r ≤ suc u
  w≤ : w ≤ r
  ≤w : r ≤ suc w

inner : (u w m : ℕ) → m ≡ max u w → u ≤ suc w → w ≤ suc u → (u ≤ m) × (m ≤ suc u) × (w ≤ m) × (m ≤ suc w)
inner u w m e p q = (omega arith, omega arith, omega arith, omega arith)

five : (h l r x y u w : ℕ) → l ≡ suc h → l ≡ suc (max x y) → y ≡ suc (max u w) → suc r < l → h ≤ suc r → x < y → y ≤ suc x → u ≤ suc w → w ≤ suc u → Five h r x u w
five h l r x y u w e1 e2 e3 tall near lt yx uw wu =
    let m : max x y ≡ y = omega (arith, lt) in
    outer (max u w) (omega (arith, e2, m, e1, tall, near)) (omega (arith, e2, m, e1, tall, near, yx, lt)) (omega (arith, e1, e2, m, e3, tall, near)) (inner u w (max u w) refl uw wu)
  where
    outer : (m : ℕ) → h ≡ suc r → x ≡ r → m ≡ r → (u ≤ m) × (m ≤ suc u) × (w ≤ m) × (m ≤ suc w) → Five h r x u w
    outer m hi xi mi f = record { x_is = xi; h_is = hi; u≤ = omega arith; ≤u = omega arith; w≤ = omega arith; ≤w = omega arith }

-- the three nodes that a double rotation makes are balanced, and as high as the old one
abbrev Near : ℕ → ℕ → Type 0
Near a b = (a ≤ suc b) × (b ≤ suc a)

made : (h r x u w : ℕ) → Five h r x u w → Near x u × (Near w r × (Near (suc (max x u)) (suc (max w r)) × (suc (max (suc (max x u)) (suc (max w r))) ≡ suc (max h r))))
made h r x u w f =
    let a : max x u ≡ r = omega (arith, f.x_is, f.u≤) in
    let b : max w r ≡ r = omega (arith, f.w≤) in
    ((omega arith, omega arith), ((omega arith, omega arith), (tops (max x u) (max w r) a b, ends (max x u) (max w r) a b f.h_is)))
  where
    tops : (p q : ℕ) → p ≡ r → q ≡ r → Near (suc p) (suc q)
    tops p q a b = (omega arith, omega arith)

    ends : (p q : ℕ) → p ≡ r → q ≡ r → h ≡ suc r → suc (max (suc p) (suc q)) ≡ suc (max h r)
    ends p q a b c = omega arith

-- the same on the other side
made_right : (h l z w u : ℕ) → Five h l z w u → Near l u × (Near w z × (Near (suc (max l u)) (suc (max w z)) × (suc (max (suc (max l u)) (suc (max w z))) ≡ suc (max l h))))
made_right h l z w u f =
    let a : max l u ≡ l = omega (arith, f.w≤) in
    let b : max w z ≡ l = omega (arith, f.x_is, f.u≤) in
    ((omega arith, omega arith), ((omega arith, omega arith), (tops (max l u) (max w z) a b, ends (max l u) (max w z) a b f.h_is)))
  where
    tops : (p q : ℕ) → p ≡ l → q ≡ l → Near (suc p) (suc q)
    tops p q a b = (omega arith, omega arith)

    ends : (p q : ℕ) → p ≡ l → q ≡ l → h ≡ suc l → suc (max (suc p) (suc q)) ≡ suc (max l h)
    ends p q a b c = omega arith

max_swap : (n a b : ℕ) → n ≡ suc (max a b) → n ≡ suc (max b a)
max_swap n a b e = omega arith

module _ (less : ℕ → Bool) (i h : ℕ) (l r : Tree) (al : Avl l) (ar : Avl r) where
  kept_left : ht l ≡ h → h ≤ suc (ht r) → ht r ≤ suc h → Grown less (suc (max h (ht r))) (bal l i r)
  kept_left e p q = bal_ind (Grown less (suc (max h (ht r)))) l i r
      (λ n m. record { avl = (n, m, al, ar); high = inl (omega arith) })
      (λ x b y f t. absurd (omega arith), λ y b z f t. absurd (omega arith))

  grew_left : less i ≡ true → ht l ≡ suc h → Lean less l → h ≤ suc (ht r) → ht r ≤ suc h → Grown less (suc (max h (ht r))) (bal l i r)
  grew_left di e g p q = bal_ind (Grown less (suc (max h (ht r)))) l i r
      (λ n m. record {
        avl = (n, m, al, ar);
        high = elim (dec_le (ht r) h) [
          | yes le ↦ inr (omega arith, λ a. (λ _. omega arith, λ f. two (less i) di f))
          | no gt ↦ inl (omega arith)
        ];
      }) (
        λ x b y f t.
            let k : ht l ≡ suc (max (ht x) (ht y)) = ap ht f in
            let v : Avl (node x b y) = subst Avl f al in
            let d : 1 ≤ max (ht x) (ht y) → (less b ≡ true → ht y < ht x) × (less b ≡ false → ht x < ht y) = subst (Lean less) f g in
            let ne : ht x ≡ ht y → ⊥ = lean_ne (less b) (ht x) (ht y) (d (omega arith)) in (
              λ s. record { avl = (omega (arith, v.0, v.1), omega (arith, v.0, v.1), v.2, (omega (arith, v.0, v.1), omega (arith, v.0, v.1), v.3, ar)); high = inl (omega (arith, v.0, v.1)) },
              λ u c w j s.
                  let k2 : ht y ≡ suc (max (ht u) (ht w)) = ap ht j in
                  let v2 : Avl (node u c w) = subst Avl j v.3 in
                  let m = made h (ht r) (ht x) (ht u) (ht w) (five h (ht l) (ht r) (ht x) (ht y) (ht u) (ht w) e k k2 t p s v.1 v2.0 v2.1) in
                  record { avl = (m.1.1.0.0, m.1.1.0.1, (m.0.0, m.0.1, v.2, v2.2), (m.1.0.0, m.1.0.1, v2.3, ar)); high = inl m.1.1.1 },
            ),
        λ y b z f t. absurd (omega arith),
      )

  kept_right : ht r ≡ h → h ≤ suc (ht l) → ht l ≤ suc h → Grown less (suc (max (ht l) h)) (bal l i r)
  kept_right e p q = bal_ind (Grown less (suc (max (ht l) h))) l i r
      (λ n m. record { avl = (n, m, al, ar); high = inl (omega arith) })
      (λ x b y f t. absurd (omega arith), λ y b z f t. absurd (omega arith))

  grew_right : less i ≡ false → ht r ≡ suc h → Lean less r → h ≤ suc (ht l) → ht l ≤ suc h → Grown less (suc (max (ht l) h)) (bal l i r)
  grew_right di e g p q = bal_ind (Grown less (suc (max (ht l) h))) l i r
      (λ n m. record {
        avl = (n, m, al, ar);
        high = elim (dec_le (ht l) h) [
          | yes le ↦ inr (omega arith, λ a. (λ f. two (less i) f di, λ _. omega arith))
          | no gt ↦ inl (omega arith)
        ];
      }) (
        λ x b y f t. absurd (omega arith),
        λ y b z f t.
            let k : ht r ≡ suc (max (ht y) (ht z)) = ap ht f in
            let v : Avl (node y b z) = subst Avl f ar in
            let d : 1 ≤ max (ht y) (ht z) → (less b ≡ true → ht z < ht y) × (less b ≡ false → ht y < ht z) = subst (Lean less) f g in
            let ne : ht y ≡ ht z → ⊥ = lean_ne (less b) (ht y) (ht z) (d (omega arith)) in (
              λ s. record { avl = (omega (arith, v.0, v.1), omega (arith, v.0, v.1), (omega (arith, v.0, v.1), omega (arith, v.0, v.1), al, v.2), v.3); high = inl (omega (arith, v.0, v.1)) },
              λ u c w j s.
                  let k2 : ht y ≡ suc (max (ht u) (ht w)) = ap ht j in
                  let v2 : Avl (node u c w) = subst Avl j v.2 in
                  let m = made_right h (ht l) (ht z) (ht w) (ht u) (five h (ht r) (ht l) (ht z) (ht y) (ht w) (ht u) e (max_swap (ht r) (ht y) (ht z) k) (max_swap (ht y) (ht u) (ht w) k2) t p s v.0 v2.1 v2.0) in
                  record { avl = (m.1.1.0.0, m.1.1.0.1, (m.0.0, m.0.1, al, v2.2), (m.1.0.0, m.1.0.1, v2.3, v.3)); high = inl m.1.1.1 },
            ),
      )

step_left : (less : ℕ → Bool) (i h : ℕ) (l r : Tree) → less i ≡ true → Grown less h l → Avl r → h ≤ suc (ht r) → ht r ≤ suc h → Grown less (suc (max h (ht r))) (bal l i r)
step_left less i h l r d g ar p q = go g.high
  where
    go : (ht l ≡ h) ⊎ ((ht l ≡ suc h) × Lean less l) → Grown less (suc (max h (ht r))) (bal l i r)
    go (inl e) = kept_left less i h l r g.avl ar e p q
    go (inr e) = grew_left less i h l r g.avl ar d e.0 e.1 p q

step_right : (less : ℕ → Bool) (i h : ℕ) (l r : Tree) → less i ≡ false → Avl l → Grown less h r → h ≤ suc (ht l) → ht l ≤ suc h → Grown less (suc (max (ht l) h)) (bal l i r)
step_right less i h l r d al g p q = go g.high
  where
    go : (ht r ≡ h) ⊎ ((ht r ≡ suc h) × Lean less r) → Grown less (suc (max (ht l) h)) (bal l i r)
    go (inl e) = kept_right less i h l r al g.avl e p q
    go (inr e) = grew_right less i h l r al g.avl d e.0 e.1 p q

pub ins_grown : (less : ℕ → Bool) (new : ℕ) (t : Tree) → Avl t → Grown less (ht t) (ins less new t)
ins_grown less new leaf a = record { avl = (omega arith, omega arith, tt, tt); high = inr (omega arith, λ p. absurd (omega arith)) }
ins_grown less new (node l i r) a = go (less i) refl (ins_grown less new l a.2) (ins_grown less new r a.3)
  where
    go : (b : Bool) → less i ≡ b → Grown less (ht l) (ins less new l) → Grown less (ht r) (ins less new r) → Grown less (suc (max (ht l) (ht r))) (ins_by b l (ins less new l) i r (ins less new r))
    go true e gl gr = step_left less i (ht l) (ins less new l) r e gl a.3 a.0 a.1
    go false e gl gr = step_right less i (ht r) l (ins less new r) e a.2 gr a.1 a.0

-- insertion keeps the balance
pub ins_avl : (less : ℕ → Bool) (new : ℕ) (t : Tree) → Avl t → Avl (ins less new t)
ins_avl less new t a = (ins_grown less new t a).avl

-- ---- order

module _ (P : ℕ → Type 0) where
  all_bal : (l : Tree) (i : ℕ) (r : Tree) → P i → All P l → All P r → All P (bal l i r)
  all_bal l i r p al ar = bal_ind (All P) l i r (λ n m. (p, al, ar)) (
    λ x b y e t. let a : All P (node x b y) = subst (All P) e al in
        (λ q. (a.0, a.1, (p, a.2, ar)), λ u c v f q. let d : All P (node u c v) = subst (All P) f a.2 in (d.0, (a.0, a.1, d.1), (p, d.2, ar))),
    λ y b z e t. let a : All P (node y b z) = subst (All P) e ar in
        (λ q. (a.0, (p, al, a.1), a.2), λ u c v f q. let d : All P (node u c v) = subst (All P) f a.1 in (d.0, (p, al, d.1), (a.0, d.2, a.2))),
  )

  pub all_ins : (less : ℕ → Bool) (new : ℕ) (t : Tree) → P new → All P t → All P (ins less new t)
  all_ins less new leaf p a = (p, tt, tt)
  all_ins less new (node l i r) p a = elim (less i) as (λ b. All P (ins_by b l (ins less new l) i r (ins less new r))) [
    | true ↦ all_bal (ins less new l) i r a.0 (all_ins less new l p a.1) a.2
    | false ↦ all_bal l i (ins less new r) a.0 a.1 (all_ins less new r p a.2)
  ]

pub all_map : (P Q : ℕ → Type 0) (t : Tree) → ((j : ℕ) → P j → Q j) → All P t → All Q t
all_map P Q leaf f a = tt
all_map P Q (node l i r) f a = (f i a.0, all_map P Q l f a.1, all_map P Q r f a.2)

module _ (lt : ℕ → ℕ → Type 0) (trans : (a b c : ℕ) → lt a b → lt b c → lt a c) where
  ordered_bal : (l : Tree) (i : ℕ) (r : Tree) → Ordered lt (node l i r) → Ordered lt (bal l i r)
  ordered_bal l i r o = bal_ind (Ordered lt) l i r (λ n m. o) (
    λ x b y e t.
        let a : All (λ j. lt j i) (node x b y) = subst (All (λ j. lt j i)) e o.0 in
        let w : Ordered lt (node x b y) = subst (Ordered lt) e o.2 in
        let above : All (λ j. lt b j) r = all_map (λ j. lt i j) (λ j. lt b j) r (λ j h. trans b i j a.0 h) o.1 in (
          λ q. (w.0, (a.0, w.1, above), w.2, (a.2, o.1, w.3, o.3)),
          λ u c v f q.
              let d : All (λ j. lt j i) (node u c v) = subst (All (λ j. lt j i)) f a.2 in
              let g : All (λ j. lt b j) (node u c v) = subst (All (λ j. lt b j)) f w.1 in
              let m : Ordered lt (node u c v) = subst (Ordered lt) f w.3 in (
                (g.0, all_map (λ j. lt j b) (λ j. lt j c) x (λ j h. trans j b c h g.0) w.0, m.0),
                (d.0, m.1, all_map (λ j. lt i j) (λ j. lt c j) r (λ j h. trans c i j d.0 h) o.1),
                (w.0, g.1, w.2, m.2),
                (d.2, o.1, m.3, o.3),
              ),
        ),
    λ y b z e t.
        let a : All (λ j. lt i j) (node y b z) = subst (All (λ j. lt i j)) e o.1 in
        let w : Ordered lt (node y b z) = subst (Ordered lt) e o.3 in
        let under : All (λ j. lt j b) l = all_map (λ j. lt j i) (λ j. lt j b) l (λ j h. trans j i b h a.0) o.0 in (
          λ q. ((a.0, under, w.0), w.1, (o.0, a.1, o.2, w.2), w.3),
          λ u c v f q.
              let d : All (λ j. lt i j) (node u c v) = subst (All (λ j. lt i j)) f a.1 in
              let g : All (λ j. lt j b) (node u c v) = subst (All (λ j. lt j b)) f w.0 in
              let m : Ordered lt (node u c v) = subst (Ordered lt) f w.2 in (
                (d.0, all_map (λ j. lt j i) (λ j. lt j c) l (λ j h. trans j i c h d.0) o.0, m.0),
                (g.0, m.1, all_map (λ j. lt b j) (λ j. lt c j) z (λ j h. trans c b j g.0 h) w.1),
                (o.0, d.1, o.2, m.2),
                (g.2, w.1, m.3, w.3),
              ),
        ),
  )

  -- insertion keeps the order, where `less` tells it of the new node
  pub ins_ordered : (less : ℕ → Bool) (new : ℕ) (t : Tree) → All (λ j. (less j ≡ true → lt new j) × (less j ≡ false → lt j new)) t → Ordered lt t → Ordered lt (ins less new t)
  ins_ordered less new leaf d o = (tt, tt, tt, tt)
  ins_ordered less new (node l i r) d o = go (less i) refl (ins_ordered less new l d.1 o.2) (ins_ordered less new r d.2 o.3)
    where
      go : (b : Bool) → less i ≡ b → Ordered lt (ins less new l) → Ordered lt (ins less new r) → Ordered lt (ins_by b l (ins less new l) i r (ins less new r))
      go true e ol or = ordered_bal (ins less new l) i r (all_ins (λ j. lt j i) less new l (d.0.0 e) o.0, o.1, ol, o.3)
      go false e ol or = ordered_bal l i (ins less new r) (o.0, all_ins (λ j. lt i j) less new r (d.0.1 e) o.1, o.2, or)

-- ---- how few nodes a height takes

least_step : (n : ℕ) → least n ≤ least (suc n)
unfolding least
least_step zero = omega arith
least_step (suc zero) = omega arith
least_step (suc (suc n)) = omega (arith, least_step (suc n), least_step n)

least_double : (a : ℕ) → least (suc a) ≤ suc (least a + least a)
unfolding least
least_double zero = omega arith
least_double (suc g) = omega (arith, least_step g)

least_more : (a : ℕ) → least (suc (suc a)) ≤ suc (least (suc a) + least a)
unfolding least
least_more a = omega arith

least_near : (a b m : ℕ) → m ≡ max a b → a ≤ suc b → b ≤ suc a → least (suc m) ≤ suc (least a + least b)
least_near a b m e p q = elim (dec_le a b) [
  | yes h ↦ elim (dec_le b a) [
    | yes k ↦ at a a (omega arith) (omega arith) (omega (arith, least_double a))
    | no k ↦ at (suc a) (suc a) (omega arith) (omega arith) (omega (arith, least_more a))
  ]
  | no h ↦ subst (λ (v : ℕ). least (suc m) ≤ suc (least v + least b)) {x = suc b} {y = a} (omega arith)
      (subst (λ (v : ℕ). least (suc v) ≤ suc (least (suc b) + least b)) {x = suc b} {y = m} (omega arith) (least_more b))
]
  where
    at : (u v : ℕ) → m ≡ u → b ≡ v → least (suc u) ≤ suc (least a + least v) → least (suc m) ≤ suc (least a + least b)
    at u v em eb h = subst (λ (w : ℕ). least (suc m) ≤ suc (least a + least w)) (sym eb) (subst (λ (w : ℕ). least (suc w) ≤ suc (least a + least v)) (sym em) h)

-- an AVL tree has at least so many nodes
pub avl_size : (t : Tree) → Avl t → least (ht t) ≤ size t
unfolding least
avl_size leaf a = omega arith
avl_size (node l i r) a = omega (arith, least_near (ht l) (ht r) (max (ht l) (ht r)) refl a.0 a.1, avl_size l a.2, avl_size r a.3)

-- the fewest entries at height 19 are 10,945, at 20 are 17,710
pub least_19 : least 19 ≡ 10945
unfolding least
least_19 = refl

pub least_20 : least 20 ≡ 17710
unfolding least
least_20 = refl

-- ---- no more nodes than indices

abbrev pub tally : ℕ → (ℕ → ℕ) → ℕ
tally zero f = 0
tally (suc n) f = f n + tally n f

tally_add : (n : ℕ) (f g : ℕ → ℕ) → tally n (λ j. f j + g j) ≡ tally n f + tally n g
tally_add zero f g = omega arith
tally_add (suc n) f g = omega (arith, tally_add n f g)

pub tally_le : (n : ℕ) (f : ℕ → ℕ) → ((j : ℕ) → f j ≤ 1) → tally n f ≤ n
tally_le zero f h = omega arith
tally_le (suc n) f h = omega (arith, h n, tally_le n f h)

tally_none : (n i : ℕ) → n ≤ i → tally n (δ i) ≡ 0
tally_none zero i h = refl
tally_none (suc n) i h = omega (arith, tally_none n i (omega arith), δ-apart i n (λ e. omega arith))

tally_one : (n i : ℕ) → i < n → tally n (δ i) ≡ 1
tally_one zero i h = absurd (omega arith)
tally_one (suc n) i h = elim (ℕ_discrete i n) [
  | yes e ↦ let d : δ i n ≡ 1 = subst (λ (v : ℕ). δ i v ≡ 1) e (δ-same i) in omega (arith, tally_none n i (omega arith))
  | no ne ↦ omega (arith, δ-apart i n ne, tally_one n i (omega arith))
]

tally_zero : (n : ℕ) → tally n (λ j. 0) ≡ 0
tally_zero zero = refl
tally_zero (suc n) = omega (arith, tally_zero n)

pub size-tally : (n : ℕ) (t : Tree) → All (λ j. j < n) t → tally n (λ j. cnt j t) ≡ size t
size-tally n leaf a = tally_zero n
size-tally n (node l i r) a = tally_add n (λ j. cnt j l) (λ j. δ i j + cnt j r) ∙ omega (arith, size-tally n l a.1, tally_add n (δ i) (λ j. cnt j r), tally_one n i a.0, size-tally n r a.2)

pub size_le : (n : ℕ) (t : Tree) → All (λ j. j < n) t → ((j : ℕ) → cnt j t ≤ 1) → size t ≤ n
size_le n t a o = omega (arith, size-tally n t a, tally_le n (λ j. cnt j t) o)

pub least_mono : (a b : ℕ) → a ≤ b → least a ≤ least b
least_mono a zero h = subst (λ (v : ℕ). least v ≤ least zero) {x = zero} {y = a} (omega arith) (omega arith)
least_mono a (suc b) h = elim (dec_le a b) [
  | yes k ↦ omega (arith, least_mono a b k, least_step b)
  | no k ↦ subst (λ (v : ℕ). least v ≤ least (suc b)) {x = suc b} {y = a} (omega arith) (omega arith)
]

-- of fewer nodes than a height takes no AVL tree is so high
pub few_low : (m n : ℕ) (t : Tree) → n < least (suc m) → All (λ j. j < n) t → ((j : ℕ) → cnt j t ≤ 1) → Avl t → ht t ≤ m
few_low m n t h a o v = elim (dec_le (ht t) m) [
  | yes k ↦ k
  | no k ↦ absurd (omega (arith, least_mono (suc m) (ht t) (omega arith), avl_size t v, size_le n t a o))
]

-- the fewest nodes at height 23 are 75,024
pub least_23 : least 23 ≡ 75024
unfolding least
least_23 = refl

-- a balanced tree of at most 16,384 nodes is at most 19 high
pub at_most_19 : (n : ℕ) (t : Tree) → n ≤ 16384 → All (λ j. j < n) t → ((j : ℕ) → cnt j t ≤ 1) → Avl t → ht t ≤ 19
at_most_19 n t h = few_low 19 n t (omega (arith, least_20))

-- a balanced tree of at most 65,535 nodes is at most 22 high
pub at_most_22 : (n : ℕ) (t : Tree) → n ≤ 65535 → All (λ j. j < n) t → ((j : ℕ) → cnt j t ≤ 1) → Avl t → ht t ≤ 22
at_most_22 n t h = few_low 22 n t (omega (arith, least_23))
