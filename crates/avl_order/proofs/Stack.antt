-- The stack of preorder, as the trees whose roots stand on it, and what a turn of the loop makes of them.
use Rattle.std.proofs.Common.{ℕ, suc, ◌+◌, ◌-◌, ◌≤◌, ◌<◌, arith, ◌≡◌, refl, sym, ap, subst, ◌∙◌, List, [], ◌∷◌, ◌++◌, append_assoc, append-nil, length, get_or, set, drop, length-append, length-drop, length-set, get_or-set_same, get_or-set_other, drop-cons, eq-eqb, ne_eqb}
use Rattle.std.proofs.Math.Decide.{ℕ_discrete, dec_lt}
use Rattle.std.proofs.Math.Seq.{set_at}
use Rattle.avl_model.specs.Tree.{Tree, leaf, node, none, top, ht}
use Rattle.avl_model.specs.Laws.{size}
use Rattle.avl_model.specs.inner.Seek.{Links}
use Rattle.avl_model.specs.Order.{order}
use Rattle.avl_model.specs.inner.Order.{Listed}
use Rattle.avl_model.proofs.Order.{order-length}
use Rattle.avl_order.specs.inner.Held.{held_if, held_by}

pub held_none : (x : ℕ) → x ≡ none → held_by x ≡ 0
unfolding held_by
held_none x e = ap held_if (eq-eqb x none e)

pub held_one : (x : ℕ) → (x ≡ none → ⊥) → held_by x ≡ 1
unfolding held_by
held_one x ne = ap held_if (ne_eqb x none ne)

pub held_le : (x : ℕ) → held_by x ≤ 1
held_le x = elim (ℕ_discrete x none) [ yes e ↦ omega (arith, held_none x e) | no ne ↦ omega (arith, held_one x ne) ]

-- the next number, stored after those that are in the list
put_next : (out l : List ℕ) (i n : ℕ) → n ≡ length out → n < length l → set (out ++ drop n l) n i ≡ (out ++ (i ∷ [])) ++ drop (n + 1) l
put_next out l i n e h =
    ap (λ (v : List ℕ). set (out ++ v) n i) (drop-cons l n 0 h) ∙ set_at out (get_or l n 0) (drop (suc n) l) i n (sym e)
    ∙ ap (λ (v : ℕ). out ++ i ∷ drop v l) {x = suc n} {y = n + 1} (omega arith) ∙ sym (append_assoc out (i ∷ []) (drop (n + 1) l))

-- the numbers that are still to be listed, of the trees on the stack, the top one first
abbrev pub rest : List Tree → List ℕ
rest [] = []
rest (t ∷ ts) = order t ++ rest ts

module _ (L R : List ℕ) where
  -- the root of each tree stands in the stack, none is empty, and the more lie below a tree the lower it is
  abbrev pub Stands : List ℕ → List Tree → Type 0
  Stands s [] = Unit {0}
  Stands s (t ∷ ts) = (get_or s (length ts) 0 ≡ top t) × Links L R (length L) t × (1 ≤ ht t) × (ht t + length ts ≤ 22) × Stands s ts

  -- a store above them changes none
  stands_above : (s : List ℕ) (ts : List Tree) (k x : ℕ) → length ts ≤ k → Stands s ts → Stands (set s k x) ts
  stands_above s [] k x h c = tt
  stands_above s (t ∷ ts) k x h c =
      (get_or-set_other s k (length ts) x 0 (λ e. omega arith) ∙ c.0, c.1, c.2, c.3, stands_above s ts k x (omega arith) c.4)

  -- what storing the root of t above the trees ts makes of them
  record Pushed (s : List ℕ) (ts : List Tree) (t : Tree) (x : ℕ) : Type 0 where
    us : List Tree
    on : Stands (set s (length ts) x) us
    many : length us ≡ length ts + held_by x
    todo : rest us ≡ order t ++ rest ts

  push : (s : List ℕ) (ts : List Tree) (t : Tree) (x : ℕ) → length L ≤ none → length s ≡ 23 → Stands s ts → x ≡ top t → Links L R (length L) t → ht t + length ts ≤ 22 → Pushed s ts t x
  push s ts leaf x small long c e k h = record {
    us = ts;
    on = stands_above s ts (length ts) x (omega arith) c;
    many = omega (arith, held_none x e);
    todo = refl;
  }
  push s ts (node l i r) x small long c e k h = record {
    us = node l i r ∷ ts;
    on = (get_or-set_same s (length ts) x 0 (omega arith) ∙ e, k, omega arith, h, stands_above s ts (length ts) x (omega arith) c);
    many = omega (arith, held_one x (λ n. omega (arith, k.0.fits)));
    todo = refl;
  }

  -- the list so far: the first numbers of the tree's preorder, and what was there; the rest of the preorder is on the stack
  pub record Going (t : Tree) (l₀ s : List ℕ) (held done : ℕ) (l : List ℕ) : Type 0 where
    pub ts : List Tree
    pub out : List ℕ
    pub on : Stands s ts
    pub held_is : held ≡ length ts
    pub list_is : l ≡ out ++ drop done l₀
    pub done_is : done ≡ length out
    pub whole : out ++ rest ts ≡ order t

  -- before the first turn
  pub start : (l₀ s : List ℕ) (root : ℕ) → length s ≡ 23 → (w : Listed L R root (length l₀)) → Going w.t l₀ (set s 0 root) (held_by root) 0 l₀
  start l₀ s root long w =
      let p = push s [] w.t root w.small long tt w.root_is w.links (omega (arith, w.low)) in
      record {
        ts = p.us;
        out = [];
        on = p.on;
        held_is = omega (arith, p.many);
        list_is = refl;
        done_is = refl;
        whole = p.todo ∙ append-nil (order w.t);
      }

  -- what the code's numbers are while a tree is on the stack
  pub record Bounds (s : List ℕ) (held done : ℕ) (l : List ℕ) : Type 0 where
    pub low : held ≤ 22
    pub fits : get_or s (held - 1) 0 < length L
    pub room : done < length l

module _ {L R : List ℕ} {root : ℕ} {l₀ s l : List ℕ} {held done : ℕ} (w : Listed L R root (length l₀)) (g : Going L R w.t l₀ s held done l) where
  listed : size w.t ≡ length g.out + length (rest g.ts)
  listed = sym (order-length w.t) ∙ ap length (sym g.whole) ∙ length-append g.out (rest g.ts)

  long_as : length l ≡ length l₀
  long_as = ap length g.list_is ∙ simp (length-append, length-drop) (omega (arith, listed, g.done_is, w.room))

  pub bounds : 0 < held → Bounds L R s held done l
  bounds h = go g.ts g.on g.held_is listed
    where
      go : (ts : List Tree) → Stands L R s ts → held ≡ length ts → size w.t ≡ length g.out + length (rest ts) → Bounds L R s held done l
      go [] c e k = absurd (omega arith)
      go (leaf ∷ ts) c e k = absurd (omega (arith, c.2))
      go (node a i b ∷ ts) c e k =
          let at : get_or s (held - 1) 0 ≡ i = subst (λ (v : ℕ). get_or s v 0 ≡ i) {x = length ts} {y = held - 1} (omega arith) c.0 in
          record {
            low = omega (arith, c.3);
            fits = omega (arith, c.1.0.fits);
            room = omega (arith, long_as, g.done_is, w.room);
          }

  pub finished : held ≤ 0 → l ≡ order w.t ++ drop (size w.t) l₀
  finished h = go g.ts g.held_is g.whole
    where
      go : (ts : List Tree) → held ≡ length ts → g.out ++ rest ts ≡ order w.t → l ≡ order w.t ++ drop (size w.t) l₀
      go [] e k =
          let o : g.out ≡ order w.t = sym (append-nil g.out) ∙ k in
          let d : done ≡ size w.t = g.done_is ∙ ap length o ∙ order-length w.t in
          g.list_is ∙ (λ q. o q ++ drop (d q) l₀)
      go (t ∷ ts) e k = absurd (omega arith)

  -- where the list has no more places nothing is on the stack
  pub all_done : length l ≤ done → l ≡ order w.t ++ drop (size w.t) l₀
  all_done h = elim (dec_lt 0 held) [ yes p ↦ absurd (omega (arith, (bounds p).room)) | no q ↦ finished (omega arith) ]

  -- a turn: the tree on top gives its root to the list, and its subtrees, where they are not empty, to the stack
  module _ (pos : 0 < held) (long : length s ≡ 23) (at m n : ℕ) (eat : at ≡ get_or s (held - 1) 0) (em : m ≡ held_by (get_or R at 0)) (en : n ≡ held_by (get_or L at 0)) where
    abbrev Next : Type 0
    Next = Going L R w.t l₀ (set (set s (held - 1) (get_or R at 0)) (held - 1 + m) (get_or L at 0)) (held - 1 + m + n) (done + 1) (set l done (get_or s (held - 1) 0))

    next_of : (a b : Tree) (ts : List Tree) → held ≡ suc (length ts) → g.out ++ ((at ∷ (order a ++ order b)) ++ rest ts) ≡ order w.t →
        (p : Pushed L R s ts b (get_or R at 0)) → Pushed L R (set s (length ts) (get_or R at 0)) p.us a (get_or L at 0) → Next
    next_of a b ts e k p q =
        let up : length p.us ≡ held - 1 + m = omega (arith, p.many) in
        record {
          ts = q.us;
          out = g.out ++ (get_or s (held - 1) 0 ∷ []);
          on = subst (λ (v : ℕ). Stands L R (set (set s v (get_or R at 0)) (held - 1 + m) (get_or L at 0)) q.us) {x = length ts} {y = held - 1} (omega arith)
              (subst (λ (v : ℕ). Stands L R (set (set s (length ts) (get_or R at 0)) v (get_or L at 0)) q.us) up q.on);
          held_is = omega (arith, q.many);
          list_is = ap (λ (v : List ℕ). set v done (get_or s (held - 1) 0)) g.list_is ∙ put_next g.out l₀ (get_or s (held - 1) 0) done g.done_is (omega (arith, (bounds pos).room, long_as));
          done_is = simp length-append (omega (arith, g.done_is));
          whole = append_assoc g.out (get_or s (held - 1) 0 ∷ []) (rest q.us)
              ∙ (λ z. g.out ++ sym eat z ∷ (q.todo ∙ ap (λ (v : List ℕ). order a ++ v) p.todo ∙ sym (append_assoc (order a) (order b) (rest ts))) z)
              ∙ k;
        }

    pub again : Next
    again = go g.ts g.on g.held_is g.whole
      where
        go : (ts : List Tree) → Stands L R s ts → held ≡ length ts → g.out ++ rest ts ≡ order w.t → Next
        go [] c e k = absurd (omega arith)
        go (leaf ∷ ts) c e k = absurd (omega (arith, c.2))
        go (node a i b ∷ ts) c e k =
            let is : at ≡ i = eat ∙ ap (λ (v : ℕ). get_or s v 0) {x = held - 1} {y = length ts} (omega arith) ∙ c.0 in
            let p : Pushed L R s ts b (get_or R at 0) = push L R s ts b (get_or R at 0) w.small long c.4 (ap (λ (v : ℕ). get_or R v 0) is ∙ c.1.0.right) c.1.2 (omega (arith, c.3)) in
            next_of a b ts e (ap (λ (v : ℕ). g.out ++ ((v ∷ (order a ++ order b)) ++ rest ts)) is ∙ k) p
            (push L R (set s (length ts) (get_or R at 0)) p.us a (get_or L at 0) w.small (length-set s (length ts) (get_or R at 0) ∙ long) p.on
            (ap (λ (v : ℕ). get_or L v 0) is ∙ c.1.0.left) c.1.1 (omega (arith, c.3, p.many, held_le (get_or R at 0))))
