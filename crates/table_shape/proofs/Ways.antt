-- THE WAYS IN A TREE, along links of which none is 0 or 65,535: their links are those of the tree's entries; one that ends at an entry ends in the tree; and where no
-- offset is listed twice, there is only one to each entry. Assumes nothing.
use Prim.Native.Nat.{ℕ, zero, suc, ◌*◌, ◌<◌}
use mathlib.Core.Path.{◌≡◌, sym, ap, subst, ◌∙◌}
use mathlib.Core.Logic.{⊎_elim}
use mathlib.Core.List.Memᴰ
use mathlib.Core.List.{List, [], ◌∷◌, ◌++◌, Memᴰ}
use mathlib.Core.Option.{Option, some, none}
use native.Mathlib.Omega.{arith}
use lib.ListN.{length, get_or}
use Rattle.units.specs.Told.{Told, gives}
use Rattle.read_entry.specs.declared.Placed.{Placed}
use Rattle.lookup_way.specs.Along.{Along, Real}
use Rattle.lookup_way.proofs.Along.{one_read, First, ended, leftward, rightward, first_step, no_step}
use Rattle.lookup_way.proofs.Sets.{in_walk, real_head, real_tail}
use Rattle.table_shape.specs.Shape.{Shape, node, preorder, place_by, Hangs, nowhere, blank, entry}
use Rattle.table_shape.proofs.Trees.{EveryLink, Solid}
use Rattle.table_shape.proofs.Few.{Once}

-- none of a list's numbers is among those after it
abbrev Distinct : List ℕ → Type 0
Distinct [] = Unit {0}
Distinct (x ∷ xs) = (Memᴰ x xs → ⊥) × Distinct xs

mem_at : {x : ℕ} {xs : List ℕ} → Memᴰ x xs → (i : ℕ) × (i < length xs) × (get_or xs i 0 ≡ x)
mem_at (Memᴰ.head e) = (zero, omega arith, sym e)
mem_at (Memᴰ.tail m) = let p = mem_at m in (suc p.0, omega (arith, p.1), p.2)

pub distinct : (xs : List ℕ) → Once xs → Distinct xs
distinct [] once = tt
distinct (x ∷ xs) once = (
  (λ m. let p = mem_at m in let z : zero ≡ suc p.0 = once zero (suc p.0) (omega arith) (omega (arith, p.1)) (sym p.2) in omega arith),
  distinct xs (λ i j a b e. let z : suc i ≡ suc j = once (suc i) (suc j) (omega arith) (omega arith) e in omega arith),
)

distinct_left : (xs ys : List ℕ) → Distinct (xs ++ ys) → Distinct xs
distinct_left [] ys d = tt
distinct_left (x ∷ xs) ys d = ((λ m. d.0 (Memᴰ.append_left ys m)), distinct_left xs ys d.1)

distinct_right : (xs ys : List ℕ) → Distinct (xs ++ ys) → Distinct ys
distinct_right [] ys d = d
distinct_right (x ∷ xs) ys d = distinct_right xs ys d.1

distinct_apart : {x : ℕ} {xs : List ℕ} (ys : List ℕ) → Memᴰ x xs → Distinct (xs ++ ys) → Memᴰ x ys → ⊥
distinct_apart ys (Memᴰ.head {xs = xs} e) d m = d.0 (Memᴰ.append_right xs (Memᴰ.cast (sym e) m))
distinct_apart ys (Memᴰ.tail n) d m = distinct_apart ys n d.1 m

module _ (f : ℕ → Told (Option Placed)) where
  -- a way from a place
  abbrev pub WayFrom : Option ℕ → ℕ → List ℕ → Type 0
  WayFrom none p ks = ⊥
  WayFrom (some o) p ks = Along f o p ks

  from_link : (k p : ℕ) (ks : List ℕ) → Real (k ∷ ks) → Along f (4 * k) p ks → WayFrom (place_by k) p ks
  from_link k p ks u a = rw (in_walk k (real_head u).0 (real_head u).1) a

  -- from an entry: a way ends there, or goes on from the place of one of its links
  data Goes (o : ℕ) (x : Placed) (p : ℕ) (ks : List ℕ) : Type 0 where
    stays : o ≡ p → ks ≡ [] → Goes o x p ks
    into_left : (js : List ℕ) → WayFrom (place_by x.header.left.0) p js → Real js → ks ≡ x.header.left.0 ∷ js → Goes o x p ks
    into_right : (js : List ℕ) → WayFrom (place_by x.header.right.0) p js → Real js → ks ≡ x.header.right.0 ∷ js → Goes o x p ks

  goes : (o : ℕ) (x : Placed) (p : ℕ) (ks : List ℕ) → f o ≡ gives (some x) → Real ks → Along f o p ks → Goes o x p ks
  goes o x p ks e u a = by (first_step a)
    where
      by : First f o p ks → Goes o x p ks
      by (ended q n) = stays q n
      by (leftward z js q b n) =
          let same : z ≡ x = one_read q e in
          let m : ks ≡ x.header.left.0 ∷ js = n ∙ ap (λ (y : Placed). y.header.left.0 ∷ js) same in
          let v : Real (x.header.left.0 ∷ js) = subst Real m u in
          into_left js (from_link x.header.left.0 p js v (subst (λ (y : Placed). Along f (4 * y.header.left.0) p js) same b)) (real_tail v) m
      by (rightward z js q b n) =
          let same : z ≡ x = one_read q e in
          let m : ks ≡ x.header.right.0 ∷ js = n ∙ ap (λ (y : Placed). y.header.right.0 ∷ js) same in
          let v : Real (x.header.right.0 ∷ js) = subst Real m u in
          into_right js (from_link x.header.right.0 p js v (subst (λ (y : Placed). Along f (4 * y.header.right.0) p js) same b)) (real_tail v) m

  -- THE LINKS OF A WAY are links of the tree's entries
  links_node : (P : ℕ → Type 0) (o : ℕ) (x : Placed) (p : ℕ) (ks : List ℕ) → P x.header.left.0 × P x.header.right.0
      → ((js : List ℕ) → WayFrom (place_by x.header.left.0) p js → Real js → (k : ℕ) → Memᴰ k js → P k)
      → ((js : List ℕ) → WayFrom (place_by x.header.right.0) p js → Real js → (k : ℕ) → Memᴰ k js → P k)
      → Goes o x p ks → (k : ℕ) → Memᴰ k ks → P k
  links_node P o x p ks h a b (stays q n) k m = absurd (Memᴰ.not-nil (subst (Memᴰ k) n m))
  links_node P o x p ks h a b (into_left js v u n) k m =
      ⊎_elim (λ (e : k ≡ x.header.left.0). subst P (sym e) h.0) (λ (i : Memᴰ k js). a js v u k i) (Memᴰ.cases_cons (subst (Memᴰ k) n m))
  links_node P o x p ks h a b (into_right js v u n) k m =
      ⊎_elim (λ (e : k ≡ x.header.right.0). subst P (sym e) h.1) (λ (i : Memᴰ k js). b js v u k i) (Memᴰ.cases_cons (subst (Memᴰ k) n m))

  pub way_links : (P : ℕ → Type 0) {place : Option ℕ} {s : Shape} → Hangs f place s → EveryLink P s → (p : ℕ) (ks : List ℕ) → WayFrom place p ks → Real ks
      → (k : ℕ) → Memᴰ k ks → P k
  way_links P nowhere h p ks v u k m = absurd v
  way_links P (blank e) h p ks v u k m = absurd (Memᴰ.not-nil (subst (Memᴰ k) (no_step e v).1 m))
  way_links P (entry {o = o} {x = x} e a b) h p ks v u k m =
      links_node P o x p ks h.0 (way_links P a h.1 p) (way_links P b h.2 p) (goes o x p ks e u v) k m

  -- A WAY ENDS AT AN ENTRY where no link leads to a blank header
  ends_node : (o : ℕ) (x : Placed) (p : ℕ) (ks : List ℕ) → f o ≡ gives (some x)
      → ((js : List ℕ) → WayFrom (place_by x.header.left.0) p js → Real js → (y : Placed) × (f p ≡ gives (some y)))
      → ((js : List ℕ) → WayFrom (place_by x.header.right.0) p js → Real js → (y : Placed) × (f p ≡ gives (some y)))
      → Goes o x p ks → (y : Placed) × (f p ≡ gives (some y))
  ends_node o x p ks e a b (stays q n) = (x, ap f (sym q) ∙ e)
  ends_node o x p ks e a b (into_left js v u n) = a js v u
  ends_node o x p ks e a b (into_right js v u n) = b js v u

  pub solid_ends : {place : Option ℕ} {s : Shape} (h : Hangs f place s) → Solid f h → (p : ℕ) (ks : List ℕ) → WayFrom place p ks → Real ks → (y : Placed) × (f p ≡ gives (some y))
  solid_ends nowhere g p ks v u = absurd v
  solid_ends (blank e) g p ks v u = absurd g
  solid_ends (entry {o = o} {x = x} e a b) g p ks v u = ends_node o x p ks e (solid_ends a g.0 p) (solid_ends b g.1 p) (goes o x p ks e u v)

  module _ (p : ℕ) (y : Placed) (read : f p ≡ gives (some y)) where
    -- A WAY THAT ENDS AT AN ENTRY ENDS IN THE TREE
    inside_node : (l : Shape) (o : ℕ) (x : Placed) (r : Shape) (ks : List ℕ) → ((js : List ℕ) → WayFrom (place_by x.header.left.0) p js → Real js → Memᴰ p (preorder l))
        → ((js : List ℕ) → WayFrom (place_by x.header.right.0) p js → Real js → Memᴰ p (preorder r)) → Goes o x p ks → Memᴰ p (preorder (node l o x r))
    unfolding preorder
    inside_node l o x r ks a b (stays q n) = Memᴰ.head (sym q)
    inside_node l o x r ks a b (into_left js v u n) = Memᴰ.tail (Memᴰ.append_left (preorder r) (a js v u))
    inside_node l o x r ks a b (into_right js v u n) = Memᴰ.tail (Memᴰ.append_right (preorder l) (b js v u))

    pub inside : {place : Option ℕ} {s : Shape} → Hangs f place s → (ks : List ℕ) → WayFrom place p ks → Real ks → Memᴰ p (preorder s)
    inside nowhere ks v u = absurd v
    inside (blank {o = o} e) ks v u =
        let q : o ≡ p = (no_step e v).0 in
        let z : ◌≡◌ {A = Told (Option Placed)} (gives none) (gives (some y)) = sym e ∙ ap f q ∙ read in
        let n : ◌≡◌ {A = ℕ} 0 1 = cc in
        absurd (omega arith)
    inside (entry {o = o} {x = x} {l = l} {r = r} e a b) ks v u = inside_node l o x r ks (inside a) (inside b) (goes o x p ks e u v)

    -- THERE IS ONE WAY: the entry is itself, or in the left tree, or in the right one, and in no two of them
    module _ (l : Shape) (o : ℕ) (x : Placed) (r : Shape) (d : Distinct (preorder (node l o x r))) (a : Hangs f (place_by x.header.left.0) l) (b : Hangs f (place_by x.header.right.0) r) where
      not_left : (js : List ℕ) → o ≡ p → WayFrom (place_by x.header.left.0) p js → Real js → ⊥
      unfolding preorder
      not_left js q v u = d.0 (Memᴰ.append_left (preorder r) (Memᴰ.cast q (inside a js v u)))

      not_right : (js : List ℕ) → o ≡ p → WayFrom (place_by x.header.right.0) p js → Real js → ⊥
      unfolding preorder
      not_right js q v u = d.0 (Memᴰ.append_right (preorder l) (Memᴰ.cast q (inside b js v u)))

      not_both : (js ks : List ℕ) → WayFrom (place_by x.header.left.0) p js → Real js → WayFrom (place_by x.header.right.0) p ks → Real ks → ⊥
      unfolding preorder
      not_both js ks v u z w = distinct_apart (preorder r) (inside a js v u) d.1 (inside b ks z w)

      abbrev Single : Option ℕ → Type 0
      Single place = (ks ls : List ℕ) → WayFrom place p ks → Real ks → WayFrom place p ls → Real ls → ks ≡ ls

      single_node : Single (place_by x.header.left.0) → Single (place_by x.header.right.0) → (ks ls : List ℕ) → Goes o x p ks → Goes o x p ls → ks ≡ ls
      single_node h i ks ls (stays q m) (stays t n) = m ∙ sym n
      single_node h i ks ls (stays q m) (into_left js v u n) = absurd (not_left js q v u)
      single_node h i ks ls (stays q m) (into_right js v u n) = absurd (not_right js q v u)
      single_node h i ks ls (into_left js v u m) (stays q n) = absurd (not_left js q v u)
      single_node h i ks ls (into_left js v u m) (into_left is z w n) = m ∙ ap (λ (ms : List ℕ). x.header.left.0 ∷ ms) (h js is v u z w) ∙ sym n
      single_node h i ks ls (into_left js v u m) (into_right is z w n) = absurd (not_both js is v u z w)
      single_node h i ks ls (into_right js v u m) (stays q n) = absurd (not_right js q v u)
      single_node h i ks ls (into_right js v u m) (into_left is z w n) = absurd (not_both is js z w v u)
      single_node h i ks ls (into_right js v u m) (into_right is z w n) = m ∙ ap (λ (ms : List ℕ). x.header.right.0 ∷ ms) (i js is v u z w) ∙ sym n

    pub single : {place : Option ℕ} {s : Shape} → Hangs f place s → Distinct (preorder s) → (ks ls : List ℕ) → WayFrom place p ks → Real ks → WayFrom place p ls → Real ls → ks ≡ ls
    unfolding preorder
    single nowhere d ks ls v u z w = absurd v
    single (blank e) d ks ls v u z w = (no_step e v).1 ∙ sym (no_step e z).1
    single (entry {o = o} {x = x} {l = l} {r = r} e a b) d ks ls v u z w =
        single_node l o x r d a b (single a (distinct_left (preorder l) (preorder r) d.1)) (single b (distinct_right (preorder l) (preorder r) d.1))
        ks ls (goes o x p ks e u v) (goes o x p ls e w z)
