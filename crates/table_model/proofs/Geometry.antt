-- Entries stand inside the reported size, cross no sector line and do not overlap; nor do their sectors. Assumes nothing.
use Rattle.std.proofs.Common.{ℕ, ◌+◌, ◌-◌, ◌*◌, ◌/◌, ◌%◌, ◌≤◌, ◌≡◌, refl, sym, ap, ap₂, ◌∙◌, ◌⊎◌, inl, inr, List, [], ◌∷◌, ◌++◌, map, arith, length, length-append}
use mathlib.Core.List.{map-append, Memᴰ}
use mathlib.Core.List.Memᴰ
use Rattle.avl_model.specs.Tree.{Tree, leaf, node}
use Rattle.avl_model.specs.Laws.{All, size}
use Rattle.avl_model.specs.Order.{order}
use Rattle.table_model.specs.Entry.{Entry, Item}
use Rattle.table_model.specs.Place.{stop_of, end_of, free_after, free_of, link_to, items}
use Rattle.table_model.specs.Table.{stop, size_of}
use Rattle.table_model.specs.Said.{AllIn, Stands, Apart, last_sector, SectorsApart}
use Rattle.table_model.specs.inner.Writing.{Spaced}
use Rattle.table_model.proofs.Places.{FitsAt, start_at, stop_four, end_after, end_four, free_next, free_after_lem}
use Rattle.table_model.proofs.Bytes.{end_size}

-- what is said of every item, of lists of them
pub all_map : (P Q : Item → Type 0) (xs : List Item) → ((x : Item) → P x → Q x) → AllIn P xs → AllIn Q xs
all_map P Q [] f a = tt
all_map P Q (x ∷ xs) f a = (f x a.0, all_map P Q xs f a.1)

pub all_both : (P Q R : Item → Type 0) (xs : List Item) → ((x : Item) → P x → Q x → R x) → AllIn P xs → AllIn Q xs → AllIn R xs
all_both P Q R [] f a b = tt
all_both P Q R (x ∷ xs) f a b = (f x a.0 b.0, all_both P Q R xs f a.1 b.1)

pub all_append : (P : Item → Type 0) (xs ys : List Item) → AllIn P xs → AllIn P ys → AllIn P (xs ++ ys)
all_append P [] ys a b = b
all_append P (x ∷ xs) ys a b = (a.0, all_append P xs ys a.1 b)

pub all_left : (P : Item → Type 0) (xs ys : List Item) → AllIn P (xs ++ ys) → AllIn P xs
all_left P [] ys a = tt
all_left P (x ∷ xs) ys a = (a.0, all_left P xs ys a.1)

pub all_right : (P : Item → Type 0) (xs ys : List Item) → AllIn P (xs ++ ys) → AllIn P ys
all_right P [] ys a = a
all_right P (x ∷ xs) ys a = all_right P xs ys a.1

-- what is said of every item is said of one of them
pub of_item : (P : Item → Type 0) (xs : List Item) (y : Item) → AllIn P xs → Memᴰ y xs → P y
of_item P [] y a m = absurd (Memᴰ.not-nil m)
of_item P (x ∷ xs) y a m = go (Memᴰ.cases_cons m) (λ k. of_item P xs y a.1 k)
  where
    go : (y ≡ x) ⊎ Memᴰ y xs → (Memᴰ y xs → P y) → P y
    go (inl e) ih = rw e a.0
    go (inr k) ih = ih k

-- no two of one list overlap, nor of another, and the first list is before the second: no two of both overlap. `from` and `to` say where an item starts
-- and ends, by its bytes or by its sectors
abbrev AllApart : (Item → ℕ) → (Item → ℕ) → List Item → Type 0
AllApart from to [] = Unit {0}
AllApart from to (x ∷ xs) = AllIn (λ y. to x ≤ from y) xs × AllApart from to xs

apart_append : (from to : Item → ℕ) (m : ℕ) (xs ys : List Item) → AllApart from to xs → AllApart from to ys
    → AllIn (λ x. to x ≤ m) xs → AllIn (λ y. m ≤ from y) ys → AllApart from to (xs ++ ys)
apart_append from to m [] ys a b p q = b
apart_append from to m (x ∷ xs) ys a b p q =
    let h = p.0 in
    (all_append _ xs ys a.0 (all_map _ _ ys (λ y k. omega arith) q), apart_append from to m xs ys a.1 b p.1 q)

by_bytes : (xs : List Item) → AllApart (λ x. x.offset) stop xs → Apart xs
by_bytes [] a = tt
by_bytes (x ∷ xs) a = (a.0, by_bytes xs a.1)

by_sectors : (xs : List Item) → AllApart (λ x. x.sector) last_sector xs → SectorsApart xs
by_sectors [] a = tt
by_sectors (x ∷ xs) a = (a.0, by_sectors xs a.1)

pub wider : (a b c d : ℕ) → c ≤ a → b ≤ d → (x : Item) → Stands a b x → Stands c d x
wider a b c d p q x s = record { from = omega (arith, s.from); to = omega (arith, s.to); whole = s.whole; four = s.four }

module _ (entry : ℕ → Entry) (align : ℕ) where
  -- each stands between where the tree's entries start and where they end
  pub items_stand : (t : Tree) (e s : ℕ) → All (FitsAt entry) t → e % 4 ≡ 0 → AllIn (Stands e (end_of entry e t)) (items entry align e s t)
  unfolding end_of items
  items_stand leaf e s f h = tt
  items_stand (node l i r) e s f h =
      let e₁ : ℕ = stop_of entry e i in
      let s₁ : ℕ = free_after entry align s i in
      let e₂ : ℕ = end_of entry e₁ l in
      let s₂ : ℕ = free_of entry align s₁ l in
      let at = start_at entry e i f.0 in
      let h₁ = stop_four entry e i f.0 h in
      let h₂ = end_four entry l e₁ f.1 h₁ in
      let p = end_after entry l e₁ f.1 in
      let q = end_after entry r e₂ f.2 in (
        record { from = at.after; to = omega arith; whole = omega (arith, at.within); four = at.four h },
        all_append _ (items entry align e₁ s₁ l) (items entry align e₂ s₂ r)
            (all_map _ _ (items entry align e₁ s₁ l) (wider e₁ e₂ e (end_of entry e₂ r) (omega (arith, at.after)) q) (items_stand l e₁ s₁ f.1 h₁))
            (all_map _ _ (items entry align e₂ s₂ r) (wider e₂ (end_of entry e₂ r) e (end_of entry e₂ r) (omega (arith, at.after)) (omega arith)) (items_stand r e₂ s₂ f.2 h₂)),
      )

  items_apart : (t : Tree) (e s : ℕ) → All (FitsAt entry) t → e % 4 ≡ 0 → AllApart (λ x. x.offset) stop (items entry align e s t)
  unfolding items
  items_apart leaf e s f h = tt
  items_apart (node l i r) e s f h =
      let e₁ : ℕ = stop_of entry e i in
      let s₁ : ℕ = free_after entry align s i in
      let e₂ : ℕ = end_of entry e₁ l in
      let s₂ : ℕ = free_of entry align s₁ l in
      let h₁ = stop_four entry e i f.0 h in
      let h₂ = end_four entry l e₁ f.1 h₁ in
      let p = end_after entry l e₁ f.1 in
      let a = items_stand l e₁ s₁ f.1 h₁ in
      let b = items_stand r e₂ s₂ f.2 h₂ in (
        all_append _ (items entry align e₁ s₁ l) (items entry align e₂ s₂ r)
            (all_map _ _ (items entry align e₁ s₁ l) (λ y k. k.from) a)
            (all_map _ _ (items entry align e₂ s₂ r) (λ y k. omega (arith, k.from)) b),
        apart_append _ _ e₂ (items entry align e₁ s₁ l) (items entry align e₂ s₂ r) (items_apart l e₁ s₁ f.1 h₁) (items_apart r e₂ s₂ f.2 h₂)
            (all_map _ _ (items entry align e₁ s₁ l) (λ y k. k.to) a) (all_map _ _ (items entry align e₂ s₂ r) (λ y k. k.from) b),
      )

  -- ENTRIES ARE INSIDE THE REPORTED SIZE, WHOLE IN A SECTOR, AT MULTIPLES OF 4
  pub inside : (t : Tree) (s : ℕ) → All (FitsAt entry) t → AllIn (Stands 0 (size_of entry t)) (items entry align 0 s t)
  inside t s f =
      all_map _ _ (items entry align 0 s t) (wider 0 (end_of entry 0 t) 0 (size_of entry t) (omega arith) (end_size entry t)) (items_stand t 0 s f refl)

  -- AND APART
  pub apart : (t : Tree) (s : ℕ) → All (FitsAt entry) t → Apart (items entry align 0 s t)
  apart t s f = by_bytes (items entry align 0 s t) (items_apart t 0 s f refl)

  -- what a writing loop asks of them, in a buffer of n bytes
  spaced_append : (n m : ℕ) (xs ys : List Item) (e : ℕ) → Spaced e n xs → AllIn (λ x. stop x ≤ m) xs → e ≤ m → ((k : ℕ) → k ≤ m → Spaced k n ys) → Spaced e n (xs ++ ys)
  spaced_append n m [] ys e a p h g = g e h
  spaced_append n m (x ∷ xs) ys e a p h g = (a.0, a.1, spaced_append n m xs ys (stop x) a.2 p.1 p.0 g)

  earlier : (n : ℕ) (xs : List Item) (e k : ℕ) → k ≤ e → Spaced e n xs → Spaced k n xs
  earlier n [] e k h a = tt
  earlier n (x ∷ xs) e k h a = (omega (arith, a.0), a.1, a.2)

  pub items_spaced : (t : Tree) (e s n : ℕ) → All (FitsAt entry) t → e % 4 ≡ 0 → end_of entry e t ≤ n → Spaced e n (items entry align e s t)
  unfolding items end_of
  items_spaced leaf e s n f h k = tt
  items_spaced (node l i r) e s n f h k =
      let e₁ : ℕ = stop_of entry e i in
      let s₁ : ℕ = free_after entry align s i in
      let e₂ : ℕ = end_of entry e₁ l in
      let s₂ : ℕ = free_of entry align s₁ l in
      let at = (start_at entry e i f.0).after in
      let h₁ = stop_four entry e i f.0 h in
      let h₂ = end_four entry l e₁ f.1 h₁ in
      let p = end_after entry l e₁ f.1 in
      let q = end_after entry r e₂ f.2 in (
        at,
        omega arith,
        spaced_append n e₂ (items entry align e₁ s₁ l) (items entry align e₂ s₂ r) e₁ (items_spaced l e₁ s₁ n f.1 h₁ (omega arith))
            (all_map _ _ (items entry align e₁ s₁ l) (λ y z. z.to) (items_stand l e₁ s₁ f.1 h₁)) p
            (λ m z. earlier n (items entry align e₂ s₂ r) e₂ m z (items_spaced r e₂ s₂ n f.2 h₂ k)),
      )

  -- LINKS: the link to a tree is the offset over 4 of its first item, or 0 where it has none
  abbrev pub link_of : List Item → ℕ
  link_of [] = 0
  link_of (x ∷ xs) = x.offset / 4

  pub link_first : (t : Tree) (e s : ℕ) → link_to entry e t ≡ link_of (items entry align e s t)
  unfolding items
  link_first leaf e s = refl
  link_first (node l i r) e s = refl

  -- the items' entries are those of the tree's numbers in preorder
  pub items_entries : (t : Tree) (e s : ℕ) → map (λ (y : Item). y.entry) (items entry align e s t) ≡ map entry (order t)
  unfolding items
  items_entries leaf e s = refl
  items_entries (node l i r) e s =
      let e₁ : ℕ = stop_of entry e i in
      let s₁ : ℕ = free_after entry align s i in
      ap (λ (z : List Entry). entry i ∷ z)
      (map-append (λ (y : Item). y.entry) (items entry align e₁ s₁ l) (items entry align (end_of entry e₁ l) (free_of entry align s₁ l) r)
      ∙ ap₂ ◌++◌ (items_entries l e₁ s₁) (items_entries r (end_of entry e₁ l) (free_of entry align s₁ l))
      ∙ sym (map-append entry (order l) (order r)))

  -- an item for each node
  pub items-length : (t : Tree) (e s : ℕ) → length (items entry align e s t) ≡ size t
  unfolding items
  items-length leaf e s = refl
  items-length (node l i r) e s =
      let e₁ : ℕ = stop_of entry e i in
      let s₁ : ℕ = free_after entry align s i in
      let a : List Item = items entry align e₁ s₁ l in
      let b : List Item = items entry align (end_of entry e₁ l) (free_of entry align s₁ l) r in
      let k : length (a ++ b) ≡ size l + size r = length-append a b ∙ ap₂ ◌+◌ (items-length l e₁ s₁) (items-length r (end_of entry e₁ l) (free_of entry align s₁ l)) in
      omega (arith, k)

  -- SECTORS: each item's are from s on and end by the next free one; those of no two overlap
  module _ (some : 1 ≤ align) where
    pub items_sectors : (t : Tree) (e s : ℕ) → AllIn (λ x. (s ≤ x.sector) × (last_sector x ≤ free_of entry align s t)) (items entry align e s t)
    unfolding items free_of
    items_sectors leaf e s = tt
    items_sectors (node l i r) e s =
        let e₁ : ℕ = stop_of entry e i in
        let s₁ : ℕ = free_after entry align s i in
        let e₂ : ℕ = end_of entry e₁ l in
        let s₂ : ℕ = free_of entry align s₁ l in
        let n = free_next entry align some s i in
        let a = free_after_lem entry align some l s₁ in
        let b = free_after_lem entry align some r s₂ in (
          (n.0, omega arith),
          all_append _ (items entry align e₁ s₁ l) (items entry align e₂ s₂ r)
              (all_map _ _ (items entry align e₁ s₁ l) (λ x k. (omega arith, omega arith)) (items_sectors l e₁ s₁))
              (all_map _ _ (items entry align e₂ s₂ r) (λ x k. (omega arith, omega arith)) (items_sectors r e₂ s₂)),
        )

    each_apart : (t : Tree) (e s : ℕ) → AllApart (λ x. x.sector) last_sector (items entry align e s t)
    unfolding items
    each_apart leaf e s = tt
    each_apart (node l i r) e s =
        let e₁ : ℕ = stop_of entry e i in
        let s₁ : ℕ = free_after entry align s i in
        let e₂ : ℕ = end_of entry e₁ l in
        let s₂ : ℕ = free_of entry align s₁ l in
        let a = free_after_lem entry align some l s₁ in
        let p = items_sectors l e₁ s₁ in
        let q = items_sectors r e₂ s₂ in (
          all_append _ (items entry align e₁ s₁ l) (items entry align e₂ s₂ r) (all_map _ _ (items entry align e₁ s₁ l) (λ x k. k.0) p) (all_map _ _ (items entry align e₂ s₂ r) (λ x k. omega arith) q),
          apart_append _ _ s₂ (items entry align e₁ s₁ l) (items entry align e₂ s₂ r) (each_apart l e₁ s₁) (each_apart r e₂ s₂)
              (all_map _ _ (items entry align e₁ s₁ l) (λ x k. k.1) p) (all_map _ _ (items entry align e₂ s₂ r) (λ x k. k.0) q),
        )

    pub sectors_apart : (t : Tree) (e s : ℕ) → SectorsApart (items entry align e s t)
    sectors_apart t e s = by_sectors (items entry align e s t) (each_apart t e s)

-- an offset is four times its link
pub link_back : (a b : ℕ) (x : Item) → Stands a b x → x.offset ≡ 4 * (x.offset / 4)
link_back a b x s = omega (arith, s.four)

-- 262,140, whose link would be 65,535, never occurs: 16 bytes there would cross a line
pub never_262140 : (a b : ℕ) (x : Item) → Stands a b x → x.offset ≡ 262140 → ⊥
never_262140 a b x s e =
    let p : x.offset / 2048 ≡ 127 = ap (λ (o : ℕ). o / 2048) e in
    let q : 128 ≤ (stop x - 1) / 2048 = omega arith in
    omega (arith, s.whole)

-- so no link is 65,535
pub never_65535 : (a b : ℕ) (x : Item) → Stands a b x → x.offset / 4 ≡ 65535 → ⊥
never_65535 a b x s e = never_262140 a b x s (omega (arith, s.four))
