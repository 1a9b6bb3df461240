-- Where entries start and end: no sector line is crossed, starts are multiples of 4 and come after what went before, sectors too. Assumes nothing.
use Rattle.std.proofs.Common.{ℕ, ◌+◌, ◌-◌, ◌/◌, ◌%◌, ◌≤◌, ◌<◌, ◌≡◌, refl, ap, ◌∙◌, Bool, true, false, arith, le-leb, leb-true, leb-false}
use Rattle.units.specs.Told.{pick}
use Rattle.layout_sector.specs.Counter.{sectors_for, aligned_up}
use Rattle.layout_sector.proofs.Laws.{aligned_one, aligned_above}
use Rattle.dirtab_entry.specs.Entry.{rounded}
use Rattle.avl_model.specs.Tree.{Tree, leaf, node}
use Rattle.avl_model.specs.Laws.{All}
use Rattle.table_model.specs.Entry.{Entry, length_of}
use Rattle.table_model.specs.Said.{Fits, sectors_in}
use Rattle.table_model.specs.Place.{whole, start_after, start_of, stop_of, end_of, free_after, free_of}

-- where an entry of n bytes starts after what ends at e: not before e, in the same sector or on the next line, and so that it crosses no line
pub record Starts (e n o : ℕ) : Type 0 where
  pub after : e ≤ o
  pub near : o < e + 2048
  pub within : o % 2048 + n ≤ 2048
  pub four : e % 4 ≡ 0 → o % 4 ≡ 0

starts_by : (e n : ℕ) (b : Bool) → whole e n ≡ b → n ≤ 2048 → Starts e n (pick b e (rounded e))
starts_by e n true h k = record { after = omega arith; near = omega arith; within = omega (arith, leb-true); four = λ q. q }
starts_by e n false h k = record { after = omega arith; near = omega arith; within = omega arith; four = λ q. omega arith }

pub starts : (e n : ℕ) → n ≤ 2048 → Starts e n (start_after e n)
unfolding start_after
starts e n k = starts_by e n (whole e n) refl k

-- the first entry starts at 0
pub starts_first : (n : ℕ) → n ≤ 2048 → start_after 0 n ≡ 0
unfolding start_after
starts_first n k = rw (le-leb (0 + n) 2048 (omega arith))

-- another reading of `start_after`: an entry stays exactly where its first and last byte would be in one sector
pub stays_iff : (e n : ℕ) → 1 ≤ n → n ≤ 2048 → (start_after e n ≡ e → e / 2048 ≡ (e + n - 1) / 2048) × (e / 2048 ≡ (e + n - 1) / 2048 → start_after e n ≡ e)
unfolding start_after
stays_iff e n h k = go (whole e n) refl
  where
    go : (b : Bool) → whole e n ≡ b
        → (pick b e (rounded e) ≡ e → e / 2048 ≡ (e + n - 1) / 2048) × (e / 2048 ≡ (e + n - 1) / 2048 → pick b e (rounded e) ≡ e)
    go true q = (λ p. omega (arith, leb-true), λ p. refl)
    go false q = (λ p. omega (arith, leb-false), λ p. omega (arith, leb-false))

module _ (entry : ℕ → Entry) where
  abbrev pub FitsAt : ℕ → Type 0
  FitsAt i = Fits (entry i)

  pub start_at : (e i : ℕ) → FitsAt i → Starts e (length_of (entry i)) (start_of entry e i)
  start_at e i f = let h = f.short in starts e (length_of (entry i)) (omega arith)

  pub stop_four : (e i : ℕ) → FitsAt i → e % 4 ≡ 0 → stop_of entry e i % 4 ≡ 0
  stop_four e i f h = let k = (start_at e i f).four h in omega arith

  -- a tree's entries end after they start, and at a multiple of 4
  pub end_after : (t : Tree) (e : ℕ) → All FitsAt t → e ≤ end_of entry e t
  unfolding end_of
  end_after leaf e f = omega arith
  end_after (node l i r) e f =
      omega (arith, start_at e i f.0, end_after l (stop_of entry e i) f.1, end_after r (end_of entry (stop_of entry e i) l) f.2)

  pub end_four : (t : Tree) (e : ℕ) → All FitsAt t → e % 4 ≡ 0 → end_of entry e t % 4 ≡ 0
  unfolding end_of
  end_four leaf e f h = h
  end_four (node l i r) e f h =
      end_four r (end_of entry (stop_of entry e i) l) f.2 (end_four l (stop_of entry e i) f.1 (stop_four e i f.0 h))

  -- sectors, for every alignment: the next free one only grows
  module _ (align : ℕ) (some : 1 ≤ align) where
    pub free_next : (s i : ℕ) → (s ≤ aligned_up align s) × (aligned_up align s ≤ free_after entry align s i)
    free_next s i = let a : s ≤ aligned_up align s = aligned_above align s some in (a, omega arith)

    pub free_after_lem : (t : Tree) (s : ℕ) → s ≤ free_of entry align s t
    unfolding free_of
    free_after_lem leaf s = omega arith
    free_after_lem (node l i r) s =
        omega (arith, free_next s i, free_after_lem l (free_after entry align s i), free_after_lem r (free_of entry align (free_after entry align s i) l))

  -- with alignment 1 they are handed out one after another: the next free one is the first and what all entries take
  pub free_sum : (t : Tree) (s : ℕ) → free_of entry 1 s t ≡ s + sectors_in entry t
  unfolding free_of sectors_in
  free_sum leaf s = omega arith
  free_sum (node l i r) s =
      let s₁ : ℕ = free_after entry 1 s i in
      let a : s₁ ≡ s + sectors_for (entry i).size = ap (λ (k : ℕ). k + sectors_for (entry i).size) (aligned_one s) in
      free_sum r (free_of entry 1 s₁ l) ∙ omega (arith, free_sum l s₁)
