-- Chains of any step, with the bound of `chain_from` and without it. A step's refusals are told apart from the answers of a chain: they are 23 or 24.
-- Assumes nothing.
use Prim.Native.Nat.{ℕ, zero, suc, ◌+◌, ◌-◌, ◌*◌, ◌/◌, ◌≤◌, ◌<◌}
use mathlib.Core.Path.{◌≡◌, refl, sym, ap, subst, ◌∙◌}
use mathlib.Core.List.{List, []}
use mathlib.Core.Option.{Option, some, none}
use native.Mathlib.Nat.{suc-add, zero-add, suc-mul, zero-mul, add_comm, le-mul_of_pos_right}
use native.Mathlib.Omega.{arith}
use borrow.Author.Tests.{ne_eqb}
use Rattle.units.specs.Told.{gives, refuses}
use Rattle.read_lookup.specs.Lookup.{Leads, found, missing, refused, onward, Finding, ending, chain_from}
use Rattle.read_lookup.specs.Chain.{goes, offset_from, Endless, ReadsAgain, LengthIs, count_of}
use Rattle.read_lookup.proofs.Pigeonhole.{Two, pigeonhole}

-- a step refuses 23 or 24 alone
abbrev pub Reading : Leads → Type 0
Reading s = (c : ℕ) (vs : List ℕ) → s ≡ refused c vs → (22 < c) × (c < 25)

-- the offset of a header that is read
abbrev Read : (ℕ → Leads) → ℕ → ℕ → Type 0
Read f i o = (p : ℕ) × (offset_from f i o ≡ some p)

-- a chain that reads so many headers meets any bound up to there
module _ (f : ℕ → Leads) where
  reads_by : (s : Leads) (o k n : ℕ) → (IH : (p : ℕ) → Read f k p → chain_from f k n p ≡ refuses 25 []) →
      (p : ℕ) → goes s (λ p. offset_from f k p) ≡ some p → ending s o n (λ p. chain_from f k n p) ≡ refuses 25 []
  reads_by (found x) o k n IH p e = let z : ◌≡◌ {A = ℕ} 0 1 = cc in absurd (omega arith)
  reads_by missing o k n IH p e = let z : ◌≡◌ {A = ℕ} 0 1 = cc in absurd (omega arith)
  reads_by (refused c vs) o k n IH p e = let z : ◌≡◌ {A = ℕ} 0 1 = cc in absurd (omega arith)
  reads_by (onward q) o k n IH p e = IH q (p, e)

  reads_looped : (k n o : ℕ) → Read f k o → chain_from f k n o ≡ refuses 25 []
  unfolding chain_from offset_from
  reads_looped zero n o r = refl
  reads_looped (suc k) n o r = reads_by (f o) o k (n + 1) (λ p q. reads_looped k (n + 1) p q) r.0 r.1

  -- a chain that never ends is refused, at any bound
  pub endless_refused : (o : ℕ) → Endless f o → (k n : ℕ) → chain_from f k n o ≡ refuses 25 []
  endless_refused o e k n = reads_looped k n o (e.read k, e.reads k)

  -- from a header on, the chain is that from its offset
  from_by : (s : Leads) (i m p : ℕ) → (IH : (o : ℕ) → offset_from f i o ≡ some p → offset_from f (i + m) o ≡ offset_from f m p) →
      goes s (λ o. offset_from f i o) ≡ some p → goes s (λ o. offset_from f (i + m) o) ≡ offset_from f m p
  from_by (found x) i m p IH e = let z : ◌≡◌ {A = ℕ} 0 1 = cc in absurd (omega arith)
  from_by missing i m p IH e = let z : ◌≡◌ {A = ℕ} 0 1 = cc in absurd (omega arith)
  from_by (refused c vs) i m p IH e = let z : ◌≡◌ {A = ℕ} 0 1 = cc in absurd (omega arith)
  from_by (onward q) i m p IH e = IH q e

  reads_from : (i m o p : ℕ) → offset_from f i o ≡ some p → offset_from f (i + m) o ≡ offset_from f m p
  unfolding offset_from
  reads_from zero m o p e = let q : o ≡ p = cc in rw (zero-add, q)
  reads_from (suc i) m o p e = rw suc-add (from_by (f o) i m p (λ q d. reads_from i m q p d) e)

  -- a chain reads the headers before one that it reads
  before_by : (s : Leads) (i j : ℕ) → (IH : (p : ℕ) → Read f j p → Read f i p) → (p : ℕ) → goes s (λ p. offset_from f j p) ≡ some p → (q : ℕ) × (goes s (λ p. offset_from f i p) ≡ some q)
  before_by (found x) i j IH p e = let z : ◌≡◌ {A = ℕ} 0 1 = cc in absurd (omega arith)
  before_by missing i j IH p e = let z : ◌≡◌ {A = ℕ} 0 1 = cc in absurd (omega arith)
  before_by (refused c vs) i j IH p e = let z : ◌≡◌ {A = ℕ} 0 1 = cc in absurd (omega arith)
  before_by (onward q) i j IH p e = IH q (p, e)

  reads_before : (i j o : ℕ) → i ≤ j → Read f j o → Read f i o
  unfolding offset_from
  reads_before zero j o h r = (o, refl)
  reads_before (suc i) zero o h r = absurd (omega arith)
  reads_before (suc i) (suc j) o h r = before_by (f o) i j (λ p q. reads_before i j p (omega arith) q) r.0 r.1

  -- round and round
  rounds : (d q p : ℕ) → offset_from f d p ≡ some p → offset_from f (q * d) p ≡ some p
  unfolding offset_from
  rounds d zero p e = rw zero-mul
  rounds d (suc q) p e = rw (suc-mul, add_comm) (reads_from d (q * d) p p e ∙ rounds d q p e)

  again_reads : (o : ℕ) → ReadsAgain f o → (k : ℕ) → Read f k o
  again_reads o r k =
      let i : ℕ = r.first in
      let d : ℕ = r.second - r.first in
      let p : ℕ = r.offset in
      let e : r.second ≡ i + d = omega (arith, r.later) in
      let back : offset_from f d p ≡ some p = sym (reads_from i d o p r.at_first) ∙ (rw e at r.at_second) in
      let far : offset_from f (i + k * d) o ≡ some p = reads_from i (k * d) o p r.at_first ∙ rounds d k p back in
      reads_before k (i + k * d) o (omega (arith, le-mul_of_pos_right {m = d} k (omega (arith, r.later)))) (p, far)

  -- a chain that reads an offset again never ends
  pub again_endless : (o : ℕ) → ReadsAgain f o → Endless f o
  again_endless o r = record { read = λ k. (again_reads o r k).0; reads = λ k. (again_reads o r k).1 }

  -- what a chain gives is what the step at its offset leads to
  found_by : (o : ℕ) (s : Leads) (k n : ℕ) (x : Finding) → f o ≡ s → ((p : ℕ) → chain_from f k n p ≡ gives x → f x.offset ≡ found x.entry) →
      ending s o n (λ p. chain_from f k n p) ≡ gives x → f x.offset ≡ found x.entry
  found_by o (found y) k n x g IH e =
      let z : Finding = record { entry = y; offset = o; headers = n } in
      let q : z ≡ x = cc in
      subst (λ (v : Finding). f v.offset ≡ found v.entry) q g
  found_by o missing k n x g IH e = let z : ◌≡◌ {A = ℕ} 0 1 = cc in absurd (omega arith)
  found_by o (refused c vs) k n x g IH e = let z : ◌≡◌ {A = ℕ} 0 1 = cc in absurd (omega arith)
  found_by o (onward p) k n x g IH e = IH p e

  pub chain_found : (k n o : ℕ) (x : Finding) → chain_from f k n o ≡ gives x → f x.offset ≡ found x.entry
  unfolding chain_from
  chain_found zero n o x e = let z : ◌≡◌ {A = ℕ} 0 1 = cc in absurd (omega arith)
  chain_found (suc k) n o x e = found_by o (f o) k (n + 1) x refl (λ p q. chain_found k (n + 1) p x q) e

-- every offset that a chain reads is four times a number below m
abbrev pub Linked : ℕ → ℕ → Type 0
Linked m p = (k : ℕ) × (k < m) × (p ≡ 4 * k)

abbrev quarter : Option ℕ → ℕ
quarter none = 0
quarter (some p) = p / 4

module _ (f : ℕ → Leads) (m : ℕ) (linked : (o p : ℕ) → f o ≡ onward p → Linked m p) where
  linked_by : (o : ℕ) (s : Leads) (i p : ℕ) → f o ≡ s → ((q : ℕ) → Linked m q → offset_from f i q ≡ some p → Linked m p) →
      goes s (λ q. offset_from f i q) ≡ some p → Linked m p
  linked_by o (found x) i p d IH e = let z : ◌≡◌ {A = ℕ} 0 1 = cc in absurd (omega arith)
  linked_by o missing i p d IH e = let z : ◌≡◌ {A = ℕ} 0 1 = cc in absurd (omega arith)
  linked_by o (refused c vs) i p d IH e = let z : ◌≡◌ {A = ℕ} 0 1 = cc in absurd (omega arith)
  linked_by o (onward q) i p d IH e = IH q (linked o q d) e

  reads_linked : (i o p : ℕ) → Linked m o → offset_from f i o ≡ some p → Linked m p
  unfolding offset_from
  reads_linked zero o p l e = let q : o ≡ p = cc in rw q at l
  reads_linked (suc i) o p l e = linked_by o (f o) i p refl (λ q k d. reads_linked i q p k d) e

  same_offset : (p q : ℕ) → Linked m p → Linked m q → p / 4 ≡ q / 4 → p ≡ q
  same_offset p q a b e = omega (arith, a.2, b.2)

  -- two headers at offsets of the same link are at the same offset
  two_again : (o i j : ℕ) → Linked m o → i < j → Read f i o → Read f j o → quarter (offset_from f i o) ≡ quarter (offset_from f j o) → ReadsAgain f o
  two_again o i j l h a b e =
      let same : a.0 ≡ b.0 = same_offset a.0 b.0 (reads_linked i o a.0 l a.1) (reads_linked j o b.0 l b.1) (sym (ap quarter a.1) ∙ e ∙ ap quarter b.1) in
      record { first = i; second = j; later = h; offset = b.0; at_first = a.1 ∙ ap some same; at_second = b.1 }

  quarter_below : (o i : ℕ) → Linked m o → Read f i o → quarter (offset_from f i o) < m
  quarter_below o i l r = let k : Linked m r.0 = reads_linked i o r.0 l r.1 in rw r.1 (omega (arith, k.1, k.2))

  -- a chain that reads m + 1 headers reads an offset again: there are no more than m
  pub long_again : (o : ℕ) → Linked m o → ((i : ℕ) → i ≤ m → Read f i o) → ReadsAgain f o
  long_again o l at = go (pigeonhole m (λ i. quarter (offset_from f i o)) (λ i h. quarter_below o i l (at i h)))
    where
      go : Two (λ i. quarter (offset_from f i o)) m → ReadsAgain f o
      go two = two_again o two.i two.j l two.before (at two.i (omega (arith, two.before, two.within))) (at two.j two.within) two.same

module _ (f : ℕ → Leads) (reading : (o : ℕ) → Reading (f o)) where
  -- a chain that is refused at its bound reads every header below it, and the one at it
  looped_by : (o : ℕ) (s : Leads) → Reading s → (k n i : ℕ) → (IH : (p : ℕ) → chain_from f k n p ≡ refuses 25 [] → Read f i p) →
      ending s o n (λ p. chain_from f k n p) ≡ refuses 25 [] → (p : ℕ) × (goes s (λ p. offset_from f i p) ≡ some p)
  looped_by o (found x) q k n i IH e = let z : ◌≡◌ {A = ℕ} 0 1 = cc in absurd (omega arith)
  looped_by o missing q k n i IH e = let z : ◌≡◌ {A = ℕ} 22 25 = cc in absurd (omega arith)
  looped_by o (refused c vs) q k n i IH e = let z : c ≡ 25 = cc in absurd (omega (arith, (q c vs refl).1))
  looped_by o (onward p) q k n i IH e = IH p e

  looped_reads : (i k n o : ℕ) → i ≤ k → chain_from f k n o ≡ refuses 25 [] → Read f i o
  unfolding chain_from offset_from
  looped_reads zero k n o h e = (o, refl)
  looped_reads (suc i) zero n o h e = absurd (omega arith)
  looped_reads (suc i) (suc k) n o h e = looped_by o (f o) (reading o) k (n + 1) i (λ p q. looped_reads i k (n + 1) p (omega arith) q) e

  -- a chain that is refused at the number of offsets reads an offset again
  pub refused_again : (m o : ℕ) → ((o p : ℕ) → f o ≡ onward p → Linked m p) → Linked m o → chain_from f m 0 o ≡ refuses 25 [] → ReadsAgain f o
  refused_again m o linked l e = long_again f m linked o l (λ i h. looped_reads i m 0 o h e)

  -- the count of a chain's answer, with n headers read before it
  abbrev Counted : ℕ → ℕ → ℕ → Type 0
  Counted o n m = (d : ℕ) × (m ≡ n + d) × LengthIs f o d

  zero_only : (o i : ℕ) → i < 1 → Read f i o
  unfolding offset_from
  zero_only o i h = let e : i ≡ 0 = omega arith in rw e (o, refl)

  one : (o n m : ℕ) → m ≡ n + 1 → goes (f o) (λ p. offset_from f 0 p) ≡ none → Counted o n m
  unfolding offset_from
  one o n m e g = (1, e, record { reads = zero_only o; ends = g })

  more_reads : (o p d : ℕ) → f o ≡ onward p → ((i : ℕ) → i < d → Read f i p) → (i : ℕ) → i < suc d → Read f i o
  unfolding offset_from
  more_reads o p d g r zero h = (o, refl)
  more_reads o p d g r (suc i) h = rw g (r i (omega arith))

  more : (o p n m : ℕ) → f o ≡ onward p → Counted p (n + 1) m → Counted o n m
  unfolding offset_from
  more o p n m g c =
      let d : ℕ = c.0 in
      (suc d, omega (arith, c.1), record { reads = more_reads o p d g c.2.reads; ends = rw g c.2.ends })

  no_count : (c : ℕ) (vs : List ℕ) (m : ℕ) → 22 < c → count_of (refuses c vs) ≡ some m → ⊥
  no_count c vs m h e = let z : ◌≡◌ {A = ℕ} 0 1 = cc (ne_eqb c 22 (λ q. omega arith)) in omega arith

  counted_by : (o : ℕ) (s : Leads) → Reading s → (k n m : ℕ) → f o ≡ s → ((p : ℕ) → count_of (chain_from f k (n + 1) p) ≡ some m → Counted p (n + 1) m) →
      count_of (ending s o (n + 1) (λ p. chain_from f k (n + 1) p)) ≡ some m → Counted o n m
  counted_by o (found x) q k n m g IH e = one o n m (cc) (rw g)
  counted_by o missing q k n m g IH e = one o n m (cc) (rw g)
  counted_by o (refused c vs) q k n m g IH e = absurd (no_count c vs m (q c vs refl).0 e)
  counted_by o (onward p) q k n m g IH e = more o p n m g (IH p e)

  counted : (k n m o : ℕ) → count_of (chain_from f k n o) ≡ some m → Counted o n m
  unfolding chain_from
  counted zero n m o e = let z : ◌≡◌ {A = ℕ} 0 1 = cc in absurd (omega arith)
  counted (suc k) n m o e = counted_by o (f o) (reading o) k n m refl (λ p q. counted k (n + 1) m p q) e

  -- an answer's count is the length of the chain
  pub chain_count : (k m o : ℕ) → count_of (chain_from f k 0 o) ≡ some m → LengthIs f o m
  chain_count k m o e = let c : Counted o 0 m = counted k 0 m o e in let q : m ≡ c.0 = omega (arith, c.1) in rw q c.2
