-- What reading at an offset gives, read backwards: where the header stands, that the links of a window of bytes fit in two bytes, and which refusals there
-- are. The definitions are over lists of any numbers, so that the elements are bytes is a premise here. Assumes nothing.
use Prim.Native.Nat.{ℕ, zero, suc, ◌+◌, ◌-◌, ◌*◌, ◌≤◌, ◌<◌}
use mathlib.Core.Path.{◌≡◌, refl, sym, ap, subst, ◌∙◌}
use mathlib.Core.Bool.{Bool, true, false}
use mathlib.Core.List.{List, [], ◌∷◌}
use mathlib.Core.Option.{Option, some, none}
use native.Mathlib.Omega.{arith}
use borrow.Author.Tests.{ltb-false}
use lib.Dec.{ltb, leb}
use lib.ListN.{length, get_or, take, drop}
use lib.Seq.{get_or-drop}
use Rattle.units.specs.Told.{Told, gives, refuses, pick}
use Rattle.units.specs.declared.Sector.{Sector}
use Rattle.units.specs.declared.Region.{Region}
use Rattle.layout_node.specs.Header.{header_of, is_blank}
use Rattle.read_entry.specs.Entry.{Placed, read_here, read_at}
use Rattle.read_entry.proofs.Located.{byte_of, read_by_tests}

-- every element is a byte
abbrev pub Bytes : List ℕ → Type 0
Bytes w = (i : ℕ) → get_or w i 0 < 256

bytes_drop : (n : ℕ) (w : List ℕ) → Bytes w → Bytes (drop n w)
bytes_drop n w b i = rw get_or-drop (b (n + i))

bytes_take : (n : ℕ) (w : List ℕ) → Bytes w → Bytes (take n w)
bytes_take zero [] b i = b i
bytes_take zero (x ∷ xs) b i = omega arith
bytes_take (suc n) [] b i = b i
bytes_take (suc n) (x ∷ xs) b zero = b zero
bytes_take (suc n) (x ∷ xs) b (suc i) = bytes_take n xs (λ j. b (suc j)) i

links_fit : (h : List ℕ) → Bytes h → ((header_of h).left.0 < 65536) × ((header_of h).right.0 < 65536)
unfolding header_of
links_fit h b = (omega (arith, b 0, b 1), omega (arith, b 2, b 3))

-- the entry that fourteen bytes at place p say
abbrev pub entry_at : List ℕ → ℕ → Placed
entry_at w p = record { header = header_of (take 14 (drop p w)); place = p }

-- by the tests of a reading: what is given, and what is refused
gives_by : (a b c : Bool) (o : ℕ) (y x : Placed) → pick a (refuses 24 (o ∷ [])) (pick b (gives none) (pick c (refuses 24 (o ∷ [])) (gives (some y)))) ≡ gives (some x) → y ≡ x
gives_by true b c o y x e = let z : ◌≡◌ {A = ℕ} 0 1 = cc in absurd (omega arith)
gives_by false true c o y x e = let z : ◌≡◌ {A = ℕ} 0 1 = cc in absurd (omega arith)
gives_by false false true o y x e = let z : ◌≡◌ {A = ℕ} 0 1 = cc in absurd (omega arith)
gives_by false false false o y x e = cc

-- .. and what is given is in the window
held_by : (a b c : Bool) (o : ℕ) (y x : Placed) → pick a (refuses 24 (o ∷ [])) (pick b (gives none) (pick c (refuses 24 (o ∷ [])) (gives (some y)))) ≡ gives (some x) → a ≡ false
held_by true b c o y x e = let z : ◌≡◌ {A = ℕ} 0 1 = cc in absurd (omega arith)
held_by false b c o y x e = refl

-- the number of a refusal, and the offset that it carries
abbrev pub Faulty : ℕ → ℕ → List ℕ → Type 0
Faulty o k vs = (22 < k) × (k < 25) × (vs ≡ o ∷ [])

refused_24 : (o k : ℕ) (vs : List ℕ) → ◌≡◌ {A = Told (Option Placed)} (refuses 24 (o ∷ [])) (refuses k vs) → Faulty o k vs
refused_24 o k vs e = let q : 24 ≡ k = cc in (omega arith, omega arith, cc)

refused_23 : (o k : ℕ) (vs : List ℕ) → ◌≡◌ {A = Told (Option Placed)} (refuses 23 (o ∷ [])) (refuses k vs) → Faulty o k vs
refused_23 o k vs e = let q : 23 ≡ k = cc in (omega arith, omega arith, cc)

refuses_by : (a b c : Bool) (o : ℕ) (y : Placed) (k : ℕ) (vs : List ℕ) →
    pick a (refuses 24 (o ∷ [])) (pick b (gives none) (pick c (refuses 24 (o ∷ [])) (gives (some y)))) ≡ refuses k vs → Faulty o k vs
refuses_by true b c o y k vs e = refused_24 o k vs e
refuses_by false true c o y k vs e = let z : ◌≡◌ {A = ℕ} 0 1 = cc in absurd (omega arith)
refuses_by false false true o y k vs e = refused_24 o k vs e
refuses_by false false false o y k vs e = let z : ◌≡◌ {A = ℕ} 0 1 = cc in absurd (omega arith)

at_gives_by : (a b : Bool) (o : ℕ) (r : Told (Option Placed)) (x : Placed) → pick a (refuses 23 (o ∷ [])) (pick b (refuses 24 (o ∷ [])) r) ≡ gives (some x) → r ≡ gives (some x)
at_gives_by true b o r x e = let z : ◌≡◌ {A = ℕ} 0 1 = cc in absurd (omega arith)
at_gives_by false true o r x e = let z : ◌≡◌ {A = ℕ} 0 1 = cc in absurd (omega arith)
at_gives_by false false o r x e = e

at_refuses_by : (a b : Bool) (o : ℕ) (r : Told (Option Placed)) (k : ℕ) (vs : List ℕ) → (r ≡ refuses k vs → Faulty o k vs) →
    pick a (refuses 23 (o ∷ [])) (pick b (refuses 24 (o ∷ [])) r) ≡ refuses k vs → Faulty o k vs
at_refuses_by true b o r k vs f e = refused_23 o k vs e
at_refuses_by false true o r k vs f e = refused_24 o k vs e
at_refuses_by false false o r k vs f e = f e

module _ (w : List ℕ) (p o : ℕ) where
  here_gives : (x : Placed) → read_here w p o ≡ gives (some x) → entry_at w p ≡ x
  unfolding read_here
  here_gives x e =
      let h : List ℕ = take 14 (drop p w) in
      gives_by (ltb (length w) (p + 14)) (is_blank h) (ltb (length w) (p + 14 + (header_of h).name_len)) o (entry_at w p) x e

  here_held : (x : Placed) → read_here w p o ≡ gives (some x) → p + 14 ≤ length w
  unfolding read_here
  here_held x e =
      let h : List ℕ = take 14 (drop p w) in
      ltb-false (length w) (p + 14) (held_by (ltb (length w) (p + 14)) (is_blank h) (ltb (length w) (p + 14 + (header_of h).name_len)) o (entry_at w p) x e)

  here_refuses : (k : ℕ) (vs : List ℕ) → read_here w p o ≡ refuses k vs → Faulty o k vs
  unfolding read_here
  here_refuses k vs e =
      let h : List ℕ = take 14 (drop p w) in
      refuses_by (ltb (length w) (p + 14)) (is_blank h) (ltb (length w) (p + 14 + (header_of h).name_len)) o (entry_at w p) k vs e

module _ (w : List ℕ) (first : Sector) (t : Region) (o : ℕ) where
  -- an entry that is read is what the bytes at the offset say
  pub entry_is : (x : Placed) → read_at w first t o ≡ gives (some x) → entry_at w (byte_of t o - 2048 * first.0) ≡ x
  entry_is x e =
      let p : ℕ = byte_of t o - 2048 * first.0 in
      here_gives w p o x (at_gives_by (leb t.size o) (ltb (byte_of t o) (2048 * first.0)) o (read_here w p o) x (sym (read_by_tests w first t o) ∙ e))

  -- .. and its header is in the window
  pub entry_held : (x : Placed) → read_at w first t o ≡ gives (some x) → x.place + 14 ≤ length w
  entry_held x e =
      let p : ℕ = byte_of t o - 2048 * first.0 in
      let r : read_here w p o ≡ gives (some x) = at_gives_by (leb t.size o) (ltb (byte_of t o) (2048 * first.0)) o (read_here w p o) x (sym (read_by_tests w first t o) ∙ e) in
      let k : p ≡ x.place = ap (λ (y : Placed). y.place) (here_gives w p o x r) in
      let h : p + 14 ≤ length w = here_held w p o x r in
      omega arith

  -- a reading refuses 23 or 24 alone, with the offset
  pub refusal_is : (k : ℕ) (vs : List ℕ) → read_at w first t o ≡ refuses k vs → Faulty o k vs
  refusal_is k vs e =
      let p : ℕ = byte_of t o - 2048 * first.0 in
      at_refuses_by (leb t.size o) (ltb (byte_of t o) (2048 * first.0)) o (read_here w p o) k vs (here_refuses w p o k vs) (sym (read_by_tests w first t o) ∙ e)

  module _ (bytes : Bytes w) (x : Placed) (e : read_at w first t o ≡ gives (some x)) where
    fit : (x.header.left.0 < 65536) × (x.header.right.0 < 65536)
    fit =
        let p : ℕ = byte_of t o - 2048 * first.0 in
        subst (λ (y : Placed). (y.header.left.0 < 65536) × (y.header.right.0 < 65536)) (entry_is x e)
        (links_fit (take 14 (drop p w)) (bytes_take 14 (drop p w) (bytes_drop p w bytes)))

    -- the links of an entry that is read out of bytes are below 65,536
    pub left_fits : x.header.left.0 < 65536
    left_fits = fit.0

    pub right_fits : x.header.right.0 < 65536
    right_fits = fit.1
