-- The verdict on an entry, as the code has it. Assumes nothing.
use Prim.Native.Nat.{ℕ, ◌+◌, ◌-◌, ◌*◌, ◌/◌, ◌%◌, ◌≤◌, ◌<◌}
use mathlib.Core.Path.{◌≡◌, refl, sym, ap, ap₂, subst, ◌∙◌}
use mathlib.Core.Bool.{Bool, true, false}
use mathlib.Core.List.{List, [], ◌∷◌}
use mathlib.Core.Option.{Option}
use native.Mathlib.Omega.{arith}
use borrow.Author.Tests.{eq-eqb, ne_eqb, le-leb, lt-leb}
use lib.Dec.{eqb}
use lib.ListN.{length, get_or}
use Rattle.std.specs.Prelude.{Ok, Err}
use Rattle.units.specs.Told.{Told}
use Rattle.units.specs.declared.Link.{Link}
use Rattle.units.specs.declared.Offset.{Offset}
use Rattle.units.specs.declared.Region.{Region}
use Rattle.units.specs.declared.Sector.{Sector}
use Rattle.layout_node.specs.declared.Header.{Header}
use Rattle.layout_node.specs.Header.{entry_length}
use Rattle.read_entry.specs.declared.Placed.{Placed}
use Rattle.read_entry.specs.Entry.{read_at}
use Rattle.read_entry.specs.Links.{is_in}
use Rattle.strict_map.specs.inner.Map.{Tested, Marked}
use Rattle.strict_rule.specs.declared.CheckError.TheVariants as check_error
use Rattle.strict_rule.specs.Strict.{end_of, name_in, apart, placed, ordered, judged, verdict_at}
use Rattle.strict.specs.inner.Run.{visit_of, Mapped, Covers, Judged}
use Rattle.strict.proofs.Units.{tested_apart}

-- an entry at link l, from o to o + len
module _ (l : Link) (from : Offset) (is-from : from.0 ≡ 4 * l.0) (o : ℕ) (is-o : o ≡ from.0) (h : Header) (len : ℕ) (is-len : len ≡ entry_length h.name_len) where
  module _ (size : ℕ) (m : List ℕ) where
    -- the entry's place, by its numbers in the code
    here : (f : ℕ → Told (Option Placed)) (seen : List ℕ) → placed f size (4 * l.0) (end_of h (4 * l.0)) seen ≡ placed f size o (o + len) seen
    here f seen =
        let a : 4 * l.0 ≡ o = omega arith in
        let b : end_of h (4 * l.0) ≡ o + len = omega arith in
        ap₂ (λ (x y : ℕ). placed f size x y seen) a b

    pub too_long : size < o + len → (f : ℕ → Told (Option Placed)) (seen : List ℕ) → Mapped f seen m → false ≡ placed f size (4 * l.0) (end_of h (4 * l.0)) seen
    unfolding placed
    too_long g f seen map = sym (here f seen ∙ rw (lt-leb _ _ g))

    module _ (inside : o + len ≤ size) where
      pub crossing : (o / 2048 ≡ (o + len - 1) / 2048 → ⊥) → (f : ℕ → Told (Option Placed)) (seen : List ℕ) → Mapped f seen m → false ≡ placed f size (4 * l.0) (end_of h (4 * l.0)) seen
      unfolding placed
      crossing g f seen map = sym (here f seen ∙ rw (le-leb _ _ inside, ne_eqb _ _ g))

      pub in_sector_lem : o / 2048 ≡ (o + len - 1) / 2048 → l.0 < 65536 → h.name_len < 256 → Covers size (length m) → (r : Bool) → Tested m (o / 4) ((o + len) / 4) r →
          (f : ℕ → Told (Option Placed)) (seen : List ℕ) → Mapped f seen m → r ≡ placed f size (4 * l.0) (end_of h (4 * l.0)) seen
      unfolding placed
      in_sector_lem g low name covers r d f seen map =
          let a : 4 * (o / 4) ≡ o = omega arith in
          let b : 4 * ((o + len) / 4) ≡ o + len = omega arith in
          tested_apart f (o / 4) ((o + len) / 4) (omega arith) seen m (covers.end (o + len) (omega arith) inside) map r d
          ∙ ap₂ (λ (x y : ℕ). apart f x y seen) a b
          ∙ sym (here f seen ∙ rw (le-leb _ _ inside, eq-eqb _ _ g))

  -- its units are on a map that covers the table
  pub on_map : l.0 < 65536 → h.name_len < 256 → {size n : ℕ} → Covers size n → o + len ≤ size → (o / 4 < (o + len) / 4) × ((o + len) / 4 ≤ n)
  on_map low name covers inside = (omega arith, covers.end (o + len) (omega arith) inside)

  pub entry_marked_lem : (m after : List ℕ) → Marked m (o / 4) ((o + len) / 4) after → Marked m l.0 (end_of h (4 * l.0) / 4) after
  entry_marked_lem m after d =
      let a : o / 4 ≡ l.0 = omega arith in
      let b : (o + len) / 4 ≡ end_of h (4 * l.0) / 4 = omega arith in
      subst (λ (t : ℕ). Marked m l.0 t after) b (subst (λ (k : ℕ). Marked m k ((o + len) / 4) after) a d)

-- an entry that is read at visit c, of link l
module _ (w : List ℕ) (first : Sector) (t : Region) (m : List ℕ) (left c : ℕ) (x : Placed)
    (l : Link) (is_l : l.0 ≡ c % 65536) (o : Offset) (is-o : o.0 ≡ 4 * l.0) (n : ℕ) (is-n : n ≡ l.0) (j : ℕ) (is-j : j ≡ n) (a : Bool) (is-a : a ≡ eqb (get_or m j 0) 1)
    (in_map : c % 65536 < length m) where
  abbrev f : ℕ → Told (Option Placed)
  f = read_at w first t

  abbrev size : ℕ
  size = t.size

  -- the four tests one by one
  by_tests : (seen : List ℕ) (s p q : Bool) → s ≡ is_in (4 * (c % 65536)) seen → p ≡ placed f size (4 * l.0) (end_of x.header (4 * l.0)) seen →
      q ≡ ordered w f (visit_of c) (name_in w x) → verdict_at w f size seen (eqb left 0) (visit_of c) x ≡ judged s (eqb left 0) p q o.0
  unfolding verdict_at
  by_tests seen s p q is-s is-p is-q = rw (is-s, is-p, is-q, is-o, is_l)

  listed : (seen : List ℕ) → Mapped f seen m → a ≡ is_in (4 * (c % 65536)) seen
  listed seen map = is-a ∙ ap (λ (k : ℕ). eqb (get_or m k 0) 1) (is-j ∙ is-n ∙ is_l) ∙ map.starts (c % 65536) in_map

  pub shared : a ≡ true → (seen : List ℕ) → Mapped f seen m → Judged (Err (check_error.Shared o)) (verdict_at w f size seen (eqb left 0) (visit_of c) x)
  shared e seen map = (30, o.0 ∷ [], by_tests seen a _ _ (listed seen map) refl refl ∙ rw e, refl)

  module _ (new : a ≡ false) where
    pub no_place : left ≡ 0 → (seen : List ℕ) → Mapped f seen m → Judged (Err check_error.WalkFull) (verdict_at w f size seen (eqb left 0) (visit_of c) x)
    no_place e seen map = (26, [], by_tests seen a _ _ (listed seen map) refl refl ∙ rw (new, eq-eqb left 0 e), refl)

    module _ (a-place : left ≡ 0 → ⊥) (p : Bool)
        (is-p : (g : ℕ → Told (Option Placed)) (seen : List ℕ) → Mapped g seen m → p ≡ placed g size (4 * l.0) (end_of x.header (4 * l.0)) seen) where
      pub bad_place : p ≡ false → (seen : List ℕ) → Mapped f seen m → Judged (Err (check_error.BadPlace o)) (verdict_at w f size seen (eqb left 0) (visit_of c) x)
      bad_place e seen map = (32, o.0 ∷ [], by_tests seen a p _ (listed seen map) (is-p f seen map) refl ∙ rw (new, ne_eqb left 0 a-place, e), refl)

      module _ (well : p ≡ true) (name : List ℕ) (is_name : name ≡ name_in w x) (q : Bool)
          (is-q : q ≡ ordered w f (visit_of c) name) where
        in_order : q ≡ ordered w f (visit_of c) (name_in w x)
        in_order = is-q ∙ ap (ordered w f (visit_of c)) is_name

        pub out_of_order : q ≡ false → (seen : List ℕ) → Mapped f seen m → Judged (Err (check_error.OutOfOrder o)) (verdict_at w f size seen (eqb left 0) (visit_of c) x)
        out_of_order e seen map = (31, o.0 ∷ [], by_tests seen a p q (listed seen map) (is-p f seen map) in_order ∙ rw (new, ne_eqb left 0 a-place, well, e), refl)

        pub good : q ≡ true → (seen : List ℕ) → Mapped f seen m → Judged (Ok tt) (verdict_at w f size seen (eqb left 0) (visit_of c) x)
        good e seen map = by_tests seen a p q (listed seen map) (is-p f seen map) in_order ∙ rw (new, ne_eqb left 0 a-place, well, e)
