-- A turn of the building loop: the tree so far, and what is left to be grown. Assumes nothing.
use Rattle.std.proofs.Common.{ℕ, suc, ◌+◌, ◌-◌, ◌≤◌, ◌<◌, arith, ◌≡◌, refl, sym, ap, subst, ◌∙◌, Bool, true, false, ◌||◌, List, [], ◌∷◌, eqb, eqb-true, Result, Ok, Err}
use Rattle.std.specs.declared.cmp.Ordering.TheVariants.{Greater}
use Rattle.units.specs.Told.{Told, refuses}
use Rattle.dirtab_entry.specs.declared.Cause.{Cause}
use Rattle.dirtab_entry.specs.Entry.{cause_number, check_of}
use Rattle.avl_model.specs.declared.Place.TheVariants.{Root}
use Rattle.avl_model.specs.Tree.{Tree, none, ins}
use Rattle.avl_model.specs.Lists.{Lists}
use Rattle.avl_model.specs.Rep.{arr_of}
use Rattle.avl_model.specs.Names.{Names, names_in, by_name, to_name, is_less}
use Rattle.avl_model.specs.Seek.{spot_in}
use Rattle.avl_model.specs.Laws.{All}
use Rattle.avl_keyed.specs.inner.Key.{Keyed}
use Rattle.dirtab_grow.specs.Listing.{Listing, given_in}
use Rattle.dirtab_grow.specs.Grow.{grow_from, order_in, grow}
use Rattle.dirtab_grow.specs.inner.Growing.{go_on, step_of, After, Grown, Growing, Stepped, Holding}
use Rattle.dirtab_grow.proofs.Rightmost.{Rightmost, first_in_lem, goes_right, one_after}

module _ (L : Listing) where
  abbrev pub named : Names
  named = names_in L.bytes L.start L.len

  abbrev check : ℕ → Told (Unit {0})
  check i = check_of L.bytes (given_in L i)

  -- k entries more, from number i on
  abbrev pub rest : ℕ → ℕ → Tree → Told Tree
  rest k i t = grow_from check (order_in L.bytes (given_in L)) k i t

  abbrev more : ℕ → Tree → Tree
  more i t = ins (λ j. is_less (by_name named i j)) i t

  -- the columns hold the tree of the first i entries, and with it the others make the whole
  pub record Building (S : Lists) (K : List ℕ) (i : ℕ) : Type 0 where
    pub t : Tree
    pub grown : Grown S named i t
    pub keyed : All (Keyed K named) t
    pub to : i ≤ L.count
    pub whole : rest (L.count - i) i t ≡ grow L.bytes (given_in L) L.count

  -- one entry
  step_on : (k i : ℕ) (t : Tree) → rest (suc k) i t ≡ step_of (check i) (spot_in (by_name named i) t Root) i (rest k (i + 1) (more i t))
  unfolding grow_from to_name
  step_on k i t = refl

  module _ (S : Lists) (K : List ℕ) (i : ℕ) {at : ℕ} (is : at ≡ i) (b : Building S K i) where
    pub growing : Growing S K named at
    growing = subst (λ (v : ℕ). Growing S K named v) (sym is) (record { t = b.t; grown = b.grown; keyed = b.keyed })

    -- the next entry is known to come after the last, where so did those before it
    module _ {up after : Bool} (so_far : up ≡ true → Rightmost named b.t i) (f : after ≡ true → (up ≡ true) × (by_name named at (at - 1) ≡ Greater)) where
      here_after : after ≡ true → by_name named i (i - 1) ≡ Greater
      here_after e = subst (λ (v : ℕ). by_name named v (v - 1) ≡ Greater) is (f e).1

      pub growing_after : (w : Growing S K named at) × After after named w.t at
      growing_after = subst (λ (v : ℕ). (w : Growing S K named v) × After after named w.t v) (sym is) (
        record { t = b.t; grown = b.grown; keyed = b.keyed },
        λ e. ((so_far (f e).0).some, goes_right named b.t i b.grown.low (so_far (f e).0) (here_after e)),
      )

      up_by : (x y : Bool) → after ≡ x → eqb i 0 ≡ y → (x || y) ≡ true → Rightmost named (more i b.t) (i + 1)
      up_by true y ex ey e = one_after named b.t i b.grown.low (so_far (f ex).0) (here_after ex)
      up_by false true ex ey e = first_in_lem named (arr_of S) none (λ j. is_less (by_name named i j)) b.t i (eqb-true i 0 ey) b.grown.held.rep
      up_by false false ex ey e = let z : ◌≡◌ {A = ℕ} 0 1 = cc in absurd (omega arith)

      pub still_up : (after || eqb i 0) ≡ true → Rightmost named (more i b.t) (i + 1)
      still_up = up_by after (eqb i 0) refl refl

    module _ (h : i < L.count) {r : Result (Unit {0}) Cause} {T : Lists} {J : List ℕ}
        (f : (w : Growing S K named at) → Stepped r (check at) (spot_in (by_name named at) w.t Root) at T J named (more at w.t)) where
      here : Stepped r (check i) (spot_in (by_name named i) b.t Root) i T J named (more i b.t)
      here = subst (λ (v : ℕ). (w : Growing S K named v) → Stepped r (check v) (spot_in (by_name named v) w.t Root) v T J named (more v w.t)) is f (record { t = b.t; grown = b.grown; keyed = b.keyed })

      stepped : go_on r i (rest (L.count - (i + 1)) (i + 1) (more i b.t)) ≡ grow L.bytes (given_in L) L.count
      stepped =
          here.answer (rest (L.count - (i + 1)) (i + 1) (more i b.t))
          ∙ sym (step_on (L.count - (i + 1)) i b.t)
          ∙ ap (λ (k : ℕ). rest k i b.t) {x = suc (L.count - (i + 1))} {y = L.count - i} (omega arith)
          ∙ b.whole

      unfoldable one_more : r ≡ Ok tt → Building T J (i + 1)
      one_more e = record {
        t = more i b.t;
        grown = here.taken e;
        keyed = here.keyed e;
        to = omega arith;
        whole = ap (λ (s : Result (Unit {0}) Cause). go_on s i (rest (L.count - (i + 1)) (i + 1) (more i b.t))) (sym e) ∙ stepped;
      }

      pub one_more_up : {up after : Bool} → (up ≡ true → Rightmost named b.t i) → (after ≡ true → (up ≡ true) × (by_name named at (at - 1) ≡ Greater)) → r ≡ Ok tt
          → (n : Building T J (i + 1)) × ((after || eqb i 0) ≡ true → Rightmost named n.t (i + 1))
      unfolding one_more
      one_more_up so_far g e = (one_more e, still_up so_far g)

      pub stops : {c : Cause} → r ≡ Err c → grow L.bytes (given_in L) L.count ≡ refuses (cause_number c) (i ∷ [])
      stops e = sym stepped ∙ ap (λ (s : Result (Unit {0}) Cause). go_on s i (rest (L.count - (i + 1)) (i + 1) (more i b.t))) e

  -- no entry is left
  pub all_in : (S : Lists) (K : List ℕ) (i : ℕ) → Building S K i → L.count ≤ i → Holding (grow L.bytes (given_in L) L.count) S named L.count
  unfolding grow_from
  all_in S K i b h =
      let e : i ≡ L.count = omega (arith, b.to) in
      record {
        t = b.t;
        told = sym b.whole ∙ ap (λ (k : ℕ). rest k i b.t) {x = L.count - i} {y = 0} (omega (arith, b.to));
        grown = subst (λ (v : ℕ). Grown S named v b.t) e b.grown;
      }
