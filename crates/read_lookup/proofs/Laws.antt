-- What an entry that is given, refusal 25 and a count mean, for every set of absent links. Assumes nothing.
--     looped_again, again_looped        25 is answered exactly where an offset would be read again ..
--     looped_endless, endless_looped    .. which is exactly where the chain never ends
--     found_stands                      an entry that is given stands at its offset, and its name is the one sought
--     count_is_length                   a count is the length of the chain
use Prim.Native.Nat.{ℕ, ◌*◌, ◌<◌}
use mathlib.Core.Path.{◌≡◌, refl, sym, ap, subst}
use mathlib.Core.Bool.{Bool, true, false}
use mathlib.Core.List.{List, []}
use mathlib.Core.Option.{Option, some, none}
use native.Mathlib.Omega.{arith}
use borrow.Author.Tests.{ne_eqb}
use lib.Dec.{eqb}
use Rattle.units.specs.Told.{Told, gives, refuses, number_of, pick}
use Rattle.units.specs.declared.Sector.{Sector}
use Rattle.units.specs.declared.Region.{Region}
use Rattle.std.specs.declared.cmp.Ordering.{Ordering}
use Rattle.std.specs.declared.cmp.Ordering.TheVariants.{Less, Equal, Greater}
use Rattle.name_role.specs.Roles.{sought_order, bad_sought}
use Rattle.read_entry.specs.Entry.{Placed, read_at, name_of}
use Rattle.read_entry.specs.Links.{is_in}
use Rattle.read_entry.proofs.Fit.{Bytes, left_fits, right_fits, refusal_is}
use Rattle.read_lookup.specs.Lookup.{Leads, found, missing, onward, Finding, by_link, by_order, by_read, step_at, most, chain_from, lookup_by}
use Rattle.read_lookup.specs.Chain.{Endless, ReadsAgain, LengthIs, count_of}
use Rattle.read_lookup.proofs.Chains as chains

-- where one step leads: its offset is four times a link, its refusals are those of reading, and what it finds is what was read
module _ (absent : List ℕ) where
  pick_linked : (b : Bool) (k p : ℕ) → k < 65536 → pick b missing (onward (4 * k)) ≡ onward p → chains.Linked most p
  pick_linked true k p h e = let z : ◌≡◌ {A = ℕ} 0 1 = cc in absurd (omega arith)
  pick_linked false k p h e = (k, omega arith, cc)

  link_linked : (k p : ℕ) → k < 65536 → by_link absent k ≡ onward p → chains.Linked most p
  unfolding by_link
  link_linked k p h e = pick_linked (is_in k absent) k p h e

  order_linked : (x : Placed) (c : Ordering) (p : ℕ) → x.header.left.0 < 65536 → x.header.right.0 < 65536 → by_order absent x c ≡ onward p → chains.Linked most p
  order_linked x Less p l r e = link_linked x.header.left.0 p l e
  order_linked x Equal p l r e = let z : ◌≡◌ {A = ℕ} 0 1 = cc in absurd (omega arith)
  order_linked x Greater p l r e = link_linked x.header.right.0 p r e

  pick_reads : (b : Bool) (k : ℕ) → chains.Reading (pick b missing (onward (4 * k)))
  pick_reads true k c vs e = let z : ◌≡◌ {A = ℕ} 0 1 = cc in absurd (omega arith)
  pick_reads false k c vs e = let z : ◌≡◌ {A = ℕ} 0 1 = cc in absurd (omega arith)

  link_reads : (k : ℕ) → chains.Reading (by_link absent k)
  unfolding by_link
  link_reads k = pick_reads (is_in k absent) k

  order_reads : (x : Placed) (o : Ordering) → chains.Reading (by_order absent x o)
  order_reads x Less c vs e = link_reads x.header.left.0 c vs e
  order_reads x Equal c vs e = let z : ◌≡◌ {A = ℕ} 0 1 = cc in absurd (omega arith)
  order_reads x Greater c vs e = link_reads x.header.right.0 c vs e

  pick-found : (b : Bool) (k : ℕ) (z : Placed) → pick b missing (onward (4 * k)) ≡ found z → ⊥
  pick-found true k z e = let q : ◌≡◌ {A = ℕ} 0 1 = cc in omega arith
  pick-found false k z e = let q : ◌≡◌ {A = ℕ} 0 1 = cc in omega arith

  link_found : (k : ℕ) (z : Placed) → by_link absent k ≡ found z → ⊥
  unfolding by_link
  link_found k z e = pick-found (is_in k absent) k z e

  order_found : (x : Placed) (c : Ordering) (z : Placed) → by_order absent x c ≡ found z → (x ≡ z) × (c ≡ Equal)
  order_found x Less z e = absurd (link_found x.header.left.0 z e)
  order_found x Equal z e = (cc, refl)
  order_found x Greater z e = absurd (link_found x.header.right.0 z e)

-- an entry's name is the one sought
abbrev pub Named : List ℕ → List ℕ → Placed → Type 0
Named w name x = sought_order name (name_of w x.place x.header.name_len) ≡ Equal

module _ (absent w : List ℕ) (first : Sector) (t : Region) (name : List ℕ) where
  read_found : (r : Told (Option Placed)) (z : Placed) → by_read absent w name r ≡ found z → (r ≡ gives (some z)) × Named w name z
  read_found (gives (some x)) z e =
      let f = order_found absent x (sought_order name (name_of w x.place x.header.name_len)) z e in
      (ap (λ (y : Placed). gives (some y)) f.0, subst (λ (y : Placed). Named w name y) f.0 f.1)
  read_found (gives none) z e = let q : ◌≡◌ {A = ℕ} 0 1 = cc in absurd (omega arith)
  read_found (refuses k vs) z e = let q : ◌≡◌ {A = ℕ} 0 1 = cc in absurd (omega arith)

  step_found : (o : ℕ) (z : Placed) → step_at absent w first t name o ≡ found z → (read_at w first t o ≡ gives (some z)) × Named w name z
  unfolding step_at
  step_found o z e = read_found (read_at w first t o) z e

  other_than_2 : (b : Bool) (x y : Told Finding) → pick b (refuses 2 []) x ≡ y → (number_of y ≡ 2 → ⊥) → b ≡ false
  other_than_2 true x y e f = absurd (f (ap number_of (sym e)))
  other_than_2 false x y e f = refl

  -- a name that is not answered 2 can be sought
  pub let_through : (y : Told Finding) → lookup_by absent w first t name ≡ y → (number_of y ≡ 2 → ⊥) → bad_sought name ≡ false
  unfolding lookup_by
  let_through y e f = other_than_2 (bad_sought name) _ y e f

  given_by_chain : (a b : Bool) (r : Told Finding) (x : Finding) → pick a (refuses 2 []) (pick b (refuses 21 []) r) ≡ gives x → r ≡ gives x
  given_by_chain true b r x e = let z : ◌≡◌ {A = ℕ} 0 1 = cc in absurd (omega arith)
  given_by_chain false true r x e = let z : ◌≡◌ {A = ℕ} 0 1 = cc in absurd (omega arith)
  given_by_chain false false r x e = e

  -- an entry that is given stands at its offset, and its name is the one sought
  pub found_stands : (x : Finding) → lookup_by absent w first t name ≡ gives x → (read_at w first t x.offset ≡ gives (some x.entry)) × Named w name x.entry
  unfolding lookup_by
  found_stands x e =
      let f : ℕ → Leads = step_at absent w first t name in
      step_found x.offset x.entry
      (chains.chain_found f most 0 0 x (given_by_chain (bad_sought name) (eqb t.size 0) (chain_from f most 0 0) x e))

  read_reads : (o : ℕ) (r : Told (Option Placed)) → read_at w first t o ≡ r → chains.Reading (by_read absent w name r)
  read_reads o (gives (some x)) d c vs e = order_reads absent x (sought_order name (name_of w x.place x.header.name_len)) c vs e
  read_reads o (gives none) d c vs e = let z : ◌≡◌ {A = ℕ} 0 1 = cc in absurd (omega arith)
  read_reads o (refuses k us) d c vs e =
      let q : k ≡ c = cc in
      let f = refusal_is w first t o k us d in
      (omega (arith, f.0), omega (arith, f.1))

  pub step_reads : (o : ℕ) → chains.Reading (step_at absent w first t name o)
  unfolding step_at
  step_reads o = read_reads o (read_at w first t o) refl

  read_linked : Bytes w → (o p : ℕ) (r : Told (Option Placed)) → read_at w first t o ≡ r → by_read absent w name r ≡ onward p → chains.Linked most p
  read_linked bytes o p (gives (some x)) d e =
      order_linked absent x (sought_order name (name_of w x.place x.header.name_len)) p (left_fits w first t o bytes x d) (right_fits w first t o bytes x d) e
  read_linked bytes o p (gives none) d e = let z : ◌≡◌ {A = ℕ} 0 1 = cc in absurd (omega arith)
  read_linked bytes o p (refuses k vs) d e = let z : ◌≡◌ {A = ℕ} 0 1 = cc in absurd (omega arith)

  step_linked : Bytes w → (o p : ℕ) → step_at absent w first t name o ≡ onward p → chains.Linked most p
  unfolding step_at
  step_linked bytes o p e = read_linked bytes o p (read_at w first t o) refl e

  looped_by_chain : (a b : Bool) (x : Told Finding) → pick a (refuses 2 []) (pick b (refuses 21 []) x) ≡ refuses 25 [] → x ≡ refuses 25 []
  looped_by_chain true b x e = let z : ◌≡◌ {A = ℕ} 2 25 = cc in absurd (omega arith)
  looped_by_chain false true x e = let z : ◌≡◌ {A = ℕ} 21 25 = cc in absurd (omega arith)
  looped_by_chain false false x e = e

  chain_looped : lookup_by absent w first t name ≡ refuses 25 [] → chain_from (step_at absent w first t name) most 0 0 ≡ refuses 25 []
  unfolding lookup_by
  chain_looped e = looped_by_chain (bad_sought name) (eqb t.size 0) (chain_from (step_at absent w first t name) most 0 0) e

  chain_again : Bytes w → chain_from (step_at absent w first t name) most 0 0 ≡ refuses 25 [] → ReadsAgain (step_at absent w first t name) 0
  chain_again bytes e = chains.refused_again (step_at absent w first t name) step_reads most 0 (step_linked bytes) (0, omega arith, refl) e

  -- a chain that reads an offset again never ends
  pub again_endless : ReadsAgain (step_at absent w first t name) 0 → Endless (step_at absent w first t name) 0
  again_endless r = chains.again_endless (step_at absent w first t name) 0 r

  -- a chain that never ends reads an offset again
  pub endless_again : Bytes w → Endless (step_at absent w first t name) 0 → ReadsAgain (step_at absent w first t name) 0
  endless_again bytes e = chain_again bytes (chains.endless_refused (step_at absent w first t name) 0 e most 0)

  -- where 25 is answered, the chain reads an offset again
  pub looped_again : Bytes w → lookup_by absent w first t name ≡ refuses 25 [] → ReadsAgain (step_at absent w first t name) 0
  looped_again bytes e = chain_again bytes (chain_looped e)

  -- where 25 is answered, the chain never ends
  pub looped_endless : Bytes w → lookup_by absent w first t name ≡ refuses 25 [] → Endless (step_at absent w first t name) 0
  looped_endless bytes e = again_endless (looped_again bytes e)

  -- a chain that never ends is answered 25, once the name and the size are let through
  pub endless_looped : bad_sought name ≡ false → (t.size ≡ 0 → ⊥) → Endless (step_at absent w first t name) 0 → lookup_by absent w first t name ≡ refuses 25 []
  unfolding lookup_by
  endless_looped low some_size e = rw (low, ne_eqb _ _ some_size) (chains.endless_refused (step_at absent w first t name) 0 e most 0)

  -- and so is a chain that reads an offset again
  pub again_looped : bad_sought name ≡ false → (t.size ≡ 0 → ⊥) → ReadsAgain (step_at absent w first t name) 0 → lookup_by absent w first t name ≡ refuses 25 []
  again_looped low some_size r = endless_looped low some_size (again_endless r)

  count_by_chain : (a b : Bool) (x : Told Finding) (n : ℕ) → count_of (pick a (refuses 2 []) (pick b (refuses 21 []) x)) ≡ some n → count_of x ≡ some n
  count_by_chain true b x n e = let z : ◌≡◌ {A = ℕ} 0 1 = cc in absurd (omega arith)
  count_by_chain false true x n e = let z : ◌≡◌ {A = ℕ} 0 1 = cc in absurd (omega arith)
  count_by_chain false false x n e = e

  -- the count that an answer carries is the length of the chain
  pub count_is_length : (n : ℕ) → count_of (lookup_by absent w first t name) ≡ some n → LengthIs (step_at absent w first t name) 0 n
  unfolding lookup_by
  count_is_length n e =
      chains.chain_count (step_at absent w first t name) step_reads most n 0 (count_by_chain (bad_sought name) (eqb t.size 0) (chain_from (step_at absent w first t name) most 0 0) n e)
