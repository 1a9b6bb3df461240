-- What the check of an entry says where it takes it, and that it takes every such entry.
use Rattle.std.proofs.Common.{ℕ, ◌+◌, ◌≤◌, arith, ◌≡◌, refl, Bool, true, false, List, length, drop, length-take, ltb, eqb, ltb-false, ne_eqb, le-ltb}
use borrow.Author.Tests.{eqb-false}
use Rattle.units.specs.Told.{gives, pick}
use Rattle.name_role.proofs.Roles.{stored-length}
use Rattle.dirtab_entry.specs.declared.Entry as given
use Rattle.dirtab_entry.specs.Entry.{is_directory, any_bad, name_in, check_of}
use Rattle.dirtab_entry.proofs.Storable.{each_passed, went_on, passed_storable}
use Rattle.table_model.specs.Entry.{entry_for}

-- what the check of an entry says where it takes it
pub record Fine (B : List ℕ) (e : given.Entry) : Type 0 where
  pub some : e.len ≡ 0 → ⊥
  pub inside : e.start + e.len ≤ length B
  pub good : any_bad (name_in B e) ≡ false
  pub short : e.len ≤ 255
  pub small : is_directory e.kind ≡ true → e.size ≤ 4294965248

module _ (B : List ℕ) (e : given.Entry) where
  small_of : (d : Bool) → pick d (ltb 4294965248 e.size) false ≡ false → d ≡ true → e.size ≤ 4294965248
  small_of true h q = ltb-false 4294965248 e.size h
  small_of false h q = let z : ◌≡◌ {A = ℕ} 0 1 = cc in absurd (omega arith)

  pub fine_of : check_of B e ≡ gives tt → Fine B e
  fine_of h =
      let h0 = each_passed B e h in
      let h1 = went_on (eqb e.len 0) 1 _ h0.0 in
      let h2 = went_on (ltb (length B) (e.start + e.len)) 2 _ h1.1 in
      let h3 = went_on (any_bad (name_in B e)) 2 _ h2.1 in
      let h4 = went_on (ltb 255 e.len) 3 _ h3.1 in
      let h5 = went_on (pick (is_directory e.kind) (ltb 4294965248 e.size) false) 5 _ h0.1 in
      record {
        some = eqb-false e.len 0 h1.0;
        inside = ltb-false (length B) (e.start + e.len) h2.0;
        good = h3.0;
        short = ltb-false 255 e.len h4.0;
        small = small_of (is_directory e.kind) h5.0;
      }

  -- what a table has of its name is at most 255 bytes
  pub name_short : check_of B e ≡ gives tt → length (entry_for B e).name ≤ 255
  name_short h =
      let f = (fine_of h).short in
      omega (arith, stored-length (name_in B e) (passed_storable B e h), length-take e.len (drop e.start B))

not_large : (d : Bool) (n : ℕ) → (d ≡ true → n ≤ 4294965248) → pick d (ltb 4294965248 n) false ≡ false
not_large true n h = le-ltb 4294965248 n (h refl)
not_large false n h = refl

-- the check takes what it says to be fine
pub fine_taken : (B : List ℕ) (e : given.Entry) → Fine B e → check_of B e ≡ gives tt
unfolding check_of
fine_taken B e f =
    simp (ne_eqb e.len 0 f.some, le-ltb (length B) (e.start + e.len) f.inside, f.good, le-ltb 255 e.len f.short, not_large (is_directory e.kind) e.size f.small)
