-- An entry that passed its checks passed each of them, and a name that is taken can be stored. Assumes nothing.
use Rattle.std.proofs.Common.{ℕ, ◌+◌, ◌≡◌, refl, Bool, true, false, List, [], ◌∷◌, arith, ltb, eqb, length}
use Rattle.units.specs.Told.{Told, gives, refuses, pick}
use Rattle.name_role.proofs.Storable.{is_storable}
use Rattle.dirtab_entry.specs.declared.Entry.{Entry}
use Rattle.dirtab_entry.specs.Entry.{any_bad, name_in, check_name, check_size, if_passed, check_of}

both : (a b : Told (Unit {0})) → if_passed a b ≡ gives tt → (a ≡ gives tt) × (b ≡ gives tt)
both (gives u) b e = (refl, e)
both (refuses k vs) b e = let z : ◌≡◌ {A = ℕ} 0 1 = cc in absurd (omega arith)

-- both checks are passed
pub each_passed : (names : List ℕ) (e : Entry) → check_of names e ≡ gives tt → (check_name names e ≡ gives tt) × (check_size e ≡ gives tt)
unfolding check_of
each_passed names e h = both (check_name names e) (check_size e) h

-- one test of a check is passed, and then the others
pub went_on : (b : Bool) (k : ℕ) (x : Told (Unit {0})) → pick b (refuses k []) x ≡ gives tt → (b ≡ false) × (x ≡ gives tt)
went_on true k x e = let z : ◌≡◌ {A = ℕ} 0 1 = cc in absurd (omega arith)
went_on false k x e = (refl, e)

-- a name without a bad byte can be stored
pub good_storable : (name : List ℕ) → any_bad name ≡ false → is_storable name ≡ true
unfolding any_bad is_storable
good_storable [] e = refl
good_storable (x ∷ xs) e = go (eqb x 0) (ltb 127 x) e (good_storable xs)
  where
    go : (p q : Bool) → pick (pick p true q) true (any_bad xs) ≡ false → (any_bad xs ≡ false → is_storable xs ≡ true) → pick q false (is_storable xs) ≡ true
    go true q h ih = let z : ◌≡◌ {A = ℕ} 0 1 = cc in absurd (omega arith)
    go false true h ih = let z : ◌≡◌ {A = ℕ} 0 1 = cc in absurd (omega arith)
    go false false h ih = ih h

-- A NAME THAT IS TAKEN CAN BE STORED
pub taken_storable : (names : List ℕ) (e : Entry) → check_name names e ≡ gives tt → is_storable (name_in names e) ≡ true
taken_storable names e h =
    let h1 = went_on (eqb e.len 0) 1 _ h in
    let h2 = went_on (ltb (length names) (e.start + e.len)) 2 _ h1.1 in
    let h3 = went_on (any_bad (name_in names e)) 2 _ h2.1 in
    good_storable (name_in names e) h3.0

pub passed_storable : (names : List ℕ) (e : Entry) → check_of names e ≡ gives tt → is_storable (name_in names e) ≡ true
passed_storable names e h = taken_storable names e (each_passed names e h).0
