-- The laws of names by role. What is above cites them, and does not look inside the definitions. Assumes nothing.
--     Compared, given_compared, stored_compared, sought_compared     what comparing two names as bytes tells, in each role
--     given_opposite, given_trans, given_equal, given_equal→, given_listed, given_at_lem     given names
--     stored_opposite, stored_trans                                  stored names
--     sought_equal, sought_equal→, sought_then                       a name that is sought, and stored ones
--     given_stored, sought_given, stored-length                      between roles, of names that can be stored
--     stored_is                                                      what a writer that copies a given name's bytes stores
--     none_good, storable_good, slash_good                           names that can be sought
use Rattle.std.proofs.Common.{ℕ, ◌≤◌, ◌≡◌, refl, ap, ◌∙◌, Bool, true, false, List, [], ◌∷◌, ◌++◌, arith, ltb, length, get_or}
use Rattle.std.proofs.Math.ListN.{get_or-map}
use Rattle.units.specs.Told.{pick}
use Rattle.std.specs.declared.cmp.Ordering.{Ordering}
use Rattle.std.specs.declared.cmp.Ordering.TheVariants.{Less, Equal}
use Rattle.layout_name.specs.Order.{list_order, order_by, raised, name_order}
use Rattle.layout_name.specs.inner.Order.{opposite}
use Rattle.layout_name.proofs.Laws.{order_opposite, order_equal, order_equal→, order_trans}
use Rattle.name_role.specs.Roles.{given_keys, stored_keys, sought_keys, stored_of, given_order, stored_order, sought_order, bad_sought}
use Rattle.name_role.proofs.Storable.{is_storable}

-- ---- what comparing tells

-- what `layout_name::compare` promises of its answer to two names
abbrev pub Compared : Ordering → List ℕ → List ℕ → Type 0
Compared r a b = r ≡ name_order a b

-- of two given names
pub given_compared : (a b : List ℕ) {r : Ordering} → Compared r a b → r ≡ given_order a b
unfolding name_order order_by given_order given_keys
given_compared a b e = e

-- of two stored names
pub stored_compared : (a b : List ℕ) {r : Ordering} → Compared r a b → r ≡ stored_order a b
unfolding name_order order_by stored_order stored_keys
stored_compared a b e = e

-- of a name that is sought and a stored one
pub sought_compared : (a b : List ℕ) {r : Ordering} → Compared r a b → r ≡ sought_order a b
unfolding name_order order_by sought_order sought_keys stored_keys
sought_compared a b e = e

-- ---- given names

pub given_opposite : (a b : List ℕ) → given_order b a ≡ opposite (given_order a b)
unfolding given_order
given_opposite a b = order_opposite (given_keys a) (given_keys b)

pub given_trans : (a b c : List ℕ) → given_order a b ≡ Less → given_order b c ≡ Less → given_order a c ≡ Less
unfolding given_order
given_trans a b c = order_trans (given_keys a) (given_keys b) (given_keys c)

-- equal exactly where the keys are
pub given_equal : (a b : List ℕ) → given_keys a ≡ given_keys b → given_order a b ≡ Equal
unfolding given_order
given_equal a b e = rw e (order_equal (given_keys b))

pub given_equal→ : (a b : List ℕ) → given_order a b ≡ Equal → given_keys a ≡ given_keys b
unfolding given_order
given_equal→ a b = order_equal→ (given_keys a) (given_keys b)

-- the order is that of the keys
pub given_listed : (a b : List ℕ) → given_order a b ≡ list_order (given_keys a) (given_keys b)
unfolding given_order
given_listed a b = refl

-- the key at a place, which is 0 past the name
pub given_at_lem : (a : List ℕ) (i : ℕ) → get_or (given_keys a) i 0 ≡ raised (get_or a i 0)
unfolding given_keys raised
given_at_lem a i = get_or-map raised a i 0

-- ---- stored names

pub stored_opposite : (a b : List ℕ) → stored_order b a ≡ opposite (stored_order a b)
unfolding stored_order
stored_opposite a b = order_opposite (stored_keys a) (stored_keys b)

pub stored_trans : (a b c : List ℕ) → stored_order a b ≡ Less → stored_order b c ≡ Less → stored_order a c ≡ Less
unfolding stored_order
stored_trans a b c = order_trans (stored_keys a) (stored_keys b) (stored_keys c)

-- ---- a name that is sought

-- equal exactly where the keys are
pub sought_equal : (s b : List ℕ) → sought_keys s ≡ stored_keys b → sought_order s b ≡ Equal
unfolding sought_order
sought_equal s b e = rw e (order_equal (stored_keys b))

pub sought_equal→ : (s b : List ℕ) → sought_order s b ≡ Equal → sought_keys s ≡ stored_keys b
unfolding sought_order
sought_equal→ s b = order_equal→ (sought_keys s) (stored_keys b)

-- a name that is sought stands to each stored name as the one that it is equal to
pub sought_then : (s a b : List ℕ) → sought_order s a ≡ Equal → sought_order s b ≡ stored_order a b
unfolding stored_order sought_order
sought_then s a b e = ap (λ (k : List ℕ). list_order k (stored_keys b)) (sought_equal→ s a e)

-- ---- between roles

-- stored names stand as the given names that they are of
pub given_stored : (a b : List ℕ) → is_storable a ≡ true → is_storable b ≡ true → given_order a b ≡ stored_order (stored_of a) (stored_of b)
unfolding given_order stored_order given_keys stored_keys stored_of
given_stored a b h k = refl

-- a given name that is sought is equal to itself as it is stored
pub sought_given : (g : List ℕ) → is_storable g ≡ true → sought_keys g ≡ stored_keys (stored_of g)
unfolding sought_keys stored_keys stored_of
sought_given g h = refl

-- a stored name is no longer than the given one
pub stored-length : (a : List ℕ) → is_storable a ≡ true → length (stored_of a) ≤ length a
unfolding stored_of
stored-length a h = omega arith

-- a writer that copies the bytes of a given name, and counts them, has the stored name and its length
pub stored_is : (a : List ℕ) → stored_of a ≡ a
unfolding stored_of
stored_is a = refl

-- ---- names that can be sought

pub none_good : bad_sought [] ≡ false
unfolding bad_sought
none_good = refl

-- a name that can be stored can be sought
pub storable_good : (a : List ℕ) → is_storable a ≡ true → bad_sought a ≡ false
unfolding is_storable bad_sought
storable_good [] e = refl
storable_good (x ∷ xs) e = go (ltb 127 x) e (storable_good xs)
  where
    go : (b : Bool) → pick b false (is_storable xs) ≡ true → (is_storable xs ≡ true → bad_sought xs ≡ false) → pick b true (bad_sought xs) ≡ false
    go true h ih = let z : ◌≡◌ {A = ℕ} 0 1 = cc in absurd (omega arith)
    go false h ih = ih h

either_true : (b c d : Bool) → pick b true (pick c true d) ≡ pick (pick b true c) true d
either_true true c d = refl
either_true false c d = refl

-- two names joined by a slash (47) are bad exactly where one of them is
pub slash_good : (a b : List ℕ) → bad_sought (a ++ (47 ∷ b)) ≡ pick (bad_sought a) true (bad_sought b)
unfolding bad_sought
slash_good [] b = refl
slash_good (x ∷ a) b = ap (λ (c : Bool). pick (ltb 127 x) true c) (slash_good a b) ∙ either_true (ltb 127 x) (bad_sought a) (bad_sought b)
