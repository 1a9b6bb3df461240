-- What is asked of an entry by itself, where its name is one that is spoken of: what is left is the size. Assumes nothing.
use Prim.Native.Nat.{ℕ, suc, ◌+◌, ◌≤◌, ◌<◌}
use native.Mathlib.Omega.{arith}
use mathlib.Core.Path.{◌≡◌, refl, ◌∙◌}
use mathlib.Core.Bool.{false}
use mathlib.Core.List.{List, [], ◌∷◌}
use lib.ListN.{length, get_or, take, drop, length-take, length-drop}
use lib.Seq.{get_or-take, get_or-drop}
use borrow.Author.Tests.{ne_eqb, le-ltb}
use Rattle.name_role.proofs.Roles.{stored-length}
use Rattle.dirtab_entry.specs.declared.Entry.{Entry}
use Rattle.dirtab_entry.specs.declared.Kind.{Kind}
use Rattle.dirtab_entry.specs.Entry.{any_bad, name_in, check_size, check_of}
use Rattle.dirtab_entry.proofs.Storable.{good_storable}
use Rattle.avl_model.specs.Names.{names_in, name_at}
use Rattle.table_model.specs.Entry.{entry_with}
use Rattle.agree_causes.specs.Lists.{Fair}

-- bytes from 1 to 127 are none of them bad
none_bad : (xs : List ℕ) → ((k : ℕ) → k < length xs → (1 ≤ get_or xs k 0) × (get_or xs k 0 ≤ 127)) → any_bad xs ≡ false
unfolding any_bad
none_bad [] h = refl
none_bad (x ∷ xs) h =
    let a = h 0 (omega arith) in
    rw (ne_eqb x 0 (λ e. omega arith), le-ltb 127 x a.1) (none_bad xs (λ k l. h (suc k) (omega arith)))

module _ (n : ℕ) (start len bytes : List ℕ) (f : Fair n start len bytes) (i : ℕ) (h : i < n) where
  name_long : length (name_at (names_in bytes start len) i) ≡ get_or len i 0
  name_long = let a = f.inside i h in simp (length-take, length-drop) (omega arith)

  name_good : any_bad (name_at (names_in bytes start len) i) ≡ false
  name_good = none_bad (name_at (names_in bytes start len) i) (λ k l.
      let j : k < get_or len i 0 = omega (arith, name_long) in
      let e : get_or (name_at (names_in bytes start len) i) k 0 ≡ get_or bytes (get_or start i 0 + k) 0 =
      get_or-take (get_or len i 0) (drop (get_or start i 0) bytes) k 0 j ∙ get_or-drop (get_or start i 0) bytes k 0 in
      let a = f.ascii i k h j in
      (omega arith, omega arith))

  -- what a table has of it is at most 255 bytes
  pub name_short : (kind : Kind) (size : ℕ) → length (entry_with (name_at (names_in bytes start len) i) kind size).name ≤ 255
  name_short kind size =
      omega (arith, name_long, f.short i h, stored-length (name_at (names_in bytes start len) i) (good_storable (name_at (names_in bytes start len) i) name_good))

  -- only 5 is left
  pub size_left : (e : Entry) → e.start ≡ get_or start i 0 → e.len ≡ get_or len i 0
      → check_of bytes e ≡ check_size e
  unfolding check_of
  size_left e p q =
      let some = f.some i h in
      let short = f.short i h in
      let inside = f.inside i h in
      let good : any_bad (name_in bytes e) ≡ false = (λ k. any_bad (take (q k) (drop (p k) bytes))) ∙ name_good in
      simp (ne_eqb e.len 0 (λ z. omega arith), le-ltb (length bytes) (e.start + e.len) (omega arith), good, le-ltb 255 e.len (omega arith))
