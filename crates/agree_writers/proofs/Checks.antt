-- What an entry that adding takes is like, and an output that a table fits. Assumes nothing.
use Prim.Native.Nat.{ℕ, ◌≤◌}
use mathlib.Core.Path.{◌≡◌, sym, ◌∙◌}
use mathlib.Core.Bool.{Bool, true, false}
use mathlib.Core.List.{List, []}
use native.Mathlib.Omega.{arith}
use lib.Dec.{leb}
use Rattle.units.specs.Told.{Told, gives, refuses, pick}
use Rattle.dirtab_entry.specs.declared.Entry.{Entry}
use Rattle.dirtab_entry.specs.Entry.{rounded, stored_size, check_of}
use Rattle.dirtab_entry.proofs.Stored.{stored_low}
use Rattle.dirtab_arena.proofs.Fine.{fine_of}
use Rattle.table_model.specs.Table.{Placing}

module _ (bytes : List ℕ) (e : Entry) (taken : check_of bytes e ≡ gives tt) where
  -- its size fits as it is stored
  pub size_small : e.size ≤ 4294967295 → stored_size e.kind e.size ≤ 4294967295
  size_small h = stored_low e.kind e.size h (fine_of bytes e taken).small

-- what fits an output was placed: a given placing goes on where its rounded size fits, and is 9 where it does not
pub fits_gives : (if-fits : ℕ → Told Placing → Told Placing) → ((n : ℕ) (q : Placing) → if-fits n (gives q) ≡ pick (leb (rounded q.size) n) (gives q) (refuses 9 []))
    → ((n k : ℕ) (vs : List ℕ) → if-fits n (refuses k vs) ≡ refuses k vs) → (n : ℕ) (a : Told Placing) (p : Placing) → if-fits n a ≡ gives p → a ≡ gives p
fits_gives if-fits f g n (gives q) p e = go (leb (rounded q.size) n) (sym (f n q) ∙ e)
  where
    go : (b : Bool) → pick b (gives q) (refuses 9 []) ≡ gives p → gives q ≡ gives p
    go true h = h
    go false h = let z : ◌≡◌ {A = ℕ} 0 1 = cc in absurd (omega arith)
fits_gives if-fits f g n (refuses k vs) p e = let h : refuses k vs ≡ gives p = sym (g n k vs) ∙ e in let z : ◌≡◌ {A = ℕ} 0 1 = cc in absurd (omega arith)
