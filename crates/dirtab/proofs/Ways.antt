-- The ways out of `serialise`: what the two tests and the steps answered is the answer. Assumes nothing.
use Rattle.std.proofs.Common.{ℕ, ◌≤◌, ◌≡◌, min, true, false, sym, ap, subst₂, ◌∙◌, List, [], Result, Ok, Err, IsErrAnd, leb, length, replicate, leb-true, arith}
use Rattle.units.specs.Told.{Told, refuses}
use Rattle.avl_model.specs.declared.Branches.{Branches}
use Rattle.avl_model.specs.Lent as lent
use Rattle.avl_model.specs.Tree.{Tree}
use Rattle.dirtab_entry.specs.declared.Entries.{Entries}
use Rattle.table_model.specs.Table.{Placing, table_bytes}
use Rattle.dirtab_arena.specs.declared.Arena.{Arena as LentArena}
use Rattle.dirtab_arena.specs.Arena.{Arena, names_of, entry_at, is_arena, tree_of}
use Rattle.dirtab_arena.specs.Lent.{arena_of}
use Rattle.dirtab_write.specs.inner.Columns.{Cols, cols, entry_by}
use Rattle.dirtab_held.specs.inner.Held.{cols_in, Rooted}
use Rattle.dirtab_held.proofs.FromArena.{cols_at, rooted}
use Rattle.dirtab.specs.declared.Written.{Written}
use Rattle.dirtab.specs.declared.WriteError.{WriteError}
use Rattle.dirtab.specs.declared.SerialiseError.{SerialiseError}
use Rattle.dirtab.specs.declared.SerialiseError.TheVariants as serialising
use Rattle.dirtab.specs.Serialise.{scratch_fits, if_written, serialise_of, out_after, scratch_after, told_write, told}
use Rattle.dirtab.specs.Serialise as serialise
use Rattle.dirtab.specs.inner.Steps.{writing_of, writing_out}
use Rattle.dirtab.proofs.Laws.{first_12, then_6, placing, out_refused}

-- all that was lent, from each part
pub join : {a b c x y z : List ℕ} → a ≡ x → b ≡ y → c ≡ z → serialise.lent a b c ≡ serialise.lent x y z
join p q r i = serialise.lent (p i) (q i) (r i)

module _ (A : Arena) (s n : ℕ) where
  -- no arena
  pub bad_answer : is_arena A ≡ false → (bytes : ℕ) → refuses 12 [] ≡ serialise_of A s n bytes
  bad_answer is bytes = sym (first_12 A s n bytes is)

  pub bad_out : is_arena A ≡ false → (out : List ℕ) → out ≡ out_after A s n out
  bad_out is out = sym (out_refused A s n out 12 [] (first_12 A s n (length out) is))

  -- a column of scratch is too short: all is unchanged
  module _ (short : scratch_fits A n ≡ false) where
    pub short_answer : is_arena A ≡ true → (bytes : ℕ) → refuses 6 [] ≡ serialise_of A s n bytes
    short_answer is bytes = sym (then_6 A s n bytes is short)

    pub short_out : is_arena A ≡ true → (out : List ℕ) → out ≡ out_after A s n out
    short_out is out = sym (out_refused A s n out 6 [] (then_6 A s n (length out) is short))

    pub short_scratch : (xs : List ℕ) → xs ≡ scratch_after A n xs
    unfolding scratch_after
    short_scratch xs = rw short

  module _ (room : scratch_fits A n ≡ true) where
    -- a cleared column
    pub cleared : (xs zs : List ℕ) (long : ℕ) → long ≡ length xs → zs ≡ replicate long 0 → zs ≡ scratch_after A n xs
    unfolding scratch_after
    cleared xs zs long e q = q ∙ rw (room, e)

    -- an arena: what was written
    module _ (is : is_arena A ≡ true) where
      pub held_answer : (bytes : ℕ) → writing_of (entry_at A) s (tree_of A) bytes ≡ serialise_of A s n bytes
      held_answer bytes = sym (placing A s n bytes is room)

      pub held_out : (out : List ℕ) → writing_out (entry_at A) s (tree_of A) out ≡ out_after A s n out
      unfolding out_after
      held_out out = ap (λ x. if_written x (table_bytes (entry_at A) 1 s (tree_of A)) out) (held_answer (length out))

-- what an arena lends: its branches and its entries are its columns
pub cols_is : (A : LentArena) (b : Branches) (e : Entries) → b.left.now ≡ A.columns.left.now → b.right.now ≡ A.columns.right.now
    → lent.names_of e.names ≡ names_of (arena_of A) → e.size.now ≡ A.columns.size.now → e.kind.now ≡ A.columns.kind.now → cols_in b e ≡ cols_at (arena_of A)
cols_is A b e l r n z k = λ q. cols (l q) (r q) [] (n q).start (n q).len (z q) (k q) (n q).bytes

-- an arena whose columns are lent as branches and entries: what writing them answers and leaves
module _ (A : Arena) (s n : ℕ) (room : scratch_fits A n ≡ true) (is : is_arena A ≡ true) (c : Cols) (root : ℕ) (ec : c ≡ cols_at A) (er : root ≡ A.root)
    (small : A.count ≤ 65535) where
  pub held : Rooted c root A.count (tree_of A)
  held = subst₂ (λ (d : Cols) (r : ℕ). Rooted d r A.count (tree_of A)) (sym ec) (sym er) (rooted A is small)

  pub wrote : (r : Told Placing) (bytes : ℕ) → ((t : Tree) → Rooted c root A.count t → r ≡ writing_of (entry_by c) s t bytes) → r ≡ serialise_of A s n bytes
  wrote r bytes f = f (tree_of A) held ∙ ap (λ (d : Cols). writing_of (entry_by d) s (tree_of A) bytes) ec ∙ held_answer A s n room is bytes

  pub wrote_out : (out out₁ : List ℕ) → ((t : Tree) → Rooted c root A.count t → out₁ ≡ writing_out (entry_by c) s t out) → out₁ ≡ out_after A s n out
  wrote_out out out₁ f = f (tree_of A) held ∙ ap (λ (d : Cols). writing_out (entry_by d) s (tree_of A) out) ec ∙ held_out A s n room is out

-- what is told of a refusal of writing
pub told_of : (r : Result Written SerialiseError) (x : WriteError) → IsErrAnd r (λ e. e ≡ serialising.Write x) → told r ≡ told_write (Err x)
told_of (Ok w) x h = absurd h
told_of (Err e) x h = ap (λ (y : SerialiseError). told (Err y)) h

-- both columns of the scratch have a place for each node
pub both_fit : (count n m : ℕ) → leb count (min n m) ≡ true → (count ≤ n) × (count ≤ m)
both_fit count n m h = let q : count ≤ min n m = leb-true count (min n m) h in (omega arith, omega arith)
