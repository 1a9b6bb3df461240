-- The bytes of items one after another, cut at a node: the gap, the entry, the left tree's bytes, the right tree's. Their lengths. Assumes nothing.
use Rattle.std.proofs.Common.{ℕ, ◌+◌, ◌-◌, ◌≤◌, ◌≡◌, refl, ap, ◌∙◌, List, [], ◌∷◌, ◌++◌, append_assoc, arith, length, replicate, length-append}
use Rattle.std.proofs.Math.ListN.{length-replicate}
use Rattle.layout_node.proofs.RoundTrip.{header_length}
use Rattle.dirtab_entry.specs.Entry.{rounded}
use Rattle.avl_model.specs.Tree.{Tree, leaf, node}
use Rattle.avl_model.specs.Laws.{All}
use Rattle.table_model.specs.Entry.{Entry, Item, length_of, entry_bytes}
use Rattle.table_model.specs.Place.{start_of, stop_of, end_of, free_after, free_of, item_of, items}
use Rattle.table_model.specs.Table.{stop, bytes_from, size_of, table_bytes}
use Rattle.table_model.specs.inner.Writing.{end_over}
use Rattle.table_model.proofs.Places.{FitsAt, start_at}

-- an entry has as many bytes as its length says
pub entry_length : (x : Item) → length (entry_bytes x) ≡ length_of x.entry
unfolding entry_bytes
entry_length x = simp (length-append, length-replicate, header_length) (omega arith)

pub end_over_lem : (e : ℕ) (xs ys : List Item) → end_over e (xs ++ ys) ≡ end_over (end_over e xs) ys
end_over_lem e [] ys = refl
end_over_lem e (x ∷ xs) ys = end_over_lem (stop x) xs ys

pub bytes_over : (e : ℕ) (xs ys : List Item) → bytes_from e (xs ++ ys) ≡ bytes_from e xs ++ bytes_from (end_over e xs) ys
unfolding bytes_from
bytes_over e [] ys = refl
bytes_over e (x ∷ xs) ys = rw (bytes_over (stop x) xs ys) (simp append_assoc)

-- the end is within the reported size (and is it, but for an empty table)
pub end_size : (entry : ℕ → Entry) (t : Tree) → end_of entry 0 t ≤ size_of entry t
unfolding end_of
end_size entry leaf = omega arith
end_size entry (node l i r) = omega arith

module _ (entry : ℕ → Entry) (align : ℕ) where
  pub end_items : (t : Tree) (e s : ℕ) → end_over e (items entry align e s t) ≡ end_of entry e t
  unfolding end_of items
  end_items leaf e s = refl
  end_items (node l i r) e s =
      let e₁ : ℕ = stop_of entry e i in
      let s₁ : ℕ = free_after entry align s i in
      end_over_lem e₁ (items entry align e₁ s₁ l) (items entry align (end_of entry e₁ l) (free_of entry align s₁ l) r)
      ∙ rw (end_items l e₁ s₁) (end_items r (end_of entry e₁ l) (free_of entry align s₁ l))

  -- the bytes of a tree's entries after what ends at e
  abbrev pub tree_bytes : ℕ → ℕ → Tree → List ℕ
  tree_bytes e s t = bytes_from e (items entry align e s t)

  -- THE CUT AT A NODE
  pub tree_bytes_lem : (l : Tree) (i : ℕ) (r : Tree) (e s : ℕ)
      → tree_bytes e s (node l i r)
      ≡ replicate (start_of entry e i - e) 255 ++ (entry_bytes (item_of entry align e s l i r)
      ++ (tree_bytes (stop_of entry e i) (free_after entry align s i) l
      ++ tree_bytes (end_of entry (stop_of entry e i) l) (free_of entry align (free_after entry align s i) l) r))
  unfolding bytes_from items
  tree_bytes_lem l i r e s =
      let e₁ : ℕ = stop_of entry e i in
      let s₁ : ℕ = free_after entry align s i in
      ap (λ (z : List ℕ). replicate (start_of entry e i - e) 255 ++ (entry_bytes (item_of entry align e s l i r) ++ z))
      (bytes_over e₁ (items entry align e₁ s₁ l) (items entry align (end_of entry e₁ l) (free_of entry align s₁ l) r)
      ∙ ap (λ (k : ℕ). tree_bytes e₁ s₁ l ++ bytes_from k (items entry align (end_of entry e₁ l) (free_of entry align s₁ l) r)) (end_items l e₁ s₁))

  -- a tree's bytes are as many as its end says
  pub tree_length : (t : Tree) (e s : ℕ) → All (FitsAt entry) t → e + length (tree_bytes e s t) ≡ end_of entry e t
  unfolding end_of bytes_from items
  tree_length leaf e s f = omega arith
  tree_length (node l i r) e s f =
      let e₁ : ℕ = stop_of entry e i in
      let s₁ : ℕ = free_after entry align s i in
      let a = (start_at entry e i f.0).after in
      let p = tree_length l e₁ s₁ f.1 in
      let q = tree_length r (end_of entry e₁ l) (free_of entry align s₁ l) f.2 in
      ap (λ (z : List ℕ). e + length z) (tree_bytes_lem l i r e s)
      ∙ simp (length-append, length-replicate, entry_length) (omega arith)

  -- the table's bytes are the size rounded
  pub table_length : (t : Tree) (s : ℕ) → All (FitsAt entry) t → length (table_bytes entry align s t) ≡ rounded (size_of entry t)
  unfolding table_bytes
  table_length t s f =
      let p = tree_length t 0 s f in
      let q = end_size entry t in
      simp (length-append, length-replicate) (omega arith)
