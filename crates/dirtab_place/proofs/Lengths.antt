-- The end of entries along an order: step by step, and along a tree's preorder it is the table's. Assumes nothing.
use Rattle.std.proofs.Common.{ℕ, ◌+◌, ◌*◌, ◌≤◌, ◌<◌, ◌≡◌, refl, sym, ap, ◌∙◌, List, [], ◌∷◌, ◌++◌, append_assoc, append-nil, length, get_or, drop, drop_of_length-le, arith}
use Rattle.layout_node.specs.Header.{entry_length}
use Rattle.avl_model.specs.Tree.{Tree, leaf, node}
use Rattle.avl_model.specs.Laws.{All}
use Rattle.avl_model.specs.Order.{order}
use Rattle.table_model.specs.Entry.{Entry}
use Rattle.table_model.specs.Place.{start_after, stop_of, end_of}
use Rattle.table_model.specs.Table.{size_of}
use Rattle.dirtab_place.proofs.Along.{SameLength}
use Rattle.dirtab_place.proofs.Turns.{cut, start_most}
use Rattle.dirtab_place.specs.inner.Places.{end_along, size_along}

pub no_size : (len is : List ℕ) → length is ≡ 0 → 2048 ≡ size_along len is
unfolding size_along
no_size len [] h = refl
no_size len (i ∷ is) h = absurd (omega arith)

some_size : (len is : List ℕ) → (length is ≡ 0 → ⊥) → end_along len 0 is ≡ size_along len is
unfolding size_along
some_size len [] h = absurd (h refl)
some_size len (i ∷ is) h = refl

-- `so_far`: the entries before the k-th end at e
module _ (len is : List ℕ) (e k : ℕ) (so_far : end_along len 0 is ≡ end_along len e (drop k is)) where
  pub end_next : (n o : ℕ) → k < length is → n ≡ entry_length (get_or len (get_or is k 0) 0) → o ≡ start_after e n → end_along len 0 is ≡ end_along len (o + n) (drop (k + 1) is)
  unfolding end_along
  end_next n o h en eo = so_far ∙ rw (cut is k h, eo, en)

  pub end_last : (length is ≡ 0 → ⊥) → length is ≤ k → e ≡ size_along len is
  unfolding end_along
  end_last some h = sym (sym (some_size len is some) ∙ so_far ∙ rw (drop_of_length-le is h))

-- an entry takes less than a sector and its own bytes
pub end_most : (e k n o : ℕ) → e ≤ 2320 * k → n ≤ 272 → o ≡ start_after e n → o + n ≤ 2320 * (k + 1)
end_most e k n o h hn eo = omega (arith, start_most e n o hn eo)

-- `entry` says the entries whose names have the lengths of the column
module _ (entry : ℕ → Entry) (len : List ℕ) where
  end_append : (t : Tree) (e : ℕ) (js : List ℕ) → All (SameLength entry len) t → end_along len e (order t ++ js) ≡ end_along len (end_of entry e t) js
  unfolding end_along end_of
  end_append leaf e js a = refl
  end_append (node l i r) e js a =
      ap (λ (n : ℕ). end_along len (start_after e n + n) ((order l ++ order r) ++ js)) (sym a.0)
      ∙ ap (end_along len (stop_of entry e i)) (append_assoc (order l) (order r) js)
      ∙ end_append l (stop_of entry e i) (order r ++ js) a.1
      ∙ end_append r (end_of entry (stop_of entry e i) l) js a.2

  end_is : (t : Tree) → All (SameLength entry len) t → end_along len 0 (order t) ≡ end_of entry 0 t
  unfolding end_along
  end_is t a = ap (end_along len 0) (sym (append-nil (order t))) ∙ end_append t 0 [] a

  -- along the preorder of a tree the size is the table's
  pub size_along_lem : (t : Tree) → All (SameLength entry len) t → size_along len (order t) ≡ size_of entry t
  unfolding size_along
  size_along_lem leaf a = refl
  size_along_lem (node l i r) a = end_is (node l i r) a

-- what measuring takes of these
pub ruleset measuring = (start_most, no_size, end_next, end_last, end_most)
