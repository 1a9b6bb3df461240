-- Whether every column is long enough. Assumes nothing.
use Rattle.std.proofs.Common.{ℕ, min, arith, ◌≡◌, sym, ap, ◌∙◌, Bool, true, false, List, [], length, replicate}
use Rattle.units.specs.Told.{Told, refuses, pick}
use Rattle.table_model.specs.Table.{Placing, place_of, table_bytes}
use Rattle.dirtab.specs.Serialise.{if_fits, if_written}
use Rattle.dirtab_grow.specs.Listing.{Listing, given_in}
use Rattle.dirtab_grow.specs.Grow.{grow}
use Rattle.dirtab_list.specs.Whole.{entry_in, if_grown, table_for, has_places, whole_of, out_after, scratch_after, Lent, lent, places_in, lent_after}
use Rattle.dirtab_list.specs.inner.Steps.{answer_of, output_of}

pub min_assoc : (a b c : ℕ) → min (min a b) c ≡ min a (min b c)
min_assoc a b c = omega arith

-- the answers by whether the columns are long enough
module _ (L : Listing) (n : ℕ) where
  pub whole_answer : (s bytes : ℕ) → has_places L n ≡ true → answer_of L s bytes ≡ whole_of L n s bytes
  unfolding answer_of whole_of
  whole_answer s bytes e = ap (λ (b : Bool). pick b (answer_of L s bytes) (refuses 6 [])) (sym e)

  pub whole_out : (s : ℕ) (out : List ℕ) → has_places L n ≡ true → output_of L s out ≡ out_after L n s out
  unfolding output_of out_after
  whole_out s out e = ap (λ (x : Told Placing). if_written x (table_for (grow L.bytes (given_in L) L.count) (λ t. table_bytes (entry_in L) 1 s t)) out) (whole_answer s (length out) e)

  pub scratch_clear : (xs ys : List ℕ) → has_places L n ≡ true → length ys ≡ length xs → replicate (length ys) 0 ≡ scratch_after L n xs
  unfolding scratch_after
  scratch_clear xs ys e f = ap (λ (m : ℕ). replicate m 0) f ∙ ap (λ (b : Bool). pick b (replicate (length xs) 0) xs) (sym e)

  -- too short
  pub short_answer : (s bytes : ℕ) → has_places L n ≡ false → refuses 6 [] ≡ whole_of L n s bytes
  unfolding whole_of
  short_answer s bytes e = ap (λ (b : Bool). pick b (if_grown (grow L.bytes (given_in L) L.count) (λ t. if_fits bytes (place_of (entry_in L) 1 s t))) (refuses 6 [])) (sym e)

  pub short_out : (s : ℕ) (out : List ℕ) → has_places L n ≡ false → out ≡ out_after L n s out
  unfolding out_after
  short_out s out e = ap (λ (x : Told Placing). if_written x (table_for (grow L.bytes (given_in L) L.count) (λ t. table_bytes (entry_in L) 1 s t)) out) (short_answer s (length out) e)

  pub short_scratch : (xs : List ℕ) → has_places L n ≡ false → xs ≡ scratch_after L n xs
  unfolding scratch_after
  short_scratch xs e = ap (λ (b : Bool). pick b (replicate (length xs) 0) xs) (sym e)

-- all that was lent, from each part
pub join : {l r p h k o q z l' r' p' h' k' o' q' z' : List ℕ} → l ≡ l' → r ≡ r' → p ≡ p' → h ≡ h' → k ≡ k' → o ≡ o' → q ≡ q' → z ≡ z'
    → lent l r p h k o q z ≡ lent l' r' p' h' k' o' q' z'
join l r p h k o q z i = lent (l i) (r i) (p i) (h i) (k i) (o i) (q i) (z i)

-- all of it where a column is too short
pub short_lent : (L : Listing) (s : ℕ) (m : Lent) → has_places L (places_in m) ≡ false → m ≡ lent_after L s m
short_lent L s m e =
    let n = places_in m in
    join
    (short_scratch L n m.left e)
    (short_scratch L n m.right e)
    (short_scratch L n m.parent e)
    (short_scratch L n m.height e)
    (short_scratch L n m.key e)
    (short_scratch L n m.order e)
    (short_scratch L n m.place e)
    (short_out L n s m.out e)
