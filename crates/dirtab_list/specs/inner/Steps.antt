-- What the steps of writing a whole list take of one another. Assumes nothing.
use Rattle.std.specs.Prelude.{ℕ, ◌≡◌, List, length}
use Rattle.units.specs.Told.{Told}
use Rattle.table_model.specs.Table.{Placing, place_of, table_bytes}
use Rattle.dirtab.specs.Serialise.{if_fits, if_written}
use Rattle.dirtab_grow.specs.Listing.{Listing, given_in}
use Rattle.dirtab_grow.specs.Grow.{grow}
use Rattle.dirtab_list.specs.declared.ListScratch.{ListScratch}
use Rattle.dirtab_list.specs.Whole.{entry_in, if_grown, table_for}

-- b has columns of the same lengths as a
pub record KeepsLengths (a b : ListScratch) : Type 0 where
  pub left : length b.left.now ≡ length a.left.now
  pub right : length b.right.now ≡ length a.right.now
  pub parent : length b.parent.now ≡ length a.parent.now
  pub height : length b.height.now ≡ length a.height.now
  pub key : length b.key.now ≡ length a.key.now
  pub order : length b.order.now ≡ length a.order.now
  pub place : length b.place.now ≡ length a.place.now

-- the answer, and the output, where every column is long enough
unfoldable pub answer_of : Listing → ℕ → ℕ → Told Placing
answer_of L s bytes = if_grown (grow L.bytes (given_in L) L.count) (λ t. if_fits bytes (place_of (entry_in L) 1 s t))

unfoldable pub output_of : Listing → ℕ → List ℕ → List ℕ
output_of L s out = if_written (answer_of L s (length out))
    (table_for (grow L.bytes (given_in L) L.count) (λ t. table_bytes (entry_in L) 1 s t)) out
