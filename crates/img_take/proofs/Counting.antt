-- Counting the sectors of one table. Assumes nothing.
use Rattle.std.proofs.Common.{ℕ, ◌≤◌, ◌<◌, ◌≡◌, ap, ◌∙◌, List, length, get_or, arith}
use Rattle.units.specs.Told.{Told}
use Rattle.table_model.specs.Place.{free_of}
use Rattle.dirtab_place.specs.inner.Places.{Countable, Sized, free_over}
use Rattle.dirtab_place.proofs.Along.{free_are}
use Rattle.img_model.specs.Shares.{Share}
use Rattle.img_model.specs.Plan.{table_in, size_at, entry_in}
use Rattle.img_table.specs.inner.Arranging.{fitting}
use Rattle.img_take.specs.inner.Forward.{Treed, limited}
use Rattle.img_table.proofs.Measuring.{listed_at}
use Rattle.img_take.proofs.Trees.{all_filled, sized_at, same_all}

-- r is how many sizes were filled into the column `size`
module _ {listed : List ℕ} {S : Share} {sizes : List ℕ} {places : ℕ} (w : Treed listed S sizes places) (size : List ℕ) (r : ℕ)
    (r-is : r ≡ fitting (size_at S (table_in sizes)) S.count 0)
    (filled : (i : ℕ) → i < r → get_or size i 0 ≡ size_at S (table_in sizes) i) where
  -- they are all
  each_filled : (i : ℕ) → i < S.count → get_or size i 0 ≡ size_at S (table_in sizes) i
  each_filled i h = filled i (omega (arith, all_filled S (table_in sizes) w.told))

  pub count_asks : length size ≡ places → length S.kind ≡ S.count → Countable listed size S.kind
  count_asks e k = listed_at S (table_in sizes) w.told listed (Sized size S.kind) w.listed_is (sized_at S (table_in sizes) w.told size each_filled (omega (arith, w.fillable.roomy)) k)

  pub count_is : {x : Told ℕ} {free : ℕ} → free ≤ 4294967295 → x ≡ free_over size S.kind free listed → x ≡ limited (free_of (entry_in S (table_in sizes)) 1 free w.t)
  count_is {free = free} h e =
      e ∙ ap (free_over size S.kind free) w.listed_is ∙ free_are (entry_in S (table_in sizes)) size S.kind w.t free (same_all S (table_in sizes) w.told size each_filled) h
