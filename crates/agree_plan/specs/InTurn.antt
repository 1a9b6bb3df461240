-- The list of a directory's entries, as it is lent to be written whole. Assumes nothing.
use Rattle.std.specs.Prelude.{ℕ, ◌<◌, ◌≡◌, List, length, get_or}
use Rattle.dirtab_grow.specs.Listing.{Listing, listing}
use Rattle.img_model.specs.Shares.{Request, share_of, count_of}
use Rattle.img_model.specs.Plan.{table_in, size_at, Plan}

-- a column that has the entries' sizes: a file's own, and a directory's as its table reports it
pub record SizesFor (R : Request) (p : Plan) (d : ℕ) (size : List ℕ) : Type 0 where
  pub long : length size ≡ count_of R d
  pub each : (i : ℕ) → i < count_of R d → get_or size i 0 ≡ size_at (share_of R d) (table_in p.sizes) i

-- the list
abbrev pub listing_of : Request → ℕ → List ℕ → Listing
listing_of R d size = listing (count_of R d) (share_of R d).start (share_of R d).len size (share_of R d).kind R.bytes
