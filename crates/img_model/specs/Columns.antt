-- The code's columns as the records that the definitions speak of. Assumes nothing.
use Rattle.std.specs.Prelude.{ℕ, ◌≡◌, length}
use Rattle.img_model.specs.declared.Request as given
use Rattle.img_model.specs.declared.Share as shared
use Rattle.img_model.specs.declared.PlanOut.{PlanOut}
use Rattle.img_model.specs.declared.PlanScratch.{PlanScratch}
use Rattle.img_model.specs.Shares.{Request, Share, columns, share_of}
use Rattle.img_model.specs.Image.{Asked, asked, Lent, lent}

-- the columns that are asked for
abbrev pub columns_in : given.Request → Request
columns_in q = columns q.from.now q.share.now q.names.start.now q.names.len.now q.kind.now q.value.now
    q.names.bytes.now

-- one directory's entries
abbrev pub share_in : shared.Share → Share
share_in s = record {
  count = length s.kind.now;
  start = s.names.start.now;
  len = s.names.len.now;
  kind = s.kind.now;
  value = s.value.now;
  bytes = s.names.bytes.now;
}

-- s has the entries of directory d
abbrev pub IsShareOf : given.Request → ℕ → shared.Share → Type 0
IsShareOf q d s = share_in s ≡ share_of (columns_in q) d

-- what is asked, with how many directories and entries
abbrev pub asked_in : ℕ → ℕ → given.Request → Asked
asked_in directories entries q = asked directories entries q.from.now q.share.now q.names.start.now q.names.len.now
    q.kind.now q.value.now q.names.bytes.now

-- what is lent
abbrev pub lent_in : PlanOut → PlanScratch → Lent
lent_in out scratch = lent out.sizes.now out.tables.now out.sectors.now scratch.sized.now scratch.left.now
    scratch.right.now scratch.parent.now scratch.height.now scratch.key.now scratch.size.now scratch.order.now

-- two that lend the same memory
abbrev pub IsSameOut : PlanOut → PlanOut → Type 0
IsSameOut a b = (a.sizes.ghost_name ≡ b.sizes.ghost_name) × (a.tables.ghost_name ≡ b.tables.ghost_name)
    × (a.sectors.ghost_name ≡ b.sectors.ghost_name)

abbrev pub IsSameScratch : PlanScratch → PlanScratch → Type 0
IsSameScratch a b = (a.sized.ghost_name ≡ b.sized.ghost_name) × (a.left.ghost_name ≡ b.left.ghost_name)
    × (a.right.ghost_name ≡ b.right.ghost_name) × (a.parent.ghost_name ≡ b.parent.ghost_name)
    × (a.height.ghost_name ≡ b.height.ghost_name) × (a.key.ghost_name ≡ b.key.ghost_name)
    × (a.size.ghost_name ≡ b.size.ghost_name) × (a.order.ghost_name ≡ b.order.ghost_name)
