-- Columns of scratch that a table is sized in. Assumes nothing.
use Rattle.std.specs.Prelude.{ℕ, ◌≡◌, List, length}
use Rattle.avl_model.specs.declared.LinksMut.{LinksMut}
use Rattle.img_table.specs.declared.TableScratch.{TableScratch}

-- how many places each column has
pub record Places : Type 0 where
  pub left : ℕ
  pub right : ℕ
  pub parent : ℕ
  pub height : ℕ
  pub key : ℕ
  pub size : ℕ

abbrev pub places_by : LinksMut → List ℕ → List ℕ → Places
places_by links key size = record {
  left = length links.left.now;
  right = length links.right.now;
  parent = length links.parent.now;
  height = length links.height.now;
  key = length key;
  size = length size;
}

abbrev pub places_in : TableScratch → Places
places_in s = record {
  left = length s.left.now;
  right = length s.right.now;
  parent = length s.parent.now;
  height = length s.height.now;
  key = length s.key.now;
  size = length s.size.now;
}

-- both lend the same columns
abbrev pub IsSameScratch : TableScratch → TableScratch → Type 0
IsSameScratch a b =
    (a.left.ghost_name ≡ b.left.ghost_name) × (a.right.ghost_name ≡ b.right.ghost_name)
    × (a.parent.ghost_name ≡ b.parent.ghost_name) × (a.height.ghost_name ≡ b.height.ghost_name)
    × (a.key.ghost_name ≡ b.key.ghost_name) × (a.size.ghost_name ≡ b.size.ghost_name)
