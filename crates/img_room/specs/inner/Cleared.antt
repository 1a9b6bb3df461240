-- Columns of scratch that are cleared. Assumes nothing.
use Rattle.std.specs.Prelude.{◌≡◌, length, replicate}
use Rattle.img_model.specs.declared.PlanScratch.{PlanScratch}

-- each column of b is zero everywhere, and as long as that of a
pub record IsCleared (a b : PlanScratch) : Type 0 where
  pub sized : b.sized.now ≡ replicate (length a.sized.now) 0
  pub left : b.left.now ≡ replicate (length a.left.now) 0
  pub right : b.right.now ≡ replicate (length a.right.now) 0
  pub parent : b.parent.now ≡ replicate (length a.parent.now) 0
  pub height : b.height.now ≡ replicate (length a.height.now) 0
  pub key : b.key.now ≡ replicate (length a.key.now) 0
  pub size : b.size.now ≡ replicate (length a.size.now) 0
  pub order : b.order.now ≡ replicate (length a.order.now) 0
