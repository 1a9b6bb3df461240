-- THE FEWEST NODES OF A HEIGHT: a thinnest tree is balanced and has just so many, and no balanced tree of its height has fewer. Assumes nothing.
use Prim.Native.Nat.{ℕ, zero, suc, ◌≤◌}
use native.Mathlib.Omega.{arith}
use mathlib.Core.Path.{◌≡◌, refl, subst}
use Rattle.avl_model.specs.Tree.{Tree, ht}
use Rattle.avl_model.specs.Laws.{Avl, size, least}
use Rattle.avl_model.proofs.Avl.{avl_size}
use Rattle.agree_causes.specs.Thin.{thin}

pub thin_height : (h : ℕ) → ht (thin h) ≡ h
unfolding thin
thin_height zero = refl
thin_height (suc zero) = refl
thin_height (suc (suc h)) = let a = thin_height (suc h) in let b = thin_height h in omega arith

pub thin_balanced : (h : ℕ) → Avl (thin h)
unfolding thin
thin_balanced zero = tt
thin_balanced (suc zero) = (omega arith, omega arith, tt, tt)
thin_balanced (suc (suc h)) =
    let a = thin_height (suc h) in
    let b = thin_height h in
    (omega arith, omega arith, thin_balanced (suc h), thin_balanced h)

pub thin-size : (h : ℕ) → size (thin h) ≡ least h
unfolding thin least
thin-size zero = refl
thin-size (suc zero) = refl
thin-size (suc (suc h)) = let a = thin-size (suc h) in let b = thin-size h in omega arith

-- no balanced tree has fewer
pub none_fewer : (t : Tree) (h : ℕ) → Avl t → ht t ≡ h → least h ≤ size t
none_fewer t h a e = subst (λ (n : ℕ). least n ≤ size t) e (avl_size t a)
