-- What `turn` reads of the heights, and what it leaves.
use Rattle.std.proofs.Common.{ℕ, ◌≤◌, ◌<◌, arith, ◌≡◌, refl, sym, ap, subst, ◌∙◌, length, get_or}
use Rattle.avl_model.specs.Lists.{Lists}
use Rattle.avl_model.specs.inner.Lists.{Three, l_rotated, rl_rotated}
use Rattle.avl_model.specs.Tree.{Tree, leaf, node, top, ht, turn_left}
use Rattle.avl_model.specs.Rep.{Arr, Rep}
use Rattle.avl_model.specs.Rep.{arr_of}
use Rattle.avl_model.specs.inner.Held.{Heavy, Up}
use Rattle.avl_model.proofs.Stores.{height_read}
use Rattle.avl_model.proofs.Sides.{by_double, by_single}

pub top_in : (A : Arr) (n p : ℕ) (t : Tree) → Rep A n p t → 0 < ht t → top t < n
top_in A n p leaf c h = absurd (omega arith)
top_in A n p (node l i r) c h = c.0.fits

module _ (S : Lists) (a b : ℕ) (w : Heavy S a b) where
  abbrev n : ℕ
  n = length S.L

  near_high : get_or S.H (get_or S.L b 0) 0 ≡ ht w.y
  near_high = ap (λ (g : ℕ). get_or S.H g 0) w.at.rrep.0.left ∙ height_read (arr_of S) S.H n b w.y (λ j. refl) w.long.h w.small w.at.rrep.1

  far_high : get_or S.H (get_or S.R b 0) 0 ≡ ht w.z
  far_high = ap (λ (g : ℕ). get_or S.H g 0) w.at.rrep.0.right ∙ height_read (arr_of S) S.H n b w.z (λ j. refl) w.long.h w.small w.at.rrep.2

  -- hz and hy are the heights that are read of b's children
  module _ (hz hy : ℕ) (ez : hz ≡ get_or S.H (get_or S.R b 0) 0) (ey : hy ≡ get_or S.H (get_or S.L b 0) 0) where
    hy_is : hy ≡ ht w.y
    hy_is = ey ∙ near_high

    hz_is : hz ≡ ht w.z
    hz_is = ez ∙ far_high

    pub three_double : hz < hy → Three n (length S.R) (length S.H) a b (get_or S.L b 0)
    three_double h = record {
      ri = w.long.r;
      hi = w.long.h;
      i< = w.at.fits;
      j< = w.at.rrep.0.fits;
      k< = subst (λ (g : ℕ). g < n) (sym w.at.rrep.0.left) (top_in (arr_of S) n b w.y w.at.rrep.1 (omega (arith, hy_is)));
    }

    pub three_single : hy ≤ hz → Three n (length S.R) (length S.H) a b (get_or S.R b 0)
    three_single h = record {
      ri = w.long.r;
      hi = w.long.h;
      i< = w.at.fits;
      j< = w.at.rrep.0.fits;
      k< = subst (λ (g : ℕ). g < n) (sym w.at.rrep.0.right) (top_in (arr_of S) n b w.z w.at.rrep.2 (omega (arith, hy_is, hz_is, w.tall)));
    }

    pub double_up : hz < hy → {T : Lists} → T ≡ rl_rotated S a b (get_or S.L b 0) → Up T n (get_or S.L b 0) (turn_left w.x a (node w.y b w.z)) w.k w.hh
    double_up h {T} e = subst (λ (T : Lists). Up T n (get_or S.L b 0) (turn_left w.x a (node w.y b w.z)) w.k w.hh) (sym e)
        (by_double S n a b w.x w.z w.k w.hh w.long w.small w.y w.at (omega (arith, hy_is, hz_is)))

    pub single_up : hy ≤ hz → {T : Lists} → T ≡ l_rotated S a b (get_or S.R b 0) → Up T n b (turn_left w.x a (node w.y b w.z)) w.k w.hh
    single_up h {T} e = subst (λ (T : Lists). Up T n b (turn_left w.x a (node w.y b w.z)) w.k w.hh) (sym e)
        (by_single S n a b w.x w.z w.k w.hh w.long w.small w.y w.at (omega (arith, hy_is, hz_is)))
