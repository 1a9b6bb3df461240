-- No height that is held passes that of the whole tree: so one more fits.
use Rattle.std.proofs.Common.{ℕ, suc, ◌+◌, ◌≤◌, ◌<◌, max, arith, ◌≡◌, ap, length, get_or, ne_eqb}
use Rattle.std.proofs.Math.Decide.{dec_le, dec_lt, ℕ_discrete}
use Rattle.std.proofs.Math.ListN.{get_or-eq_default}
use Rattle.avl_model.specs.Lists.{Lists}
use Rattle.avl_model.specs.Tree.{Tree, leaf, node, ht, one, δ, cnt}
use Rattle.avl_model.specs.Rep.{Arr, Rep}
use Rattle.avl_model.specs.inner.Rep.{Ctx, hole, in_l, in_r, cnt_k, Step, RepK}
use Rattle.avl_model.specs.Rep.{arr_of}
use Rattle.avl_model.specs.inner.Held.{Ready, peak}

pub δ-is : (i j : ℕ) → 1 ≤ δ i j → i ≡ j
unfolding δ
δ-is i j h = elim (ℕ_discrete i j) [
  | yes e ↦ e
  | no ne ↦ let z : one (lib.Dec.eqb i j) ≡ 0 = ap one (ne_eqb i j ne) in absurd (omega arith)
]

pub peak_ge : (k : Ctx) (hh : ℕ) → hh ≤ peak hh k
peak_ge hole hh = omega arith
peak_ge (in_l i r k) hh = omega (arith, peak_ge k (suc (max hh (ht r))))
peak_ge (in_r l i k) hh = omega (arith, peak_ge k (suc (max hh (ht l))))

module _ (A : Arr) (n : ℕ) where
  pub rep_low : (t : Tree) (p : ℕ) → Rep A n p t → (j : ℕ) → 1 ≤ cnt j t → A.H j ≤ ht t
  rep_low leaf p c j m = absurd (omega arith)
  rep_low (node l i r) p c j m =
      let il : 1 ≤ cnt j l → A.H j ≤ ht l = rep_low l i c.1 j in
      let ir : 1 ≤ cnt j r → A.H j ≤ ht r = rep_low r i c.2 j in
      elim (dec_le 1 (cnt j l)) [
        | yes h ↦ omega (arith, il h)
        | no h ↦ elim (dec_le 1 (cnt j r)) [
          | yes h2 ↦ omega (arith, ir h2)
          | no h2 ↦ omega (arith, c.0.high, ap A.H (δ-is i j (omega arith)))
        ]
      ]

  one_step : (hh i : ℕ) (o : Tree) (k : Ctx) → Step A n hh i o k → ((j : ℕ) → 1 ≤ cnt_k j k → A.H j ≤ peak (suc (max hh (ht o))) k)
      → (j : ℕ) → 1 ≤ δ i j + (cnt j o + cnt_k j k) → A.H j ≤ peak (suc (max hh (ht o))) k
  one_step hh i o k c up j m =
      let ge : suc (max hh (ht o)) ≤ peak (suc (max hh (ht o))) k = peak_ge k (suc (max hh (ht o))) in
      elim (dec_le 1 (cnt_k j k)) [
        | yes h ↦ up j h
        | no h ↦ elim (dec_le 1 (cnt j o)) [
          | yes h2 ↦ omega (arith, rep_low o i c.sib j h2)
          | no h2 ↦ omega (arith, c.high, ap A.H (δ-is i j (omega arith)))
        ]
      ]

  pub rep_k_low : (k : Ctx) (hh : ℕ) → RepK A n hh k → (j : ℕ) → 1 ≤ cnt_k j k → A.H j ≤ peak hh k
  rep_k_low hole hh c j m = absurd (omega arith)
  rep_k_low (in_l i r k) hh c j m = one_step hh i r k c.1 (rep_k_low k (suc (max hh (ht r))) c.2) j m
  rep_k_low (in_r l i k) hh c j m = one_step hh i l k c.1 (rep_k_low k (suc (max hh (ht l))) c.2) j m

-- all heights of a node on the way up are low
pub low_from : (S : Lists) (i : ℕ) → Ready S i → (j : ℕ) → get_or S.H j 0 < 110
low_from S i w j =
    let A : Arr = arr_of S in
    let n : ℕ = length S.L in
    let ge : w.hh ≤ peak w.hh w.k = peak_ge w.k w.hh in
    let b : peak w.hh w.k < 100 = w.bound in
    let g : max (ht w.l) (ht w.r) ≤ w.hh = w.grown in
    elim (dec_lt j n) [
      | no h ↦ let z : get_or S.H j 0 ≡ 0 = get_or-eq_default S.H 0 (omega (arith, w.long.h)) in omega arith
      | yes h ↦ let f : 1 ≤ cnt_k j w.k + (cnt j w.l + (δ i j + cnt j w.r)) = w.full j h in
          elim (dec_le 1 (cnt_k j w.k)) [
            | yes h1 ↦ omega (arith, rep_k_low A n w.k w.hh w.at.krep j h1)
            | no h1 ↦ elim (dec_le 1 (cnt j w.l)) [
              | yes h2 ↦ omega (arith, rep_low A n w.l i w.at.lrep j h2)
              | no h2 ↦ elim (dec_le 1 (cnt j w.r)) [
                | yes h3 ↦ omega (arith, rep_low A n w.r i w.at.rrep j h3)
                | no h3 ↦ omega (arith, w.old, ap (λ (v : ℕ). get_or S.H v 0) (δ-is i j (omega arith)))
              ]
            ]
          ]
    ]
