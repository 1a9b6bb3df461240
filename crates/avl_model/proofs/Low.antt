-- Bounds on the heights that are held, so that one more fits.
use Rattle.std.proofs.Common.{ℕ, ◌+◌, ◌<◌, max, arith, sym, subst, List, length, get_or, set, get_or-set_same, get_or-set_other}
use Rattle.std.proofs.Math.Decide.{dec_lt, ℕ_discrete}
use Rattle.std.proofs.Math.Seq.{set_out}
use Rattle.avl_model.specs.inner.Lists.{risen}

-- what is read after a store is what was stored, or what was there
pub get_set : (P : ℕ → Type 0) (xs : List ℕ) (i v j : ℕ) → P v → P (get_or xs j 0) → P (get_or (set xs i v) j 0)
get_set P xs i v j pv pj = elim (ℕ_discrete j i) [
  | yes e ↦ elim (dec_lt i (length xs)) [
    | yes h ↦ subst (λ (k : ℕ). P (get_or (set xs i v) k 0)) (sym e) (subst P (sym (get_or-set_same xs i v 0 h)) pv)
    | no h ↦ subst (λ (l : List ℕ). P (get_or l j 0)) (sym (set_out xs i v (omega arith))) pj
  ]
  | no ne ↦ subst P (sym (get_or-set_other xs i j v 0 ne)) pj
]

pub low_risen : (m : ℕ) (l r h : List ℕ) (at : ℕ) → ((j : ℕ) → get_or h j 0 < m) → (j : ℕ) → get_or (risen l r h at) j 0 < m + 1
low_risen m l r h at low j =
    get_set (λ v. v < m + 1) h at (max (get_or h (get_or l at 0) 0) (get_or h (get_or r at 0) 0) + 1) j
    (omega (arith, low (get_or l at 0), low (get_or r at 0))) (omega (arith, low j))
