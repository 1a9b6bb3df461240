-- Lists that hold a tree of all their indices are the lists with the tree written into them.
use Rattle.std.proofs.Common.{ℕ, suc, ◌≤◌, ◌<◌, max, arith, ◌≡◌, refl, sym, ap, subst, ◌∙◌, List, length, get_or, set, length-set, get_or-set_same, get_or-set_other, ext_get_or}
use Rattle.std.proofs.Math.Decide.{dec_le, ℕ_discrete}
use Rattle.avl_model.specs.Lists.{Lists, lists}
use Rattle.std.specs.declared.cmp.Ordering.{Ordering}
use Rattle.avl_model.specs.inner.Insert.{Inserted}
use Rattle.avl_model.specs.declared.Spot.{Spot}
use Rattle.avl_model.specs.declared.Spot.TheVariants.{Same, Free}
use Rattle.avl_model.specs.declared.Place.TheVariants.{Root}
use Rattle.avl_model.specs.Tree.{Tree, leaf, node, none, top, ht, δ, cnt, ins}
use Rattle.avl_model.specs.Rep.{Arr, Cell, Rep}
use Rattle.avl_model.specs.Rep.{arr_of}
use Rattle.avl_model.specs.inner.Held.{Long, Whole, Arena}
use Rattle.avl_model.specs.inner.Insert.{Out, OutBy}
use Rattle.avl_model.specs.Names.{is_less}
use Rattle.avl_model.specs.Seek.{spot_in}
use Rattle.avl_model.specs.Columns.{write, written}
use Rattle.avl_model.specs.inner.Columns.{answered, lists_by, after}
use Rattle.avl_model.proofs.Frame.{δ-same, δ-apart}
use Rattle.avl_model.proofs.Bal.{ins-cnt}

module _ (f : ℕ → Tree → ℕ → Tree → ℕ) where
  pub write-length : (p : ℕ) (t : Tree) (xs : List ℕ) → length (write f p t xs) ≡ length xs
  write-length p leaf xs = refl
  write-length p (node l i r) xs = length-set (write f i r (write f i l xs)) i (f p l i r) ∙ write-length i r (write f i l xs) ∙ write-length i l xs

  pub write_out : (p : ℕ) (t : Tree) (xs : List ℕ) (j : ℕ) → cnt j t ≡ 0 → get_or (write f p t xs) j 0 ≡ get_or xs j 0
  write_out p leaf xs j z = refl
  write_out p (node l i r) xs j z =
      get_or-set_other (write f i r (write f i l xs)) i j (f p l i r) 0 (λ e. let d : δ i j ≡ 1 = subst (λ (v : ℕ). δ v j ≡ 1) e (δ-same j) in omega arith)
      ∙ write_out i r (write f i l xs) j (omega arith) ∙ write_out i l xs j (omega arith)

  -- what the arrays hold of each node is what is written
  module _ (A : Arr) (n : ℕ) (g : ℕ → ℕ) (cell : (p : ℕ) (l : Tree) (i : ℕ) (r : Tree) → Cell A n p l i r → g i ≡ f p l i r) where
    write_at : (p : ℕ) (t : Tree) (xs : List ℕ) → length xs ≡ n → Rep A n p t → ((j : ℕ) → cnt j t ≤ 1) → (j : ℕ) → 1 ≤ cnt j t → get_or (write f p t xs) j 0 ≡ g j
    write_at p leaf xs e c o j m = absurd (omega arith)
    write_at p (node l i r) xs e c o j m =
        let ys : List ℕ = write f i r (write f i l xs) in
        let ln : length (write f i l xs) ≡ n = write-length i l xs ∙ e in
        let yn : length ys ≡ n = write-length i r (write f i l xs) ∙ ln in
        let il : 1 ≤ cnt j l → get_or (write f i l xs) j 0 ≡ g j = write_at i l xs e c.1 (λ k. omega (arith, o k)) j in
        let ir : 1 ≤ cnt j r → get_or ys j 0 ≡ g j = write_at i r (write f i l xs) ln c.2 (λ k. omega (arith, o k)) j in
        elim (ℕ_discrete j i) [
          | yes q ↦ ap (λ (v : ℕ). get_or (set ys i (f p l i r)) v 0) q ∙ get_or-set_same ys i (f p l i r) 0 (omega (arith, c.0.fits)) ∙ sym (cell p l i r c.0) ∙ ap g (sym q)
          | no ne ↦ get_or-set_other ys i j (f p l i r) 0 ne ∙ elim (dec_le 1 (cnt j r)) [
            | yes h ↦ ir h
            | no h ↦ write_out i r (write f i l xs) j (omega arith) ∙ il (omega (arith, δ-apart i j (λ q. ne (sym q))))
          ]
        ]

    write_is : (t : Tree) (xs zs : List ℕ) → length xs ≡ n → length zs ≡ n → Rep A n none t → ((j : ℕ) → cnt j t ≤ 1) → ((j : ℕ) → j < n → 1 ≤ cnt j t)
        → ((j : ℕ) → g j ≡ get_or zs j 0) → zs ≡ write f none t xs
    write_is t xs zs ex ez c o full gz =
        ext_get_or 0 zs (write f none t xs) (ez ∙ sym (write-length none t xs ∙ ex))
        (λ j h. sym (gz j) ∙ sym (write_at none t xs ex c o j (full j (omega arith))))

-- lists that hold a tree of all their indices are those with the tree written into them
pub whole_written : (S T : Lists) (n : ℕ) (s : Tree) → Long n S → Whole T n s → ((j : ℕ) → j < n → 1 ≤ cnt j s) → T ≡ written s S
unfolding written
whole_written S T n s W H full =
    let A : Arr = arr_of T in
    let o : (j : ℕ) → cnt j s ≤ 1 = λ j. omega (arith, H.held.once j) in
    let c : Rep A n none s = H.held.rep in
    let el = write_is (λ p l i r. top l) A n A.L (λ p l i r k. k.left) s S.L T.L W.l H.long.l c o full (λ j. refl) in
    let er = write_is (λ p l i r. top r) A n A.R (λ p l i r k. k.right) s S.R T.R W.r H.long.r c o full (λ j. refl) in
    let ep = write_is (λ p l i r. p) A n A.P (λ p l i r k. k.up) s S.P T.P W.p H.long.p c o full (λ j. refl) in
    let eh = write_is (λ p l i r. suc (max (ht l) (ht r))) A n A.H (λ p l i r k. k.high) s S.H T.H W.h H.long.h c o full (λ j. refl) in
    λ i. lists (H.held.link i) (el i) (er i) (ep i) (eh i)

-- what an insertion leaves, as equations: the answer, and every number of the lists
pub out_after_lem : (S T : Lists) (new : ℕ) (w : Arena S new) (by : ℕ → Ordering) (r : Inserted) → Out S T by new w.t r
    → (r ≡ answered (spot_in by w.t Root)) × (T ≡ after by new w.t S)
unfolding after
out_after_lem S T new w by r o = go (spot_in by w.t Root) o
  where
    s : Tree
    s = ins (λ i. is_less (by i)) new w.t

    all : (j : ℕ) → j < length S.L → 1 ≤ cnt j s
    all j h = elim (ℕ_discrete j new) [
      | yes e ↦ let d : δ new j ≡ 1 = subst (λ (v : ℕ). δ new v ≡ 1) (sym e) (δ-same new) in omega (arith, ins-cnt (λ i. is_less (by i)) new j w.t)
      | no ne ↦ omega (arith, ins-cnt (λ i. is_less (by i)) new j w.t, w.full j h ne)
    ]

    go : (p : Spot) → OutBy p S T (λ i. is_less (by i)) new w.t r → (r ≡ answered p) × (T ≡ lists_by p S (written s S))
    go (Same i) o = o
    go (Free q) o = (o.0, whole_written S T (length S.L) s w.long o.1 all)
