-- A tree written into columns: they hold it, and what stands beyond its numbers is untouched.
use Rattle.std.proofs.Common.{ℕ, suc, ◌≤◌, ◌<◌, max, arith, ◌≡◌, refl, sym, ap, subst, ◌∙◌, List, ◌++◌, length, set, take, drop, take-append-drop, get_or-set_same, get_or-set_other, length-take-le}
use Rattle.std.proofs.Math.Seq.{set-append_left}
use Rattle.avl_model.specs.Lists.{Lists, lists}
use Rattle.avl_model.specs.Tree.{Tree, leaf, node, none, top, ht, δ, cnt}
use Rattle.avl_model.specs.Rep.{Rep}
use Rattle.avl_model.specs.Rep.{arr_of}
use Rattle.avl_model.specs.Laws.{All}
use Rattle.avl_model.specs.Columns.{write, written}
use Rattle.avl_model.proofs.Frame.{δ-same, Agree, apart, frame}
use Rattle.avl_model.proofs.Written.{write-length, write_out}

module _ (f : ℕ → Tree → ℕ → Tree → ℕ) where
  write_beside : (p : ℕ) (t : Tree) (xs ys : List ℕ) → All (λ j. j < length xs) t → write f p t (xs ++ ys) ≡ write f p t xs ++ ys
  write_beside p leaf xs ys a = refl
  write_beside p (node l i r) xs ys a =
      let zs : List ℕ = write f i l xs in
      let right : write f i r (zs ++ ys) ≡ write f i r zs ++ ys = write_beside i r zs ys (subst (λ (n : ℕ). All (λ j. j < n) r) (sym (write-length f i l xs)) a.2) in
      ap (λ (v : List ℕ). set (write f i r v) i (f p l i r)) (write_beside i l xs ys a.1) ∙ ap (λ (v : List ℕ). set v i (f p l i r)) right
      ∙ set-append_left (write f i r zs) ys i (f p l i r) (omega (arith, write-length f i r zs, write-length f i l xs, a.0))

  -- a tree of numbers below m is written into the first m places, and the rest is put back behind them
  pub write_part : (p : ℕ) (t : Tree) (xs : List ℕ) (m : ℕ) → m ≤ length xs → All (λ j. j < m) t → write f p t xs ≡ write f p t (take m xs) ++ drop m xs
  write_part p t xs m h a =
      ap (write f p t) (sym (take-append-drop m xs))
      ∙ write_beside p t (take m xs) (drop m xs) (subst (λ (n : ℕ). All (λ j. j < n) t) (sym (length-take-le m xs h)) a)

-- each list has n places
pub record Wide (n : ℕ) (S : Lists) : Type 0 where
  pub l : n ≤ length S.L
  pub r : n ≤ length S.R
  pub p : n ≤ length S.P
  pub h : n ≤ length S.H

-- the lists with a tree written into them, below p
abbrev lower : ℕ → Tree → Lists → Lists
lower p t S =
    lists (top t) (write (λ p l i r. top l) p t S.L) (write (λ p l i r. top r) p t S.R)
    (write (λ p l i r. p) p t S.P) (write (λ p l i r. suc (max (ht l) (ht r))) p t S.H)

wide_lower : (n p : ℕ) (t : Tree) (S : Lists) → Wide n S → Wide n (lower p t S)
wide_lower n p t S w = record {
  l = omega (arith, write-length (λ p l i r. top l) p t S.L, w.l);
  r = omega (arith, write-length (λ p l i r. top r) p t S.R, w.r);
  p = omega (arith, write-length (λ p l i r. p) p t S.P, w.p);
  h = omega (arith, write-length (λ p l i r. suc (max (ht l) (ht r))) p t S.H, w.h);
}

-- what a tree written in leaves of a number that is not its own
out_lower : (p : ℕ) (t : Tree) (S : Lists) (j : ℕ) → cnt j t ≡ 0 → Agree (arr_of S) (arr_of (lower p t S)) j
out_lower p t S j z = record {
  l = write_out (λ p l i r. top l) p t S.L j z;
  r = write_out (λ p l i r. top r) p t S.R j z;
  p = write_out (λ p l i r. p) p t S.P j z;
  h = write_out (λ p l i r. suc (max (ht l) (ht r))) p t S.H j z;
}

-- a node written in over its subtrees
module _ (n p i : ℕ) (l r : Tree) (S : Lists) (w : Wide n S) (f : i < n) where
  abbrev T : Lists
  T = lists i (set S.L i (top l)) (set S.R i (top r)) (set S.P i p) (set S.H i (suc (max (ht l) (ht r))))

  on_node : (j : ℕ) → (j ≡ i → ⊥) → Agree (arr_of S) (arr_of T) j
  on_node j ne = record {
    l = get_or-set_other S.L i j (top l) 0 ne;
    r = get_or-set_other S.R i j (top r) 0 ne;
    p = get_or-set_other S.P i j p 0 ne;
    h = get_or-set_other S.H i j (suc (max (ht l) (ht r))) 0 ne;
  }

  node_held : cnt i l ≡ 0 → cnt i r ≡ 0 → Rep (arr_of S) n i l → Rep (arr_of S) n i r → Rep (arr_of T) n p (node l i r)
  node_held zl zr cl cr = (
    record {
      fits = f;
      left = get_or-set_same S.L i (top l) 0 (omega (arith, w.l));
      right = get_or-set_same S.R i (top r) 0 (omega (arith, w.r));
      up = get_or-set_same S.P i p 0 (omega (arith, w.p));
      high = get_or-set_same S.H i (suc (max (ht l) (ht r))) 0 (omega (arith, w.h));
    },
    frame (arr_of S) (arr_of T) n l i (λ j m. on_node j (apart (λ v. cnt v l) m zl)) cl,
    frame (arr_of S) (arr_of T) n r i (λ j m. on_node j (apart (λ v. cnt v r) m zr)) cr,
  )

held_below : (n p : ℕ) (t : Tree) (S : Lists) → Wide n S → All (λ j. j < n) t → ((j : ℕ) → cnt j t ≤ 1) → Rep (arr_of (lower p t S)) n p t
held_below n p leaf S w a o = tt
held_below n p (node l i r) S w a o =
    let A : Lists = lower i l S in
    let B : Lists = lower i r A in
    let wa : Wide n A = wide_lower n i l S w in
    let di : δ i i ≡ 1 = δ-same i in
    let zr : (j : ℕ) → 1 ≤ cnt j l → cnt j r ≡ 0 = λ j m. omega (arith, o j) in
    node_held n p i l r B (wide_lower n i r A wa) a.0 (omega (arith, o i)) (omega (arith, o i))
    (frame (arr_of A) (arr_of B) n l i (λ j m. out_lower i r A j (zr j m)) (held_below n i l S w a.1 (λ j. omega (arith, o j))))
    (held_below n i r A wa a.2 (λ j. omega (arith, o j)))

-- columns into which a tree of numbers below n, each once at most, is written hold it
pub written_held : (n : ℕ) (t : Tree) (S : Lists) → Wide n S → All (λ j. j < n) t → ((j : ℕ) → cnt j t ≤ 1) → Rep (arr_of (written t S)) n none t
unfolding written
written_held n t S w a o = held_below n none t S w a o
