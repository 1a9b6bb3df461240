-- The new node in the first places of the columns, and the columns whole again.
use Rattle.std.proofs.Common.{ℕ, suc, ◌+◌, ◌≤◌, ◌<◌, max, ◌≡◌, refl, sym, ap, subst, ◌∙◌, true, ◌++◌, length, take, drop, length-take-le}
use Rattle.std.specs.declared.cmp.Ordering.{Ordering}
use Rattle.avl_model.specs.declared.Place.{Place}
use Rattle.avl_model.specs.declared.Place.TheVariants.{Root}
use Rattle.avl_model.specs.declared.Spot.{Spot}
use Rattle.avl_model.specs.declared.Spot.TheVariants.{Free}
use Rattle.avl_model.specs.Lists.{Lists, lists}
use Rattle.avl_model.specs.Names.{Names, is_less}
use Rattle.avl_model.specs.Tree.{Tree, none, top, ht, ins}
use Rattle.avl_model.specs.Rep.{arr_of}
use Rattle.avl_model.specs.inner.Held.{Whole}
use Rattle.avl_model.specs.Laws.{All}
use Rattle.avl_model.specs.inner.Insert.{Done, OutBy, Placed}
use Rattle.avl_model.specs.Seek.{spot_in}
use Rattle.avl_model.specs.Columns.{written}
use Rattle.avl_model.specs.inner.Columns.{lists_by, after}
use Rattle.avl_model.proofs.Counted.{rep_below}
use Rattle.avl_model.proofs.Written.{out_after_lem}
use Rattle.avl_model.proofs.Writing.{write_part, Wide}
use Rattle.avl_arena.specs.Test.{part_of, holds_tree, decoded}
use Rattle.avl_arena.specs.HeldTree.{Places}
use Rattle.avl_arena.proofs.Taken.{passed, passed_tree}

-- lists with their first m places put back
abbrev pub back_in : ℕ → Lists → Lists → Lists
back_in m T S = lists T.root (T.L ++ drop m S.L) (T.R ++ drop m S.R) (T.P ++ drop m S.P) (T.H ++ drop m S.H)

-- a tree of numbers below m written into the first m places, and the rest put back, is the tree written into all
pub written_back : (S : Lists) (m : ℕ) (t : Tree) → Wide m S → All (λ j. j < m) t → back_in m (written t (part_of m S)) S ≡ written t S
unfolding written
written_back S m t w a =
    let el = write_part (λ p l i r. top l) none t S.L m w.l a in
    let er = write_part (λ p l i r. top r) none t S.R m w.r a in
    let ep = write_part (λ p l i r. p) none t S.P m w.p a in
    let eh = write_part (λ p l i r. suc (max (ht l) (ht r))) none t S.H m w.h a in
    sym (λ d. lists (top t) (el d) (er d) (ep d) (eh d))

module _ (S : Lists) (m new : ℕ) (q : Place) (wide : Wide m S) (w : Placed (part_of m S) q new) where
  abbrev grown : Tree
  grown = ins (λ i. is_less (w.by i)) new w.arena.t

  part_is : {T : Lists} → Whole T (length (take m S.L)) grown → T ≡ written grown (part_of m S)
  unfolding after
  part_is {T} h =
      (out_after_lem (part_of m S) T new w.arena w.by Done
      (subst (λ (z : Spot). OutBy z (part_of m S) T (λ i. is_less (w.by i)) new w.arena.t Done) (sym w.free) (refl, h))).1
      ∙ ap (λ (z : Spot). lists_by z (part_of m S) (written grown (part_of m S))) w.free

  below : {T : Lists} → Whole T (length (take m S.L)) grown → All (λ j. j < m) grown
  below {T} h = subst (λ (k : ℕ). All (λ j. j < k) grown) (length-take-le m S.L wide.l) (rep_below (arr_of T) (length (take m S.L)) none grown h.held.rep)

  pub put_back : {T : Lists} → Whole T (length (take m S.L)) grown → back_in m T S ≡ written grown S
  put_back {T} h = ap (λ (U : Lists). back_in m U S) (part_is h) ∙ written_back S m grown wide (below h)

-- an arena that passed, with the place of a name
module _ (S : Lists) (N : Names) (n : ℕ) (e : holds_tree S N n ≡ true) (room : Places S N (n + 1)) (small : n + 1 ≤ 65535) (by : ℕ → Ordering) (q : Place)
    (free : spot_in by (decoded S n) Root ≡ Free q) where
  pub placed : Placed (part_of (n + 1) S) q n
  placed = record {
    arena = passed S N n e room small;
    by = by;
    free = ap (λ (t : Tree). spot_in by t Root) (passed_tree S N n e room small) ∙ free;
  }

  pub placed_tree : {T : Lists} → ((w : Placed (part_of (n + 1) S) q n) → T ≡ written (ins (λ i. is_less (w.by i)) n w.arena.t) S) → T ≡ written (ins (λ i. is_less (by i)) n (decoded S n)) S
  unfolding placed
  placed_tree f = f placed ∙ ap (λ (t : Tree). written (ins (λ i. is_less (by i)) n t) S) (passed_tree S N n e room small)
