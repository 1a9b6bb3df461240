-- The ways out of `is_tree`, which lends the first n places of each column.
use Rattle.std.proofs.Common.{ℕ, ◌≤◌, ◌≡◌, refl, sym, ap, ◌∙◌, Bool, true, false, List, length, take, length-take-le, leb, leb-true}
use Rattle.avl_model.specs.Lists.{Lists}
use Rattle.avl_model.specs.Names.{Names}
use Rattle.avl_arena.specs.Test.{part_of, part_names, places, every, inside, whole_tree, holds_tree}
use Rattle.avl_arena.specs.inner.Seeing.{Lent}
use Rattle.avl_arena.specs.HeldTree.{Places}
use Rattle.avl_arena.proofs.Tested.{and_l, and_r, and_first, and_second, each_inside}

-- what the test of the places says
pub places_of : (S : Lists) (N : Names) (n : ℕ) → places S N.start N.len n ≡ true → Places S N n
unfolding places
places_of S N n e =
    let e1 = and_r (leb n (length S.L)) _ e in
    let e2 = and_r (leb n (length S.R)) _ e1 in
    let e3 = and_r (leb n (length S.P)) _ e2 in
    let e4 = and_r (leb n (length S.H)) _ e3 in
    record {
      l = leb-true n (length S.L) (and_l _ _ e);
      r = leb-true n (length S.R) (and_l _ _ e1);
      p = leb-true n (length S.P) (and_l _ _ e2);
      h = leb-true n (length S.H) (and_l _ _ e3);
      start = leb-true n (length N.start) (and_l _ _ e4);
      len = leb-true n (length N.len) (and_r (leb n (length N.start)) _ e4);
    }

-- the first n places of each column are n
pub record Firsts (S : Lists) (N : Names) (n : ℕ) : Type 0 where
  pub l : n ≡ length (take n S.L)
  pub r : n ≡ length (take n S.R)
  pub p : n ≡ length (take n S.P)
  pub h : n ≡ length (take n S.H)
  pub start : n ≡ length (take n N.start)
  pub len : n ≡ length (take n N.len)

module _ (S : Lists) (N : Names) (n : ℕ) {p : Bool} (ep : p ≡ places S N.start N.len n) where
  pub no_places : p ≡ false → false ≡ holds_tree S N n
  unfolding holds_tree
  no_places e = and_first _ ep e

  module _ (yes : p ≡ true) where
    pub firsts : Firsts S N n
    firsts =
        let w = places_of S N n (sym ep ∙ yes) in
        let first : (x : List ℕ) → n ≤ length x → n ≡ length (take n x) = λ x h. sym (length-take-le n x h) in
        record {
          l = first S.L w.l;
          r = first S.R w.r;
          p = first S.P w.p;
          h = first S.H w.h;
          start = first N.start w.start;
          len = first N.len w.len;
        }

    module _ {b : Bool} (eb : b ≡ every (inside (part_names n N)) (length (take n N.start))) where
      inside_is : b ≡ every (inside (part_names n N)) n
      inside_is = eb ∙ ap (every (inside (part_names n N))) (sym firsts.start)

      pub no_inside : b ≡ false → b ≡ holds_tree S N n
      unfolding holds_tree
      no_inside e = e ∙ and_second ep yes (and_first _ inside_is e)

      module _ (all : b ≡ true) where
        pub lent : Lent (part_of n S) (part_names n N) (length (take n S.L))
        lent = record {
          long = record { l = refl; r = sym firsts.r ∙ firsts.l; p = sym firsts.p ∙ firsts.l; h = sym firsts.h ∙ firsts.l };
          starts = sym firsts.start ∙ firsts.l;
          named = record {
            same = sym firsts.len ∙ firsts.start;
            in_bytes = each_inside (part_names n N) (length (take n N.start)) (sym eb ∙ all);
          };
        }

        pub by_whole : {c : Bool} → c ≡ whole_tree (part_of n S) (part_names n N) (length (take n S.L)) → c ≡ holds_tree S N n
        unfolding holds_tree
        by_whole {c} e = and_second ep yes (and_second inside_is all (e ∙ ap (whole_tree (part_of n S) (part_names n N)) (sym firsts.l)))
