-- A turn of marking all directories, and what the marks say in the end. Assumes nothing.
use Prim.Native.Nat.{ℕ, zero, suc, ◌+◌, ◌≤◌, ◌<◌}
use native.Mathlib.Omega.{arith}
use mathlib.Core.Path.{◌≡◌, refl, sym, ap, subst, ◌∙◌}
use mathlib.Core.Bool.{Bool, true, false, not, ◌&&◌}
use mathlib.Core.List.{List}
use lib.Dec.{leb, eqb}
use lib.ListN.{length, get_or, replicate, length-replicate, get_or-replicate}
use borrow.Author.Tests.{lt-ltb, le-ltb, le-leb, leb-true, not-true, not-false}
use Rattle.units.specs.Told.{pick}
use Rattle.avl_arena.specs.Test.{every}
use Rattle.avl_arena.proofs.Tested.{and_l, and_r, and_both, every_at, every_from}
use Rattle.img_model.specs.Shares.{Request, Share, directories_of, entries_of, first_of, count_of, share_of, part, tally, names, namings, names_later, is_share, named_once, is_tree}
use Rattle.img_model.proofs.Every.{every_same}
use Rattle.img_model.proofs.Rule.{share_inside, all_later, named_at_most_once}
use Rattle.img_tree.specs.inner.Marks.{entries, Marks, times, is_markable, Marked, is_part_markable, is_named}
use Rattle.img_tree.proofs.Turn.{never}

-- the loop's invariant: the entries of the directories below d are marked
pub record Sofar (R : Request) (d : ℕ) (named : List ℕ) : Type 0 where
  pub kept : length named ≡ directories_of R
  pub low : (x : ℕ) → x < directories_of R → get_or named x 0 ≤ 1
  pub counted : (x : ℕ) → x < directories_of R → get_or named x 0 ≡ namings R x d
  pub shared : every (is_share R) d ≡ true

pub unmarked : (R : Request) (n : ℕ) (named : List ℕ) → named ≡ replicate n 0 → n ≡ directories_of R → Sofar R 0 named
unmarked R n named e h =
    let zeros : (x : ℕ) → x < directories_of R → get_or named x 0 ≡ 0 = λ x k. rw e (get_or-replicate n x 0 0 (omega arith)) in
    record { kept = rw e (length-replicate n 0 ∙ h); low = λ x k. omega (arith, zeros x k); counted = zeros; shared = refl }

-- there is one
pub some_first : (b : Bool) (n : ℕ) → b ≡ eqb n 0 → b ≡ false → 0 < n
some_first b zero e f = let z : true ≡ false = sym e ∙ f in never (sym z)
some_first b (suc n) e f = omega arith

-- there is no directory
pub no_directory : (R : Request) → directories_of R ≡ 0 → false ≡ is_tree R
unfolding is_tree
no_directory R e = sym (ap (λ (b : Bool). b && (every (is_share R) (directories_of R) && every (named_once R) (directories_of R))) (le-ltb 0 (directories_of R) (omega arith)))

module _ (R : Request) (d : ℕ) (named : List ℕ) (p : Sofar R d named) where
  pub clean : Marks named
  clean = record { low = λ x h. p.low x (omega (arith, p.kept)) }

  abbrev share : Share
  share = entries (count_of R d) (part (first_of R d) (count_of R d) R.kind) (part (first_of R d) (count_of R d) R.value)

  -- how often x is named with directory d
  times_are : (x : ℕ) → x < directories_of R → times named share x ≡ namings R x (suc d)
  times_are x h = ap (λ (t : ℕ). t + tally (names share x) (count_of R d)) (p.counted x h)

  -- the two tests of a directory
  inside : is_part_markable named d (first_of R d) (count_of R d) R.kind R.value ≡ true → leb (first_of R d + count_of R d) (entries_of R) ≡ true
  unfolding is_part_markable
  inside e = and_l _ _ e

  markable : is_part_markable named d (first_of R d) (count_of R d) R.kind R.value ≡ true → is_markable named d share ≡ true
  unfolding is_part_markable
  markable e = and_r (leb (first_of R d + count_of R d) (entries_of R)) _ e

  later : is_markable named d share ≡ true → every (names_later (share_of R d) (directories_of R) d) (count_of R d) ≡ true
  unfolding is_markable
  later e = subst (λ (n : ℕ). every (names_later share n d) (count_of R d) ≡ true) p.kept (and_l _ _ e)

  once : is_markable named d share ≡ true → (x : ℕ) → x < directories_of R → times named share x ≤ 1
  unfolding is_markable
  once e x h =
      leb-true (times named share x) 1
      (every_at (λ y. leb (times named share y) 1) (length named) (and_r (every (names_later share (length named) d) (count_of R d)) _ e) x (omega (arith, p.kept)))

  -- directory d is marked
  onward : (after : List ℕ) → is_part_markable named d (first_of R d) (count_of R d) R.kind R.value ≡ true → Marked named share after → Sofar R (suc d) after
  onward after e m =
      let counts : (x : ℕ) → x < directories_of R → get_or after x 0 ≡ namings R x (suc d) = λ x h. m.counted x (omega (arith, p.kept)) ∙ times_are x h in
      record {
        kept = m.kept ∙ p.kept;
        low = λ x h. omega (arith, m.counted x (omega (arith, p.kept)), once (markable e) x h);
        counted = counts;
        shared = and_both p.shared (and_both (inside e) (later (markable e)));
      }

  pub onwards : (r : Bool) (after : List ℕ) (j : ℕ) → r ≡ is_part_markable named d (first_of R d) (count_of R d) R.kind R.value →
      (r ≡ true → Marked named (entries (count_of R d) (part (first_of R d) (count_of R d) R.kind) (part (first_of R d) (count_of R d) R.value)) after) →
      not r ≡ false → j ≡ d + 1 → Sofar R j after
  onwards r after j e m t q =
      subst (λ (n : ℕ). Sofar R n after) {x = suc d} {y = j} (omega arith) (onward after (sym e ∙ not-false r t) (m (not-false r t)))

  -- in a tree it can be
  markable_in_tree : d < directories_of R → is_tree R ≡ true → is_part_markable named d (first_of R d) (count_of R d) R.kind R.value ≡ true
  unfolding is_part_markable is_markable
  markable_in_tree h t =
      let fits : leb (first_of R d + count_of R d) (entries_of R) ≡ true = le-leb (first_of R d + count_of R d) (entries_of R) (share_inside R t d h) in
      let laters : every (names_later share (length named) d) (count_of R d) ≡ true =
      subst (λ (n : ℕ). every (names_later share n d) (count_of R d) ≡ true) (sym p.kept) (all_later R t d h) in
      let onces : every (λ x. leb (times named share x) 1) (length named) ≡ true =
      every_from (λ x. leb (times named share x) 1) (length named) (λ x k.
      le-leb (times named share x) 1 (omega (arith, times_are x (omega (arith, p.kept)), named_at_most_once R t x (suc d) (omega (arith, p.kept)) (omega arith)))) in
      and_both fits (and_both laters onces)

  no_tree : (b : Bool) → is_tree R ≡ b → d < directories_of R → is_part_markable named d (first_of R d) (count_of R d) R.kind R.value ≡ false → false ≡ is_tree R
  no_tree false e h f = sym e
  no_tree true e h f = never (sym f ∙ markable_in_tree h e)

  pub refused : (r : Bool) → r ≡ is_part_markable named d (first_of R d) (count_of R d) R.kind R.value → not r ≡ true → d < directories_of R → false ≡ is_tree R
  refused r e t h = no_tree (is_tree R) refl h (sym e ∙ not-true r t)

  -- all are marked: what is left is that each is named
  pub all_done : (r : Bool) → 0 < directories_of R → d ≤ directories_of R → directories_of R ≤ d → r ≡ every (is_named named) (length named) → r ≡ is_tree R
  unfolding is_tree is_named
  all_done r g h k e =
      let q : d ≡ directories_of R = omega arith in
      let s : every (is_share R) (directories_of R) ≡ true = subst (λ (n : ℕ). every (is_share R) n ≡ true) q p.shared in
      let same : every (is_named named) (directories_of R) ≡ every (named_once R) (directories_of R) =
      every_same (is_named named) (named_once R) (directories_of R) (λ x l.
      ap (λ (t : ℕ). pick (eqb x 0) true (eqb t 1)) (p.counted x l ∙ ap (namings R x) q)) in
      e ∙ ap (every (is_named named)) p.kept ∙ same ∙ sym (rw (lt-ltb 0 (directories_of R) g, s) refl)
