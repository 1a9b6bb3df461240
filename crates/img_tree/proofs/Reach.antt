-- Marking the entries of one directory, where they are a part of a list. Assumes nothing.
use Prim.Native.Nat.{ℕ, ◌+◌, ◌-◌, ◌≤◌, ◌<◌}
use native.Mathlib.Omega.{arith}
use mathlib.Core.Path.{◌≡◌, refl, sym, ap, subst, ◌∙◌}
use mathlib.Core.Bool.{Bool, true, false, ◌&&◌}
use mathlib.Core.List.{List}
use lib.ListN.{length, take, drop, length-drop}
use lib.Seq.{length-take-le}
use borrow.Author.Tests.{le-leb, lt-leb}
use Rattle.img_model.specs.Shares.{Share, part}
use Rattle.img_tree.specs.inner.Marks.{entries, is_markable, Marked, is_part_markable}

module _ (named : List ℕ) (d f n : ℕ) (kind value : List ℕ) where
  -- they reach past the list
  pub past_list : length kind < f + n → false ≡ is_part_markable named d f n kind value
  unfolding is_part_markable
  past_list h = sym (ap (λ (b : Bool). b && is_markable named d (entries n (part f n kind) (part f n value))) (lt-leb (f + n) (length kind) h))

  -- the part, as it is cut
  abbrev as_cut : Share
  as_cut = entries (length (take (f + n - f) (drop f kind))) (take (f + n - f) (drop f kind)) (take (f + n - f) (drop f value))

  module _ (h : f + n ≤ length kind) where
    cut : as_cut ≡ entries n (part f n kind) (part f n value)
    cut =
        let k : f + n - f ≡ n = omega arith in
        let l : length (take n (drop f kind)) ≡ n = length-take-le n (drop f kind) (omega (arith, length-drop f kind)) in
        rw (k, l) refl

    pub in_list : (r : Bool) → r ≡ is_markable named d as_cut → r ≡ is_part_markable named d f n kind value
    unfolding is_part_markable
    in_list r e =
        e ∙ ap (is_markable named d) cut ∙ sym (ap (λ (b : Bool). b && is_markable named d (entries n (part f n kind) (part f n value))) (le-leb (f + n) (length kind) h))

    pub marked_in_list : (r : Bool) (after : List ℕ) → (r ≡ true → Marked named as_cut after) → r ≡ true → Marked named (entries n (part f n kind) (part f n value)) after
    marked_in_list r after m t = subst (λ (S : Share). Marked named S after) cut (m t)
