-- The first n places of the links are what listing takes; what it lists is the tree's preorder, and then what was there. Assumes nothing.
use Rattle.std.proofs.Common.{ℕ, ◌≤◌, ◌≡◌, sym, ap, subst, ◌∙◌, List, ◌++◌, length, take, drop, length-take-le, take_at, arith}
use Rattle.avl_model.specs.Tree.{Tree}
use Rattle.avl_model.specs.Laws as laws
use Rattle.avl_model.specs.Order.{order}
use Rattle.avl_model.specs.inner.Order.{Listed}
use Rattle.avl_model.proofs.Adding.{links_part}
use Rattle.avl_model.proofs.Order.{order-length}
use Rattle.dirtab_write.specs.inner.Columns.{Cols}
use Rattle.dirtab_write.specs.inner.Holds.{Holds}
use Rattle.dirtab_held.specs.inner.Held.{Hung, Rooted, Listing}

module _ (left right : List ℕ) (root n : ℕ) (t : Tree) (h : Hung left right root n t) where
  left_long : n ≡ length (take n left)
  left_long = sym (length-take-le n left h.in_left)

  right_long : n ≡ length (take n right)
  right_long = sym (length-take-le n right h.in_right)

  pub listed_asks : (places : ℕ) → n ≤ places → Listed (take n left) (take n right) root places
  listed_asks places room = record {
    t = t;
    n_is = sym right_long ∙ left_long;
    small = omega (arith, left_long, h.small);
    links = links_part left right n (length (take n left)) t (sym left_long) h.links;
    root_is = h.root_is;
    low = h.low;
    room = omega (arith, h.size_is);
  }

  pub listed_is : (list₀ list₁ : List ℕ) → n ≤ length list₀
      → ((w : Listed (take n left) (take n right) root (length list₀)) → list₁ ≡ order w.t ++ drop (laws.size w.t) list₀) → list₁ ≡ order t ++ drop n list₀
  unfolding listed_asks
  listed_is list₀ list₁ room lists = lists (listed_asks (length list₀) room) ∙ ap (λ (m : ℕ). order t ++ drop m list₀) h.size_is

module _ (c : Cols) (root n : ℕ) (t : Tree) (h : Rooted c root n t) where
  pub hung : Hung c.left c.right root n t
  hung = record {
    small = h.holds.small;
    links = h.holds.links;
    in_left = h.holds.in_left;
    in_right = h.holds.in_right;
    root_is = h.root_is;
    low = h.low;
    size_is = h.size_is;
  }

  -- the first n places of the list that was made of `list₀`
  module _ (list₀ list₁ : List ℕ) (lists : (t : Tree) → Hung c.left c.right root n t → list₁ ≡ order t ++ drop n list₀) where
    first : take n list₁ ≡ order t
    first = ap (take n) (lists t hung) ∙ take_at (order t) (drop n list₀) n (order-length t ∙ h.size_is)

    pub first_long : n ≡ length (take n list₁)
    first_long = sym h.size_is ∙ sym (order-length t) ∙ ap length (sym first)

    pub listing : (places : ℕ) → n ≤ places → Listing (take n list₁) c places t
    listing places fits = record {
      listed_is = first;
      holds = subst (λ (m : ℕ). Holds c m t) first_long h.holds;
      room = omega (arith, first_long);
    }
