-- What building answered and left, as what arranging is to answer and to leave. Assumes nothing.
use Prim.Native.Nat.{ℕ, ◌≤◌, ◌<◌}
use native.Mathlib.Omega.{arith}
use mathlib.Core.Path.{◌≡◌, refl, sym, ap, subst, ◌∙◌}
use mathlib.Core.List.{List, [], ◌∷◌, ◌++◌, append-nil}
use lib.ListN.{length, get_or, take, drop, drop_of_length-le}
use lib.Seq.{length-take-le, get_or-take}
use Rattle.units.specs.Told.{Told, refuses}
use Rattle.avl_model.specs.Tree.{Tree, none}
use Rattle.avl_model.specs.Laws as laws
use Rattle.avl_model.specs.Lists.{Lists, lists}
use Rattle.avl_model.specs.Names.{Names, names_in}
use Rattle.avl_model.specs.Rep.{arr_of}
use Rattle.avl_model.specs.inner.Seek.{Links}
use Rattle.avl_model.specs.Order.{order}
use Rattle.avl_model.specs.inner.Order.{Listed}
use Rattle.avl_model.proofs.Adding.{links_of, below}
use Rattle.avl_model.proofs.Avl.{at_most_22}
use Rattle.avl_model.proofs.Counted.{each_size}
use Rattle.dirtab_grow.specs.Listing.{listing}
use Rattle.dirtab_grow.specs.inner.Growing.{Grown, Holding, Roomy}
use Rattle.dirtab_grow.proofs.Prefix.{frame_grown}
use Rattle.img_model.specs.Shares.{Share}
use Rattle.img_model.specs.Plan.{size_at, tree_in}
use Rattle.std.specs.Prelude.{Result, Ok, Err, IsErrAnd}
use Rattle.dirtab_entry.specs.declared.Cause.{Cause}
use Rattle.dirtab_entry.specs.Entry.{cause_number}
use Rattle.img_table.specs.declared.EntryError.{EntryError}
use Rattle.img_table.specs.declared.EntryError.TheVariants as error
use Rattle.img_table.specs.inner.Arranging.{fitting, Arrangeable, Ordered, Arrangement, refused}
use Rattle.img_table.proofs.Treed.{front, to_count, tree_large, tree_whole}

-- the first n places of columns that hold a tree of n numbers are what listing takes
module _ (T : Lists) (N : Names) (g : Told Tree) (n : ℕ) (w : Holding g T N n) (in_left : n ≤ length T.L) (in_right : n ≤ length T.R) where
  abbrev part : Lists
  part = lists T.root (take n T.L) (take n T.R) T.P T.H

  pub left_long : n ≡ length (take n T.L)
  left_long = sym (length-take-le n T.L in_left)

  pub right_long : n ≡ length (take n T.R)
  right_long = sym (length-take-le n T.R in_right)

  pub held : Grown part N n w.t
  held = frame_grown T part N n w.t refl (λ j h. record { l = get_or-take n T.L j 0 h; r = get_or-take n T.R j 0 h; p = refl; h = refl }) w.grown

  pub nodes : laws.size w.t ≡ n
  nodes = each_size n w.t (below (arr_of T) n none w.t w.grown.held.rep) (λ j h. omega (arith, w.grown.held.once j, w.grown.full j h))

  unfoldable pub listed_asks : (places : ℕ) → n ≤ places → Listed (take n T.L) (take n T.R) T.root places
  listed_asks places room = record {
    t = w.t;
    n_is = sym right_long ∙ left_long;
    small = omega (arith, left_long, w.grown.low);
    links = subst (λ (m : ℕ). Links (take n T.L) (take n T.R) m w.t) left_long (links_of part n none w.t held.held.rep);
    root_is = w.grown.held.link;
    low = at_most_22 n w.t (omega (arith, w.grown.low)) (below (arr_of T) n none w.t w.grown.held.rep) (λ j. omega (arith, w.grown.held.once j)) w.grown.even;
    room = omega (arith, nodes);
  }

  -- a list of just so many places is then the preorder
  pub listed_whole : (list₀ list₁ : List ℕ) → length list₀ ≡ n
      → ((v : Listed (take n T.L) (take n T.R) T.root (length list₀)) → list₁ ≡ order v.t ++ drop (laws.size v.t) list₀) → list₁ ≡ order w.t
  unfolding listed_asks
  listed_whole list₀ list₁ long f =
      f (listed_asks (length list₀) (omega arith))
      ∙ ap (λ (xs : List ℕ). order w.t ++ xs) (drop_of_length-le list₀ {i = laws.size w.t} (omega (arith, nodes)))
      ∙ append-nil (order w.t)

-- m is the number of the first entry that is too large, `size` has the sizes of those before it, and r is what building answered of them
module _ (S : Share) (tab : ℕ → ℕ) (size : List ℕ) (m : ℕ) (m-is : m ≡ fitting (size_at S tab) S.count 0)
    (sizes : (i : ℕ) → i < m → get_or size i 0 ≡ size_at S tab i) where
  abbrev N : Names
  N = names_in S.bytes S.start S.len

  -- the columns have a place for each of them
  pub roomy : {tables z o : ℕ} (T : Lists) (K : List ℕ)
      → Arrangeable S tables (record { left = length T.L; right = length T.R; parent = length T.P; height = length T.H; key = length K; size = z }) o
      → length S.kind ≡ S.count → length size ≡ z → Roomy (listing m S.start S.len size S.kind S.bytes) T K m
  roomy T K a q e =
      let c : m ≤ S.count = to_count S tab size m m-is sizes in
      record {
        start = omega (arith, a.started);
        len = omega (arith, a.named);
        size = omega (arith, a.fillable.roomy);
        kind = omega arith;
        l = omega (arith, a.l);
        r = omega (arith, a.r);
        p = omega (arith, a.p);
        h = omega (arith, a.h);
        k = omega (arith, a.k);
      }

  module _ (T : Lists) (held : Holding (front S tab size m m-is sizes) T N m) where
    pub out_large : m < S.count → tree_in S tab ≡ refuses 10 (m ∷ [])
    out_large h = tree_large S tab size m m-is sizes held.told h

    module _ (hl : m ≤ length T.L) (hr : m ≤ length T.R) where
      pub out_asks : (places : ℕ) → m ≤ places → Listed (take m T.L) (take m T.R) T.root places
      out_asks = listed_asks T N (front S tab size m m-is sizes) m held hl hr

      pub out_whole : (list₀ list₁ : List ℕ) → length list₀ ≡ S.count → S.count ≤ m
          → ((v : Listed (take m T.L) (take m T.R) T.root (length list₀)) → list₁ ≡ order v.t ++ drop (laws.size v.t) list₀) → Ordered (tree_in S tab) list₁
      out_whole list₀ list₁ long h f =
          let c : m ≤ S.count = to_count S tab size m m-is sizes in
          record {
            t = held.t;
            told = tree_whole S tab size m m-is sizes held.told h;
            listed_is = listed_whole T N (front S tab size m m-is sizes) m held hl hr list₀ list₁ (omega arith) f;
          }

-- ---- a refusal that is passed on

pub passed_on : (r : Result (Unit {0}) EntryError) (c : Cause) (i : ℕ) (g : Told Tree) (listed : List ℕ)
    → IsErrAnd r (λ e. e ≡ error.Refused c i) → g ≡ refuses (cause_number c) (i ∷ []) → Arrangement r g listed
passed_on (Ok u) c i g listed h q = absurd h
passed_on (Err e) c i g listed h q = q ∙ sym (ap refused h)
