-- The first places of columns hold a tree of the first numbers exactly where the whole columns do. Assumes nothing.
use Rattle.std.proofs.Common.{ℕ, ◌+◌, ◌-◌, ◌<◌, arith, ◌≡◌, refl, sym, ap, subst, ◌∙◌, Bool, List, ◌++◌, length, take, drop, length-take-le, get_or-take, Result}
use lib.ListN.{get_or-append}
use Rattle.units.specs.Told.{Told, gives}
use Rattle.dirtab_entry.specs.Entry.{check_of}
use Rattle.avl_model.specs.declared.Place.TheVariants.{Root, Right}
use Rattle.avl_model.specs.declared.Spot.{Spot}
use Rattle.avl_model.specs.declared.Spot.TheVariants.{Free}
use Rattle.avl_model.specs.Tree.{Tree, none, ins}
use Rattle.avl_model.specs.Lists.{Lists, lists}
use Rattle.avl_model.specs.Names.{Names, names_in, by_name, is_less}
use Rattle.avl_model.specs.Rep.{arr_of}
use Rattle.avl_model.specs.inner.Held.{Long}
use Rattle.avl_model.specs.Seek.{spot_in, tree_at}
use Rattle.dirtab_arena.proofs.Fine.{fine_of}
use Rattle.avl_model.proofs.Adding.{below}
use Rattle.avl_model.proofs.Counted.{all_at}
use Rattle.avl_model.proofs.Frame.{Agree, frame}
use Rattle.dirtab_entry.specs.declared.Cause.{Cause}
use Rattle.dirtab_grow.proofs.Columns.{sought_in}
use Rattle.dirtab_grow.proofs.Rightmost.{links_tree}
use Rattle.dirtab_grow.specs.Listing.{Listing, given_in}
use Rattle.dirtab_grow.specs.inner.Growing.{step_of, After, Grown, Growing, Hangable, Wide, Stepped}

-- columns that agree on the first n places hold the same tree of n numbers
pub frame_grown : (S T : Lists) (N : Names) (n : ℕ) (t : Tree) → T.root ≡ S.root → ((j : ℕ) → j < n → Agree (arr_of S) (arr_of T) j) → Grown S N n t → Grown T N n t
frame_grown S T N n t e f g = record {
  held = record {
    link = e ∙ g.held.link;
    rep = frame (arr_of S) (arr_of T) n t none (λ j h. f j (all_at (λ i. i < n) t j (below (arr_of S) n none t g.held.rep) h)) g.held.rep;
    krep = tt;
    once = g.held.once;
  };
  full = g.full;
  even = g.even;
  named = g.named;
  low = g.low;
}

abbrev names_for : Listing → Names
names_for L = names_in L.bytes L.start L.len

module _ (S : Lists) (K : List ℕ) (L : Listing) (i end : ℕ) (end_is : end ≡ i + 1) (wide : Wide S K i) where
  abbrev N : Names
  N = names_for L

  abbrev front : Lists
  front = lists S.root (take end S.L) (take end S.R) (take end S.P) (take end S.H)

  long_front : Long (i + 1) front
  long_front = record {
    l = length-take-le end S.L (omega (arith, wide.l)) ∙ end_is;
    r = length-take-le end S.R (omega (arith, wide.r)) ∙ end_is;
    p = length-take-le end S.P (omega (arith, wide.p)) ∙ end_is;
    h = length-take-le end S.H (omega (arith, wide.h)) ∙ end_is;
  }

  unfoldable growing_front : Growing S K N i → Growing front K N i
  growing_front w = record {
    t = w.t;
    grown = frame_grown S front N i w.t refl (λ j h. record {
      l = get_or-take end S.L j 0 (omega arith);
      r = get_or-take end S.R j 0 (omega arith);
      p = get_or-take end S.P j 0 (omega arith);
      h = get_or-take end S.H j 0 (omega arith);
    }) w.grown;
    keyed = w.keyed;
  }

  -- an entry that passed its checks may be put in there
  pub hangable : i < length L.start → i < length L.len → check_of L.bytes (given_in L i) ≡ gives tt → Growing S K N i → Hangable front K N i
  hangable in_start in_len e w = let g = fine_of L.bytes (given_in L i) e in record {
    growing = growing_front w;
    long = long_front;
    has = wide.k;
    inside = record { starts = in_start; ends = in_len; fits = g.inside };
    short = g.short;
  }

  -- where the entry is known to come after the one before it, it does so there
  pub after_front : {after : Bool} (w : Growing S K N i) → After after N w.t i → After after N (tree_at 100 (take end S.L) (take end S.R) S.root) i
  unfolding growing_front sought_in
  after_front w f = λ e. ((f e).0, subst (λ (t : Tree). spot_in (by_name N i) t Root ≡ Free (Right (i - 1))) (sym (links_tree (sought_in front K N i long_front (growing_front w)))) (f e).1)

  abbrev spot : Tree → Spot
  spot t = spot_in (by_name N i) t Root

  abbrev more : Tree → Tree
  more t = ins (λ j. is_less (by_name N i j)) i t

  -- what the first places hold then, all of the columns do
  pub out_hung : {root : ℕ} {l r p h J : List ℕ} {x : Result (Unit {0}) Cause} {u : Told (Unit {0})}
      → length l ≡ length (take end S.L) → length r ≡ length (take end S.R) → length p ≡ length (take end S.P) → length h ≡ length (take end S.H)
      → u ≡ gives tt
      → ((v : Growing front K N i) → Stepped x (gives tt) (spot v.t) i (lists root l r p h) J N (more v.t))
      → (w : Growing S K N i) → Stepped x u (spot w.t) i (lists root (l ++ drop end S.L) (r ++ drop end S.R) (p ++ drop end S.P) (h ++ drop end S.H)) J N (more w.t)
  unfolding growing_front
  out_hung {root} {l} {r} {p} {h} {J} {x} {u} el er ep eh eu f w =
      let k = f (growing_front w) in
      let n = long_front in
      record {
        answer = λ y. k.answer y ∙ ap (λ (v : Told (Unit {0})). step_of v (spot w.t) i y) (sym eu);
        taken = λ e. frame_grown (lists root l r p h) (lists root (l ++ drop end S.L) (r ++ drop end S.R) (p ++ drop end S.P) (h ++ drop end S.H)) N (i + 1) (more w.t) refl (λ j q. record {
          l = get_or-append l (drop end S.L) 0 j (omega (arith, el, n.l));
          r = get_or-append r (drop end S.R) 0 j (omega (arith, er, n.r));
          p = get_or-append p (drop end S.P) 0 j (omega (arith, ep, n.p));
          h = get_or-append h (drop end S.H) 0 j (omega (arith, eh, n.h));
        }) (k.taken e);
        keyed = k.keyed;
      }
