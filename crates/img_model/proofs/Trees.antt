-- What the tree of a directory's entries depends on, and which of them a refusal names. Assumes nothing.
use Prim.Native.Nat.{ℕ, zero, suc, ◌+◌, ◌≤◌, ◌<◌}
use native.Mathlib.Omega.{arith}
use mathlib.Core.Path.{◌≡◌, refl, sym, ap, subst, ◌∙◌}
use mathlib.Core.Bool.{Bool, true, false}
use mathlib.Core.List.{[], ◌∷◌}
use lib.Dec.{ltb}
use lib.ListN.{get_or}
use Rattle.units.specs.Told.{Told, gives, refuses, pick}
use Rattle.std.specs.declared.cmp.Ordering.{Ordering}
use Rattle.dirtab_entry.specs.Entry.{kind_for, check_of}
use Rattle.avl_model.specs.declared.Spot.{Spot}
use Rattle.avl_model.specs.declared.Spot.TheVariants.{Same, Free}
use Rattle.avl_model.specs.declared.Place.TheVariants.{Root}
use Rattle.avl_model.specs.Names.{is_less}
use Rattle.avl_model.specs.Seek.{spot_in}
use Rattle.avl_model.specs.Tree.{Tree, leaf, node, ins}
use Rattle.table_model.specs.Place.{end_of, stop_of}
use Rattle.table_model.specs.Table.{size_of}
use Rattle.dirtab_grow.specs.Grow.{if_taken, if_free, grow_from, order_in}
use Rattle.dirtab_grow.proofs.Growth.{same_checks}
use Rattle.img_model.specs.Shares.{Share, is_directory, value_of}
use Rattle.img_model.specs.Plan.{size_at, given_at, entry_in, check_in, tree_in}

-- ---- a refusal names one of the numbers that are added

-- a refusal of a number from lo up to, not including, hi
abbrev Within : ℕ → ℕ → Told Tree → Type 0
Within lo hi (gives t) = Unit {0}
Within lo hi (refuses k vs) = (lo ≤ get_or vs 0 0) × (get_or vs 0 0 < hi)

taken_within : (lo hi i : ℕ) (u : Told (Unit {0})) (x : Told Tree) → lo ≤ i → i < hi → Within lo hi x → Within lo hi (if_taken i u x)
taken_within lo hi i (gives v) x p q w = w
taken_within lo hi i (refuses k vs) x p q w = (p, q)

free_within : (lo hi i : ℕ) (s : Spot) (x : Told Tree) → lo ≤ i → i < hi → Within lo hi x → Within lo hi (if_free i s x)
free_within lo hi i (Same j) x p q w = (p, q)
free_within lo hi i (Free j) x p q w = w

few_within : (lo hi i : ℕ) (b : Bool) (x : Told Tree) → lo ≤ i → i < hi → Within lo hi x → Within lo hi (pick b x (refuses 6 (i ∷ [])))
few_within lo hi i true x p q w = w
few_within lo hi i false x p q w = (p, q)

wider : (lo lo₁ hi hi₁ : ℕ) (x : Told Tree) → lo ≤ lo₁ → hi₁ ≤ hi → Within lo₁ hi₁ x → Within lo hi x
wider lo lo₁ hi hi₁ (gives t) p q w = tt
wider lo lo₁ hi hi₁ (refuses k vs) p q w = (omega (arith, w.0), omega (arith, w.1))

grow_within : (c : ℕ → Told (Unit {0})) (between : ℕ → ℕ → Ordering) (k i : ℕ) (t : Tree) → Within i (i + k) (grow_from c between k i t)
unfolding grow_from
grow_within c between zero i t = tt
grow_within c between (suc k) i t =
    let u : Tree = ins (λ j. is_less (between i j)) i t in
    let p : i ≤ i = omega arith in
    let q : i < i + suc k = omega arith in
    taken_within i (i + suc k) i (c i) _ p q
    (free_within i (i + suc k) i (spot_in (between i) t Root) _ p q
    (few_within i (i + suc k) i (ltb i 16384) (grow_from c between k (i + 1) u) p q
    (wider i (i + 1) (i + suc k) (i + 1 + k) (grow_from c between k (i + 1) u) (omega arith) (omega arith) (grow_within c between k (i + 1) u))))

module _ (S : Share) (tab : ℕ → ℕ) where
  pub refused_inside : (k i : ℕ) → tree_in S tab ≡ refuses k (i ∷ []) → i < S.count
  unfolding tree_in
  refused_inside k i e =
      let w : Within 0 (0 + S.count) (refuses k (i ∷ [])) = subst (Within 0 (0 + S.count)) e (grow_within (check_in S tab) (order_in S.bytes (given_at S tab)) S.count 0 leaf) in
      omega (arith, w.1)

  module _ (other : ℕ → ℕ) where
    size_by : (b : Bool) (i : ℕ) → is_directory S i ≡ b → (is_directory S i ≡ true → tab (value_of S i) ≡ other (value_of S i)) → size_at S tab i ≡ size_at S other i
    size_by true i e h = ap (λ (z : ℕ). pick (is_directory S i) z (value_of S i)) (h e)
    size_by false i e h =
        ap (λ (b : Bool). pick b (tab (value_of S i)) (value_of S i)) e ∙ ap (λ (b : Bool). pick b (other (value_of S i)) (value_of S i)) (sym e)

    check_same : (i : ℕ) → (is_directory S i ≡ true → tab (value_of S i) ≡ other (value_of S i)) → check_in S tab i ≡ check_in S other i
    check_same i h =
        ap (λ (z : ℕ). pick (ltb 4294967295 z) (refuses 10 [])
        (check_of S.bytes (record { start = get_or S.start i 0; len = get_or S.len i 0; kind = kind_for (get_or S.kind i 0); size = z })))
        (size_by (is_directory S i) i refl h)

    -- two tables' sizes that agree on a share's directories give the same tree
    pub tree_same : ((i : ℕ) → i < S.count → is_directory S i ≡ true → tab (value_of S i) ≡ other (value_of S i)) → tree_in S tab ≡ tree_in S other
    unfolding tree_in
    tree_same h = same_checks (order_in S.bytes (given_at S tab)) (check_in S tab) (check_in S other) S.count 0 leaf (λ j p q. check_same j (h j (omega arith)))

    -- ---- where entries end depends on their names alone

    end_same : (e : ℕ) (t : Tree) → end_of (entry_in S tab) e t ≡ end_of (entry_in S other) e t
    unfolding end_of
    end_same e leaf = refl
    end_same e (node l i r) =
        ap (λ (v : ℕ). end_of (entry_in S tab) v r) (end_same (stop_of (entry_in S tab) e i) l) ∙
        end_same (end_of (entry_in S other) (stop_of (entry_in S other) e i) l) r

    pub size_same : (t : Tree) → size_of (entry_in S tab) t ≡ size_of (entry_in S other) t
    size_same leaf = refl
    size_same (node l i r) = end_same 0 (node l i r)
