-- Sizing from the last directory back: all tables, or the first file that is too long. Assumes nothing.
use Prim.Native.Nat.{ℕ, zero, suc, ◌+◌, ◌*◌, ◌≤◌, ◌<◌}
use native.Mathlib.Omega.{arith}
use native.Mathlib.Decide.{ℕ_discrete}
use mathlib.Core.Path.{◌≡◌, refl, ap, subst, ◌∙◌}
use mathlib.Core.Bool.{Bool, true, false}
use mathlib.Core.Logic.{◌⊎◌, inl, inr}
use mathlib.Core.List.{List, [], ◌∷◌}
use lib.Dec.{ltb}
use lib.ListN.{length, set, length-set}
use borrow.Author.Tests.{le-ltb, ltb-true, ltb-false}
use Rattle.units.specs.Told.{Told, gives, refuses, pick}
use Rattle.dirtab_entry.specs.declared.Kind.TheVariants.{File, Directory}
use Rattle.dirtab_entry.specs.Entry as entries
use Rattle.avl_model.specs.Tree.{Tree}
use Rattle.table_model.specs.Table.{size_of}
use Rattle.img_model.specs.Shares.{Request, share_of, given_name, directories_of, first_of, count_of, is_directory, value_of}
use Rattle.img_model.specs.Plan.{table_in, size_at, given_at, entry_in, check_in, tree_in, if_grown, sizes_down}
use Rattle.agree.specs.Given.{grown}
use Rattle.agree_plan.proofs.Grew.{table_small}
use Rattle.agree_plan.proofs.NeverFive.{set_low}
use Rattle.agree_causes.specs.Plans.{FairImage, TooLong}
use Rattle.agree_causes.proofs.Checks.{size_left}
use Rattle.agree_causes.proofs.Growing.{Grows, all, stops, grows}

-- tables' sizes that are all low
abbrev pub Low : List ℕ → Type 0
Low s = (x : ℕ) → table_in s x ≤ 16384 * 2320

-- what an entry's size leaves of the check: b says that it is a directory, v is a file's length
abbrev Left : Bool → ℕ → Told (Unit {0}) → Type 0
Left b v x = ((x ≡ gives tt) × (b ≡ false → 4294967295 < v → ⊥)) ⊎ ((x ≡ refuses 10 []) × ((b ≡ false) × (4294967295 < v)))

abbrev asks : Bool → ℕ → Told (Unit {0})
asks b z = pick (ltb 4294967295 z) (refuses 10 []) (pick (pick (entries.is_directory (pick b Directory File)) (ltb 4294965248 z) false) (refuses 5 []) (gives tt))

by_length : (b : Bool) (x v : ℕ) → x ≤ 16384 * 2320 → Left b v (asks b (pick b x v))
by_length true x v h = inl (simp (le-ltb 4294967295 x (omega arith), le-ltb 4294965248 x (omega arith)), λ e l. let z : ◌≡◌ {A = ℕ} 0 1 = cc in absurd (omega arith))
by_length false x v h = go (ltb 4294967295 v) refl
  where
    go : (d : Bool) → ltb 4294967295 v ≡ d → Left false v (pick d (refuses 10 []) (gives tt))
    go true q = inr (refl, (refl, ltb-true 4294967295 v q))
    go false q = inl (refl, λ e l. let k : v ≤ 4294967295 = ltb-false 4294967295 v q in omega arith)

-- what going back ends in
pub data Downs (R : Request) : Told (List ℕ) → Type 0 where
  sized : (s : List ℕ) → ((d i : ℕ) → TooLong R d i → ⊥) → Low s → length s ≡ directories_of R → Downs R (gives s)
  stopped : (d i : ℕ) → TooLong R d i → ((e j : ℕ) → d < e → TooLong R e j → ⊥) → ((j : ℕ) → j < i → TooLong R d j → ⊥)
      → Downs R (refuses 10 ((first_of R d + i) ∷ []))

module _ (R : Request) (f : FairImage R) where
  module _ (sizes : List ℕ) (low : Low sizes) (d : ℕ) (hd : d < directories_of R) where
    abbrev name : ℕ → List ℕ
    name = given_name (share_of R d)

    abbrev check : ℕ → Told (Unit {0})
    check = check_in (share_of R d) (table_in sizes)

    judged : (i : ℕ) → i < count_of R d → ((check i ≡ gives tt) × (TooLong R d i → ⊥)) ⊎ ((check i ≡ refuses 10 []) × TooLong R d i)
    judged i h = go (by_length (is_directory (share_of R d) i) (table_in sizes (value_of (share_of R d) i)) (value_of (share_of R d) i) (low (value_of (share_of R d) i)))
      where
        left : check i ≡ asks (is_directory (share_of R d) i) (size_at (share_of R d) (table_in sizes) i)
        left =
            ap (λ (x : Told (Unit {0})). pick (ltb 4294967295 (size_at (share_of R d) (table_in sizes) i)) (refuses 10 []) x)
            (size_left (count_of R d) (share_of R d).start (share_of R d).len R.bytes (f.named d hd) i h (given_at (share_of R d) (table_in sizes) i) refl refl)

        go : Left (is_directory (share_of R d) i) (value_of (share_of R d) i) (asks (is_directory (share_of R d) i) (size_at (share_of R d) (table_in sizes) i))
            → ((check i ≡ gives tt) × (TooLong R d i → ⊥)) ⊎ ((check i ≡ refuses 10 []) × TooLong R d i)
        go (inl a) = inl (left ∙ a.0, λ t. a.1 t.file t.long)
        go (inr b) = inr (left ∙ b.0, record { directory = hd; entry = h; file = b.1.0; long = b.1.1 })

    pub tree_grows : Grows (given_name (share_of R d)) (count_of R d) 10 (TooLong R d) (tree_in (share_of R d) (table_in sizes))
    unfolding tree_in
    tree_grows = grows name check (count_of R d) (f.named d hd).few (f.named d hd).differ 10 (TooLong R d) judged

    -- the tree, where no file is too long
    pub tree_given : ((e i : ℕ) → TooLong R e i → ⊥) → tree_in (share_of R d) (table_in sizes) ≡ gives (grown (given_name (share_of R d)) (count_of R d))
    tree_given none = go tree_grows
      where
        go : {x : Told Tree} → Grows name (count_of R d) 10 (TooLong R d) x → x ≡ gives (grown name (count_of R d))
        go (all fine) = refl
        go (stops j h b fine) = absurd (none d j b)

  pub down : (n : ℕ) (sizes : List ℕ) → n ≤ directories_of R → length sizes ≡ directories_of R → Low sizes → ((d i : ℕ) → n ≤ d → TooLong R d i → ⊥) → Downs R (sizes_down R n sizes)
  unfolding sizes_down
  down zero sizes l long low fine = sized sizes (λ d i t. fine d i (omega arith) t) low long
  down (suc n) sizes l long low fine =
      go (tree_grows sizes low n (omega arith)) refl
      (λ h g. down n (set sizes n (size_of (entry_in (share_of R n) (table_in sizes)) (grown (given_name (share_of R n)) (count_of R n)))) (omega arith) (length-set sizes n _ ∙ long) h g)
    where
      go : {x : Told Tree} → Grows (given_name (share_of R n)) (count_of R n) 10 (TooLong R n) x → tree_in (share_of R n) (table_in sizes) ≡ x
          → (Low (set sizes n (size_of (entry_in (share_of R n) (table_in sizes)) (grown (given_name (share_of R n)) (count_of R n)))) → ((d i : ℕ) → n ≤ d → TooLong R d i → ⊥)
          → Downs R (sizes_down R n (set sizes n (size_of (entry_in (share_of R n) (table_in sizes)) (grown (given_name (share_of R n)) (count_of R n))))))
          → Downs R (if_grown R n x (λ t. sizes_down R n (set sizes n (size_of (entry_in (share_of R n) (table_in sizes)) t))))
      go (all none) q next =
          next (λ x. set_low sizes n _ x (table_small (share_of R n) (table_in sizes) _ q) (low x))
          (λ d i h t. elim (ℕ_discrete n d) [
            | yes e ↦ subst (λ (m : ℕ). TooLong R m i → ⊥) e (λ u. none i u.entry u) t
            | no e ↦ fine d i (omega arith) t
          ])
      go (stops j h b none) q next = stopped n j b (λ e k g t. fine e k (omega arith) t) none
