-- What a caller of sizing goes by: the rule gives what is asked of a request, and what was in the sizes' column before makes no difference. Assumes nothing.
use Prim.Native.Nat.{ℕ, zero, suc, ◌≤◌, ◌<◌}
use native.Mathlib.Omega.{arith}
use native.Mathlib.Decide.{ℕ_discrete}
use mathlib.Core.Path.{◌≡◌, refl, sym, ap, ◌∙◌}
use mathlib.Core.Bool.{true}
use mathlib.Core.List.{List}
use lib.ListN.{length, set, length-set}
use lib.Seq.{get_or-set_same, get_or-set_other, ext_get_or}
use Rattle.units.specs.Told.{Told, gives, refuses}
use Rattle.avl_model.specs.Tree.{Tree}
use Rattle.table_model.specs.Table.{size_of}
use Rattle.img_model.specs.Shares.{Request, share_of, directories_of, entries_of, value_of, is_tree}
use Rattle.img_model.specs.Plan.{table_in, entry_in, tree_in, if_grown, sizes_down}
use Rattle.img_model.proofs.Rule.{share_inside, names_later_lem, names_one}
use Rattle.img_model.proofs.Trees.{tree_same, size_same}
use Rattle.img_model.specs.inner.Tables.{Sizeable}

pub tree_sizeable : (R : Request) → is_tree R ≡ true → length R.share ≡ directories_of R →
    length R.start ≡ entries_of R → length R.len ≡ entries_of R → length R.value ≡ entries_of R →
    directories_of R ≤ 4294967295 → entries_of R ≤ 4294967295 → Sizeable R
tree_sizeable R p sh st le va dl el = record {
  shared = sh;
  started = st;
  named = le;
  valued = va;
  few = dl;
  low = el;
  inside = share_inside R p;
  later = λ d i h k e. (names_later_lem R p d h i k e, names_one R p d h i k e);
}

-- two answers that are the same, and the same way on from any tree
grown_same : (R : Request) (n : ℕ) (g g₁ : Told Tree) (next next₁ : Tree → Told (List ℕ)) → g ≡ g₁ → ((t : Tree) → next t ≡ next₁ t) → if_grown R n g next ≡ if_grown R n g₁ next₁
grown_same R n g g₁ next next₁ e f = ap (λ (x : Told Tree). if_grown R n x next) e ∙ on g₁
  where
    on : (x : Told Tree) → if_grown R n x next ≡ if_grown R n x next₁
    on (gives t) = f t
    on (refuses k vs) = refl

set_agrees : (a b : List ℕ) (n v w bound : ℕ) → length a ≡ bound → length b ≡ bound → n < bound → v ≡ w →
    ((x : ℕ) → suc n ≤ x → x < bound → table_in a x ≡ table_in b x) → (x : ℕ) → n ≤ x → x < bound → table_in (set a n v) x ≡ table_in (set b n w) x
set_agrees a b n v w bound la lb h e f x p q = elim (ℕ_discrete x n) [
  | yes k ↦
      ap (λ (y : ℕ). table_in (set a n v) y) k ∙ get_or-set_same a n v 0 (omega arith) ∙ e ∙ sym (get_or-set_same b n w 0 (omega arith)) ∙
      ap (λ (y : ℕ). table_in (set b n w) y) (sym k)
  | no k ↦ get_or-set_other a n x v 0 k ∙ f x (omega arith) q ∙ sym (get_or-set_other b n x w 0 k)
]

-- lists of sizes that agree from directory n on
pub sizes_agree : (R : Request) → Sizeable R → (n : ℕ) (a b : List ℕ) → length a ≡ directories_of R → length b ≡ directories_of R → n ≤ directories_of R →
    ((x : ℕ) → n ≤ x → x < directories_of R → table_in a x ≡ table_in b x) → sizes_down R n a ≡ sizes_down R n b
unfolding sizes_down
sizes_agree R s zero a b la lb h f = ap gives (ext_get_or 0 a b (la ∙ sym lb) (λ x q. f x (omega arith) (omega arith)))
sizes_agree R s (suc n) a b la lb h f =
    let same : tree_in (share_of R n) (table_in a) ≡ tree_in (share_of R n) (table_in b) =
    tree_same (share_of R n) (table_in a) (table_in b)
    (λ i k e. f (value_of (share_of R n) i) (omega (arith, s.later n i (omega arith) k e)) (omega (arith, s.later n i (omega arith) k e))) in
    grown_same R n (tree_in (share_of R n) (table_in a)) (tree_in (share_of R n) (table_in b)) _ _ same
    (λ t.
    sizes_agree R s n (set a n (size_of (entry_in (share_of R n) (table_in a)) t)) (set b n (size_of (entry_in (share_of R n) (table_in b)) t))
    (length-set a n _ ∙ la) (length-set b n _ ∙ lb) (omega arith)
    (set_agrees a b n _ _ (directories_of R) la lb (omega arith) (size_same (share_of R n) (table_in a) (table_in b) t) f))

-- so any two that are as long as there are directories
pub sizes_any : (R : Request) → Sizeable R → (a b : List ℕ) → length a ≡ directories_of R → length b ≡ directories_of R →
    sizes_down R (directories_of R) a ≡ sizes_down R (directories_of R) b
sizes_any R s a b la lb = sizes_agree R s (directories_of R) a b la lb (omega arith) (λ x p q. absurd (omega arith))
