-- A CAUSE HAS ONE ANSWER: no two of the four outcomes are there together, of a list or of a plan. Assumes nothing.
use Prim.Native.Nat.{ℕ, suc, ◌+◌, ◌<◌}
use native.Mathlib.Omega.{arith}
use native.Mathlib.Decide.{dec_lt, ℕ_discrete}
use mathlib.Core.Path.{◌≡◌, refl, sym, ap, subst, ◌∙◌}
use mathlib.Core.List.{List, [], ◌∷◌, Memᴰ}
use lib.Seq.{ext_get_or}
use Rattle.units.specs.Told.{Told, gives, refuses}
use Rattle.table_model.specs.Entry.{Item}
use Rattle.table_model.specs.Table.{Placing}
use Rattle.table_model.specs.Said.{AllIn}
use Rattle.table_model.proofs.Geometry.{of_item}
use Rattle.dirtab_list.specs.Whole.{Listing}
use Rattle.img_model.specs.Shares.{Request, share_of, directories_of, first_of}
use Rattle.img_model.specs.Plan.{table_in}
use Rattle.img_model.proofs.Trees.{size_same}
use Rattle.agree_causes.specs.Lists.{Near, farthest, last_sector, WriteOutcome}
use Rattle.agree_causes.specs.Lists as lists
use Rattle.agree_causes.specs.Plans.{TooLong, tree_for, SizesOf, free_before, items_for, Placeable, PlanOutcome}
use Rattle.agree_causes.specs.Plans as plans

-- a far item is not near
clash : (xs : List Item) (y : Item) → AllIn Near xs → Memᴰ y xs → farthest < y.offset → ⊥
clash xs y a m h = let k = of_item Near xs y a m in omega arith

-- two numbers that are each the first are one
firsts : (i j : ℕ) → (j < i → ⊥) → (i < j → ⊥) → i ≡ j
firsts i j f g = elim (ℕ_discrete i j) [
  | yes e ↦ e
  | no d ↦ elim (dec_lt i j) [ yes h ↦ absurd (g h) | no h ↦ absurd (f (omega arith)) ]
]

module _ (L : Listing) (s : ℕ) where
  pub one_outcome : {x y : Told Placing} → WriteOutcome L s x → WriteOutcome L s y → x ≡ y
  one_outcome (lists.written n a l) (lists.written n₂ a₂ l₂) = refl
  one_outcome (lists.written n a l) (lists.five i h t f) = absurd (n i h t)
  one_outcome (lists.written n a l) (lists.seven n₂ y m h) = absurd (clash _ y a m h)
  one_outcome (lists.written n a l) (lists.eight n₂ a₂ h) = absurd (omega arith)
  one_outcome (lists.five i h t f) (lists.written n a l) = absurd (n i h t)
  one_outcome (lists.five i h t f) (lists.five i₂ h₂ t₂ f₂) = ap (λ (k : ℕ). refuses 5 (k ∷ [])) (firsts i i₂ (λ l. f i₂ l t₂) (λ l. f₂ i l t))
  one_outcome (lists.five i h t f) (lists.seven n y m g) = absurd (n i h t)
  one_outcome (lists.five i h t f) (lists.eight n a g) = absurd (n i h t)
  one_outcome (lists.seven n y m h) (lists.written n₂ a l) = absurd (clash _ y a m h)
  one_outcome (lists.seven n y m h) (lists.five i g t f) = absurd (n i g t)
  one_outcome (lists.seven n y m h) (lists.seven n₂ y₂ m₂ h₂) = refl
  one_outcome (lists.seven n y m h) (lists.eight n₂ a g) = absurd (clash _ y a m h)
  one_outcome (lists.eight n a h) (lists.written n₂ a₂ l) = absurd (omega arith)
  one_outcome (lists.eight n a h) (lists.five i g t f) = absurd (n i g t)
  one_outcome (lists.eight n a h) (lists.seven n₂ y m g) = absurd (clash _ y a m g)
  one_outcome (lists.eight n a h) (lists.eight n₂ a₂ h₂) = refl

module _ (R : Request) where
  -- THE SIZES of the tables are one list
  pub one_sizes : (s z : List ℕ) → SizesOf R s → SizesOf R z → s ≡ z
  one_sizes s z a b =
      ext_get_or 0 s z (a.long ∙ sym b.long) (λ d h.
      let k : d < directories_of R = omega (arith, a.long) in
      a.each d k
      ∙ size_same (share_of R d) (table_in s) (table_in z) (tree_for R s d)
      ∙ sym (b.each d k))

  -- directory d is the first that cannot be placed, by 7 or by 8
  abbrev Before : List ℕ → ℕ → Type 0
  Before s d = (e : ℕ) → e < d → Placeable R s e

  abbrev Seven : List ℕ → ℕ → Type 0
  Seven s d = Before s d × ((y : Item) × (Memᴰ y (items_for R s d) × (farthest < y.offset)))

  abbrev Eight : List ℕ → ℕ → Type 0
  Eight s d = Before s d × (AllIn Near (items_for R s d) × (last_sector < free_before R s (suc d)))

  not_seven : (s : List ℕ) (d : ℕ) → Placeable R s d → Seven s d → ⊥
  not_seven s d p f = clash (items_for R s d) f.1.0 p.near f.1.1.0 f.1.1.1

  not_eight : (s : List ℕ) (d : ℕ) → Placeable R s d → Eight s d → ⊥
  not_eight s d p f = let a = p.low in let b = f.1.1 in omega arith

  sevens : (s : List ℕ) (d e : ℕ) → Seven s d → Seven s e → d ≡ e
  sevens s d e a b = firsts d e (λ l. not_seven s e (a.0 e l) b) (λ l. not_seven s d (b.0 d l) a)

  eights : (s : List ℕ) (d e : ℕ) → Eight s d → Eight s e → d ≡ e
  eights s d e a b = firsts d e (λ l. not_eight s e (a.0 e l) b) (λ l. not_eight s d (b.0 d l) a)

  never_both : (s : List ℕ) (d e : ℕ) → Seven s d → Eight s e → ⊥
  never_both s d e a b =
      let same : d ≡ e = firsts d e (λ l. not_eight s e (a.0 e l) b) (λ l. not_seven s d (b.0 d l) a) in
      clash (items_for R s d) a.1.0 (subst (λ (c : ℕ). AllIn Near (items_for R s c)) (sym same) b.1.0) a.1.1.0 a.1.1.1

  -- the same list of sizes in both
  at_seven : (s z : List ℕ) → SizesOf R s → SizesOf R z → (d : ℕ) → Seven z d → Seven s d
  at_seven s z a b d f = subst (λ (q : List ℕ). Seven q d) (one_sizes z s b a) f

  at_eight : (s z : List ℕ) → SizesOf R s → SizesOf R z → (d : ℕ) → Eight z d → Eight s d
  at_eight s z a b d f = subst (λ (q : List ℕ). Eight q d) (one_sizes z s b a) f

  tens : (d i e j : ℕ) → TooLong R d i → ((x y : ℕ) → d < x → TooLong R x y → ⊥) → ((y : ℕ) → y < i → TooLong R d y → ⊥)
      → TooLong R e j → ((x y : ℕ) → e < x → TooLong R x y → ⊥) → ((y : ℕ) → y < j → TooLong R e y → ⊥) → first_of R d + i ≡ first_of R e + j
  tens d i e j t l f u m g =
      let same : d ≡ e = firsts d e (λ h. m d i h t) (λ h. l e j h u) in
      let v : TooLong R d j = subst (λ (c : ℕ). TooLong R c j) (sym same) u in
      let w : TooLong R e i = subst (λ (c : ℕ). TooLong R c i) same t in
      let k : i ≡ j = firsts i j (λ h. f j h v) (λ h. g i h w) in
      (λ c. first_of R (same c) + k c)

  pub one_plan : {x y : Told ℕ} → PlanOutcome R x → PlanOutcome R y → x ≡ y
  one_plan (plans.planned n s a p) (plans.planned n₂ z b q) = ap (λ (v : List ℕ). gives (free_before R v (directories_of R))) (one_sizes s z a b)
  one_plan (plans.planned n s a p) (plans.ten d i t l f) = absurd (n d i t)
  one_plan (plans.planned n s a p) (plans.seven n₂ z b d h before y m g) = absurd (not_seven s d (p d h) (at_seven s z a b d (before, (y, (m, g)))))
  one_plan (plans.planned n s a p) (plans.eight n₂ z b d h before c g) = absurd (not_eight s d (p d h) (at_eight s z a b d (before, (c, g))))
  one_plan (plans.ten d i t l f) (plans.planned n s a p) = absurd (n d i t)
  one_plan (plans.ten d i t l f) (plans.ten e j u m g) = ap (λ (k : ℕ). refuses 10 (k ∷ [])) (tens d i e j t l f u m g)
  one_plan (plans.ten d i t l f) (plans.seven n z b e h before y m g) = absurd (n d i t)
  one_plan (plans.ten d i t l f) (plans.eight n z b e h before c g) = absurd (n d i t)
  one_plan (plans.seven n s a d h before y m g) (plans.planned n₂ z b p) = absurd (not_seven z d (p d h) (at_seven z s b a d (before, (y, (m, g)))))
  one_plan (plans.seven n s a d h before y m g) (plans.ten e i t l f) = absurd (n e i t)
  one_plan (plans.seven n s a d h before y m g) (plans.seven n₂ z b e k before₂ y₂ m₂ g₂) =
      ap (λ (c : ℕ). refuses 7 (c ∷ [])) (sevens s d e (before, (y, (m, g))) (at_seven s z a b e (before₂, (y₂, (m₂, g₂)))))
  one_plan (plans.seven n s a d h before y m g) (plans.eight n₂ z b e k before₂ c g₂) = absurd (never_both s d e (before, (y, (m, g))) (at_eight s z a b e (before₂, (c, g₂))))
  one_plan (plans.eight n s a d h before c g) (plans.planned n₂ z b p) = absurd (not_eight z d (p d h) (at_eight z s b a d (before, (c, g))))
  one_plan (plans.eight n s a d h before c g) (plans.ten e i t l f) = absurd (n e i t)
  one_plan (plans.eight n s a d h before c g) (plans.seven n₂ z b e k before₂ y m g₂) = absurd (never_both z e d (before₂, (y, (m, g₂))) (at_eight z s b a d (before, (c, g))))
  one_plan (plans.eight n s a d h before c g) (plans.eight n₂ z b e k before₂ c₂ g₂) =
      ap (λ (v : ℕ). refuses 8 (v ∷ [])) (eights s d e (before, (c, g)) (at_eight s z a b e (before₂, (c₂, g₂))))
