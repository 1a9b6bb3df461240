-- The plan, step by step: what a tree of directories gives the steps, and what each way out leaves. Assumes nothing.
use Rattle.std.proofs.Common.{ℕ, ◌≤◌, ◌<◌, ◌≡◌, refl, sym, ap, ap₂, subst, ◌∙◌, Bool, true, false, List, [], leb, length, replicate, Result, Ok, Err, IsErrAnd, arith}
use Rattle.std.proofs.lemmas.Bool.{le-leb}
use borrow.Author.Tests.{lt-leb}
use lib.ListN.{length-replicate}
use Rattle.units.specs.declared.Sector.{Sector}
use Rattle.units.specs.Told.{Told, gives, refuses, pick}
use Rattle.img_model.specs.Shares.{Request, directories_of, count_of, is_tree}
use Rattle.img_model.specs.declared.PlanError.{PlanError}
use Rattle.img_model.specs.declared.PlanError.TheVariants as plan
use Rattle.img_model.specs.Plan.{Plan, Taking, told, total, plan_of, sizes_down, taking_up, rooted, if_sized, with_sizes}
use Rattle.img_model.specs.Image.{answer_of}
use Rattle.img_model.specs.inner.Tables.{Sizeable, TablesIn}
use Rattle.img_model.proofs.Rule.{some_directory, share_inside}
use Rattle.img_table.specs.declared.EntryError.{EntryError}
use Rattle.img_table.specs.declared.EntryError.TheVariants as entry
use Rattle.img_table.specs.inner.Arranging.{refused, plan_error}
use Rattle.img_table.specs.inner.Scratch.{Places}
use Rattle.img_size.specs.inner.Sizing.{Roomy}
use Rattle.img_size.proofs.Asked.{tree_sizeable, sizes_any}
use Rattle.img_take.specs.inner.Forward.{Sized}
use Rattle.img.specs.inner.Steps.{Given, Exact, Wide, Holds, after, HandedOut, PlannedBy}

-- ---- what a tree of directories gives

module _ (R : Request) (p : is_tree R ≡ true) {sized : ℕ} {out : Given} (x : Exact R sized out) where
  pub sizeable_tree : Sizeable R
  sizeable_tree = tree_sizeable R p x.shared x.started x.named x.valued x.few x.low

  -- a share that lies in the list has its places
  placed : (n : ℕ) → Holds R n → (d : ℕ) → d < directories_of R → count_of R d ≤ n
  placed n w d h = w d h (omega (arith, share_inside R p d h))

  pub roomy_tree : {P : Places} {places : ℕ} → Wide R P → (end : ℕ) → end ≡ total R.share → end ≤ places → Roomy R sized P places
  roomy_tree w end e h = record {
    sizes_are = x.sized_is;
    l = placed _ w.l;
    r = placed _ w.r;
    p = placed _ w.p;
    h = placed _ w.h;
    k = placed _ w.k;
    z = placed _ w.z;
    o = omega (arith, e);
  }

  -- and once its tables are sized
  pub sized_tree : {P : Places} {n : ℕ} → Wide R P → (zs orders : List ℕ) → TablesIn R zs orders → length zs ≡ sized →
      (end places : ℕ) → end ≡ total R.share → end ≤ places → length orders ≡ places → n ≡ P.size → Sized R zs orders n
  sized_tree w zs orders t e end places all h l q = record {
    sizeable = sizeable_tree;
    some = some_directory R p;
    sized = e ∙ x.sized_is;
    tables = t;
    long = omega (arith, all, l);
    wide = λ d k. subst (λ (m : ℕ). count_of R d ≤ m) (sym q) (placed _ w.z d k);
  }

-- ---- the ways out

refused_by_lem : (r : Result Sector PlanError) (g : Told Plan) (k : ℕ) (vs : List ℕ) (out : Given) → told r ≡ refuses k vs → g ≡ refuses k vs → PlannedBy r g out out
refused_by_lem r g k vs out a q = record {
  answer = a ∙ ap answer_of (sym q);
  sizes_are = ap (λ (x : Told Plan). after x (λ p. p.sizes) out.sizes) (sym q);
  tables_are = ap (λ (x : Told Plan). after x (λ p. p.taken.tables) out.tables) (sym q);
  sectors_are = ap (λ (x : Told Plan). after x (λ p. p.taken.sectors) out.sectors) (sym q);
}

handed_by : (r : Result Sector PlanError) (s : List ℕ) (g : Told Taking) (old new : Given) → HandedOut r s g old new → PlannedBy r (with_sizes s g) old new
handed_by r s (gives p) old new h = record { answer = h.answer; sizes_are = h.sizes_are; tables_are = h.tables_are; sectors_are = h.sectors_are }
handed_by r s (refuses k vs) old new h = record { answer = h.answer; sizes_are = h.sizes_are; tables_are = h.tables_are; sectors_are = h.sectors_are }

module _ (R : Request) (places : ℕ) (tables sectors : List ℕ) where
  -- what is planned of a tree with room for its orders
  on_from : Told (List ℕ) → Told Plan
  on_from g = if_sized g (λ s. taking_up R s (directories_of R) 0 (rooted R s tables sectors))

  plan_is : (b d : Bool) → is_tree R ≡ b → leb (total R.share) places ≡ d → plan_of R places tables sectors
      ≡ pick b (pick d (on_from (sizes_down R (directories_of R) (replicate (directories_of R) 0))) (refuses 6 [])) (refuses 11 [])
  unfolding plan_of on_from
  plan_is b d e f = ap₂ (λ (b d : Bool).
      pick b
      (pick d
      (if_sized (sizes_down R (directories_of R) (replicate (directories_of R) 0)) (λ s. taking_up R s (directories_of R) 0 (rooted R s tables sectors)))
      (refuses 6 []))
      (refuses 11 [])) e f

  -- 11
  pub bad_tree : (b : Bool) (out : Given) → b ≡ is_tree R → b ≡ false → PlannedBy (Err plan.BadTree) (plan_of R places tables sectors) out out
  bad_tree b out e f = refused_by_lem _ _ 11 [] out refl (plan_is false _ (sym e ∙ f) refl)

  module _ (p : is_tree R ≡ true) (end : ℕ) (all : end ≡ total R.share) where
    -- 6
    pub short_order : (out : Given) → places < end → PlannedBy (Err plan.Room) (plan_of R places tables sectors) out out
    short_order out h = refused_by_lem _ _ 6 [] out refl (plan_is true false p (lt-leb (total R.share) places (omega (arith, all))))

    -- `old` is the column that the tables are sized into
    module _ {sized : ℕ} {lent : Given} (x : Exact R sized lent) (old : List ℕ) (even : length old ≡ sized) (long : end ≤ places) where
      plan_from : (g : Told (List ℕ)) → g ≡ sizes_down R (directories_of R) old → plan_of R places tables sectors ≡ on_from g
      plan_from g e =
          plan_is true true p (le-leb (total R.share) places (omega (arith, all))) ∙
          ap on_from (sizes_any R (sizeable_tree R p x) (replicate (directories_of R) 0) old (length-replicate (directories_of R) 0) (even ∙ x.sized_is) ∙ sym e)

      passed_on : (e : EntryError) (out : Given) → refused e ≡ sizes_down R (directories_of R) old → PlannedBy (Err (plan_error e)) (plan_of R places tables sectors) out out
      unfolding on_from
      passed_on (entry.Refused c j) out q = refused_by_lem _ _ _ _ out refl (plan_from _ q)
      passed_on (entry.FileTooLarge j) out q = refused_by_lem _ _ _ _ out refl (plan_from _ q)

      -- an entry is refused
      pub entry_refused : (e : EntryError) (r : Result Sector PlanError) (out : Given) → IsErrAnd r (λ x. x ≡ plan_error e) → refused e ≡ sizes_down R (directories_of R) old →
          PlannedBy r (plan_of R places tables sectors) out out
      entry_refused e (Ok f) out h q = absurd h
      entry_refused e (Err y) out h q = subst (λ y. PlannedBy (Err y) (plan_of R places tables sectors) out out) (sym h) (passed_on e out q)

      -- none is
      pub all_sized : (zs : List ℕ) (r : Result Sector PlanError) (before now : Given) → gives zs ≡ sizes_down R (directories_of R) old →
          HandedOut r zs (taking_up R zs (directories_of R) 0 (rooted R zs tables sectors)) before now → PlannedBy r (plan_of R places tables sectors) before now
      unfolding on_from
      all_sized zs r before now q h =
          subst (λ (g : Told Plan). PlannedBy r g before now) (sym (plan_from (gives zs) q)) (handed_by r zs _ before now h)
