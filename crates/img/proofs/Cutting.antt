-- The plan over the columns as far as the counts go, and what it leaves of the whole columns. Assumes nothing.
use Prim.Native.Nat.{ℕ, zero, suc, ◌≤◌, ◌<◌, min}
use mathlib.Core.Path.{◌≡◌, sym, ap, subst, ◌∙◌}
use mathlib.Core.Bool.{true, ◌&&◌}
use mathlib.Core.List.{List, [], ◌∷◌, ◌++◌}
use native.Mathlib.Omega.{arith}
use borrow.Author.Tests.{leb-true}
use lib.Dec.{leb}
use lib.ListN.{length, get_or, take, drop, take-append-drop}
use lib.Seq.{length-take-le}
use Rattle.avl_arena.proofs.Tested.{and_l, and_r}
use Rattle.units.specs.Told.{Told, gives, refuses}
use Rattle.img_model.specs.Shares.{count_of}
use Rattle.std.specs.Prelude.{Result}
use Rattle.units.specs.declared.Sector.{Sector}
use Rattle.img_model.specs.declared.PlanError.{PlanError}
use Rattle.img_model.specs.Plan.{Plan, plan_of}
use Rattle.img_model.specs.Image.{Asked, Lent, by_directory, by_entry, by_node, fits, has_room, request_in, column_after}
use Rattle.img.specs.inner.Steps.{Given, given, Holds, Exact, Wide, after, PlannedBy, Cut, plan_in, PlannedIn}

-- the least of five numbers, and of six, is none the greater
least_five : (n a b c d e : ℕ) → n ≤ min a (min b (min c (min d e))) → (n ≤ a) × ((n ≤ b) × ((n ≤ c) × ((n ≤ d) × (n ≤ e))))
least_five n a b c d e h =
    let q : n ≤ min b (min c (min d e)) = omega arith in
    let r : n ≤ min c (min d e) = omega arith in
    let s : n ≤ min d e = omega arith in
    (omega arith, (omega arith, (omega arith, (omega arith, omega arith))))

least_six : (n a b c d e f : ℕ) → n ≤ min a (min b (min c (min d (min e f)))) → (n ≤ a) × ((n ≤ b) × ((n ≤ c) × ((n ≤ d) × ((n ≤ e) × (n ≤ f)))))
least_six n a b c d e f h =
    let q : (n ≤ a) × (n ≤ min b (min c (min d (min e f)))) = (omega arith, omega arith) in
    (q.0, least_five n b c d e f q.1)

-- a share below the count of entries has its places
fits_each : (n entries : ℕ) (share : List ℕ) → fits n entries share ≡ true → (d : ℕ) → d < length share → get_or share d 0 ≤ entries → get_or share d 0 ≤ n
unfolding fits
fits_each n entries [] e d h l = absurd (omega arith)
fits_each n entries (c ∷ cs) e zero h l = let q : min c entries ≤ n = leb-true (min c entries) n (and_l _ _ e) in omega arith
fits_each n entries (c ∷ cs) e (suc d) h l = fits_each n entries cs (and_r (leb (min c entries) n) _ e) d (omega arith) l

module _ (A : Asked) (L : Lent) (k : Cut A L) where
  enough_directories : A.directories ≤ by_directory A L
  unfolding has_room
  enough_directories = leb-true A.directories (by_directory A L) (and_l _ _ k.room)

  after_directories : leb A.entries (by_entry A L) && fits (by_node L) A.entries (take A.directories A.share) ≡ true
  unfolding has_room
  after_directories = and_r (leb A.directories (by_directory A L)) _ k.room

  enough_entries : A.entries ≤ by_entry A L
  enough_entries = leb-true A.entries (by_entry A L) (and_l _ _ after_directories)

  enough_nodes : fits (by_node L) A.entries (take A.directories A.share) ≡ true
  enough_nodes = and_r (leb A.entries (by_entry A L)) _ after_directories

  -- every column is long enough
  pub in_first : A.directories ≤ length A.from
  in_first = (least_five _ _ _ _ _ _ enough_directories).0

  pub in_share : A.directories ≤ length A.share
  in_share = (least_five _ _ _ _ _ _ enough_directories).1.0

  pub in_sizes : A.directories ≤ length L.sizes
  in_sizes = (least_five _ _ _ _ _ _ enough_directories).1.1.0

  pub in_tables : A.directories ≤ length L.tables
  in_tables = (least_five _ _ _ _ _ _ enough_directories).1.1.1.0

  pub in_sized : A.directories ≤ length L.sized
  in_sized = (least_five _ _ _ _ _ _ enough_directories).1.1.1.1

  pub in_start : A.entries ≤ length A.start
  in_start = (least_six _ _ _ _ _ _ _ enough_entries).0

  pub in_len : A.entries ≤ length A.len
  in_len = (least_six _ _ _ _ _ _ _ enough_entries).1.0

  pub in_kind : A.entries ≤ length A.kind
  in_kind = (least_six _ _ _ _ _ _ _ enough_entries).1.1.0

  pub in_value : A.entries ≤ length A.value
  in_value = (least_six _ _ _ _ _ _ _ enough_entries).1.1.1.0

  pub in_sectors : A.entries ≤ length L.sectors
  in_sectors = (least_six _ _ _ _ _ _ _ enough_entries).1.1.1.1.0

  -- so what is cut is just as long as it is counted
  pub exact_cut : Exact (request_in A) (length (take A.directories L.sized)) (given (take A.directories L.sizes) (take A.directories L.tables) (take A.entries L.sectors))
  exact_cut =
      let d : length (take A.directories A.from) ≡ A.directories = length-take-le _ _ in_first in
      let e : length (take A.entries A.kind) ≡ A.entries = length-take-le _ _ in_kind in
      record {
        shared = length-take-le _ _ in_share ∙ sym d;
        started = length-take-le _ _ in_start ∙ sym e;
        named = length-take-le _ _ in_len ∙ sym e;
        valued = length-take-le _ _ in_value ∙ sym e;
        few = subst (λ (n : ℕ). n ≤ 4294967295) (sym d) k.few;
        low = subst (λ (n : ℕ). n ≤ 4294967295) (sym e) k.low;
        sized_is = length-take-le _ _ in_sized ∙ sym d;
        long = record {
          sizes_is = length-take-le _ _ in_sizes ∙ sym d;
          tables_is = length-take-le _ _ in_tables ∙ sym d;
          sectors_is = length-take-le _ _ in_sectors ∙ sym e;
        };
      }

  -- and each share has its places in the columns of a tree
  held : (n : ℕ) → by_node L ≤ n → Holds (request_in A) n
  held n l d h c =
      let e : length (take A.entries A.kind) ≡ A.entries = length-take-le _ _ in_kind in
      let s : length (take A.directories A.share) ≡ length (take A.directories A.from) = exact_cut.shared in
      let q : count_of (request_in A) d ≤ by_node L =
      fits_each (by_node L) A.entries (take A.directories A.share) enough_nodes d (subst (λ (m : ℕ). d < m) (sym s) h) (subst (λ (m : ℕ). count_of (request_in A) d ≤ m) e c) in
      leq q l
    where
      leq : {a b m : ℕ} → a ≤ b → b ≤ m → a ≤ m
      leq p q = omega arith

  pub wide_cut : Wide (request_in A) (record { left = length L.left; right = length L.right; parent = length L.parent; height = length L.height; key = length L.key; size = length L.size })
  wide_cut =
      let m = least_six (by_node L) _ _ _ _ _ _ (same (by_node L)) in
      record { l = held _ m.0; r = held _ m.1.0; p = held _ m.1.1.0; h = held _ m.1.1.1.0; k = held _ m.1.1.1.1.0; z = held _ m.1.1.1.1.1 }
    where
      same : (n : ℕ) → n ≤ n
      same n = omega arith

-- ---- what is left of the whole columns

-- a column, its first n places as they were told
whole : (g : Told Plan) (column : Plan → List ℕ) (n : ℕ) (xs cut : List ℕ) → cut ≡ after g column (take n xs) → cut ++ drop n xs ≡ column_after g column n xs
whole (gives p) column n xs cut e = ap (λ (ys : List ℕ). ys ++ drop n xs) e
whole (refuses k vs) column n xs cut e = ap (λ (ys : List ℕ). ys ++ drop n xs) e ∙ take-append-drop n xs

pub planned_in : (r : Result Sector PlanError) (A : Asked) (L : Lent) (new : Given) →
    PlannedBy r (plan_of (request_in A) (length L.order) (take A.directories L.tables) (take A.entries L.sectors))
    (given (take A.directories L.sizes) (take A.directories L.tables) (take A.entries L.sectors)) new →
    PlannedIn r A L (given (new.sizes ++ drop A.directories L.sizes) (new.tables ++ drop A.directories L.tables) (new.sectors ++ drop A.entries L.sectors))
unfolding plan_in
planned_in r A L new h = record {
  answer = h.answer;
  sizes_are = whole (plan_in A L) (λ p. p.sizes) A.directories L.sizes new.sizes h.sizes_are;
  tables_are = whole (plan_in A L) (λ p. p.taken.tables) A.directories L.tables new.tables h.tables_are;
  sectors_are = whole (plan_in A L) (λ p. p.taken.sectors) A.entries L.sectors new.sectors h.sectors_are;
}
