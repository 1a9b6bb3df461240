-- One directory's turn of checking and of taking, as the code goes about it; and the ways round and out of the loops. Assumes nothing.
use Rattle.std.proofs.Common.{ℕ, suc, ◌+◌, ◌-◌, ◌≤◌, ◌<◌, ◌≡◌, refl, sym, ap, ap₂, subst, ◌∙◌, List, [], ◌∷◌, length, get_or, drop, Result, Ok, Err, IsErrAnd, arith}
use Rattle.units.specs.Told.{Told, gives, refuses}
use Rattle.units.specs.declared.Sector.{Sector}
use Rattle.layout_sector.specs.Counter.{sectors_for}
use Rattle.avl_model.specs.Tree.{Tree}
use Rattle.avl_model.specs.Order.{order}
use Rattle.table_model.specs.Place.{free_of}
use Rattle.table_model.specs.Table.{size_of}
use Rattle.dirtab_place.proofs.Along.{SameSize}
use Rattle.img_model.specs.Shares.{Request, Share, share_of, first_of, count_of, part}
use Rattle.img_model.specs.Plan.{table_in, size_at, entry_in, tree_in, Taking, total, entries_at, taking_all, taking_up, rooted}
use Rattle.img_model.specs.inner.Tables.{order_from}
use Rattle.img_model.proofs.Takings.{free_taken}
use Rattle.img_model.proofs.Orders.{total_step, total_all, length_part}
use Rattle.img_take.specs.declared.PlacingError.{PlacingError}
use Rattle.img_take.specs.declared.PlacingError.TheVariants as error
use Rattle.img_table.specs.inner.Arranging.{Fillable, fitting}
use Rattle.avl_model.specs.Names.{Names, names_in}
use Rattle.img_take.specs.inner.Forward.{with_names, share_with, nameless, Sized, Turn, Treed, limited, taking, free_told, told_placed, take_along, Enters, EntersAll}
use Rattle.img_table.proofs.Measuring.{listed_at}
use Rattle.img_take.proofs.Trees.{all_filled, sized_at, same_at}
use Rattle.img_take.proofs.Steps.{and_then, then_given, at, split, split_free, same_free, none_left, far_step, near_step, given_step}
use Rattle.img_take.proofs.Along.{along_is}

same_given : {p q : Taking} → ◌≡◌ {A = Told Taking} (gives p) (gives q) → p ≡ q
same_given e = cc

-- the same tables, with a column of as many places for sizes
abbrev pub re_place : {R : Request} {sizes orders : List ℕ} {a b : ℕ} → Sized R sizes orders a → a ≡ b → Sized R sizes orders b
re_place w e = record {
  sizeable = w.sizeable;
  some = w.some;
  sized = w.sized;
  tables = w.tables;
  long = w.long;
  wide = λ d h. omega (arith, w.wide d h, e);
}

-- ---- one directory

-- the part of the orders that is its own
module _ {R : Request} {sizes orders : List ℕ} {places d to : ℕ} (T : Turn R sizes orders places d to) where
  to_cut : to ≡ count_of R d + order_from R d
  to_cut = T.to_is ∙ total_step R.share d (omega (arith, T.sized.sizeable.shared, T.is_one))

  pub order_asks : (d < length R.share) × (to ≤ length orders) × (count_of R d ≤ to)
  order_asks = (omega (arith, T.sized.sizeable.shared, T.is_one), omega (arith, T.to_is, total_all R.share d, T.sized.long), omega (arith, to_cut))

  pub entries_asks : ((d < length R.from) × (d < length R.share)) × ((first_of R d + count_of R d ≤ length R.kind) × (first_of R d + count_of R d ≤ length R.value))
  entries_asks = (
    (T.is_one, omega (arith, T.sized.sizeable.shared, T.is_one)),
    (T.sized.sizeable.inside d T.is_one, omega (arith, T.sized.sizeable.inside d T.is_one, T.sized.sizeable.valued)),
  )

  pub order_is : part (to - count_of R d) (count_of R d) orders ≡ part (order_from R d) (count_of R d) orders
  order_is = let e : to - count_of R d ≡ order_from R d = omega (arith, to_cut) in ap (λ (n : ℕ). part n (count_of R d) orders) e

-- names N of a directory's entries, of those of all
abbrev pub own_names : Request → ℕ → Names → Names
own_names R d N = names_in N.bytes (part (first_of R d) (count_of R d) N.start) (part (first_of R d) (count_of R d) N.len)

pub named_share : (R : Request) (d : ℕ) (N : Names) {S : Share} → S ≡ share_with (share_of R d) nameless
    → share_with S (own_names R d N) ≡ share_of (with_names R N) d
named_share R d N e = ap (λ (x : Share). share_with x (own_names R d N)) e

-- filling does not look at the names
pub fill_any : (S : Share) (N : Names) {tables places : ℕ} → Fillable (share_with S N) tables places → Fillable S tables places
fill_any S N w = record { valued = w.valued; known = w.known; roomy = w.roomy; few = w.few }

-- S has its entries, and o is their order
module _ {R : Request} {sizes orders : List ℕ} {places d : ℕ} (w : Sized R sizes orders places) (h : d < length R.from)
    {S : Share} {o : List ℕ} (S-is : S ≡ share_of R d) (o_is : o ≡ part (order_from R d) (count_of R d) orders) where
  abbrev t : Tree
  t = (w.tables d h).t

  S-told : tree_in S (table_in sizes) ≡ gives t
  S-told = subst (λ (x : Share). tree_in x (table_in sizes) ≡ gives t) (sym S-is) (w.tables d h).told

  S-listed : o ≡ order t
  S-listed = o_is ∙ (w.tables d h).listed_is

  S-kind : length S.kind ≡ S.count
  S-kind = subst (λ (x : Share). length x.kind ≡ x.count) (sym S-is) (length_part (first_of R d) (count_of R d) R.kind (w.sizeable.inside d h))

  pub cut_fillable : Fillable S (length sizes) places
  cut_fillable =
      subst (λ (x : Share). Fillable x (length sizes) places) (sym S-is)
      (record {
        valued = length_part (first_of R d) (count_of R d) R.value (omega (arith, w.sizeable.inside d h, w.sizeable.valued));
        known = λ i g e. omega (arith, w.sizeable.later d i h g e, w.sized);
        roomy = w.wide d h;
        few = omega (arith, w.sizeable.inside d h, w.sizeable.low);
      })

  pub cut_treed : Treed o S sizes places
  cut_treed = record { t = t; fillable = cut_fillable; told = S-told; listed_is = S-listed }

  S-size : get_or sizes d 0 ≡ size_of (entries_at R sizes d) t
  S-size = (w.tables d h).size_is

  -- ---- checking: x is what counting answered
  pub table_counts : (x : Told ℕ) (free : ℕ) → ((u : Treed o S sizes places) → x ≡ limited (free_of (entry_in S (table_in sizes)) 1 free u.t)) → get_or sizes d 0 ≤ 262144
      → at d x ≡ free_told (taking_up R sizes 1 d (taking [] [] free))
  unfolding cut_treed
  table_counts x free counts near =
      ap (at d) (counts cut_treed ∙ ap (λ (y : Share). limited (free_of (entry_in y (table_in sizes)) 1 free t)) S-is)
      ∙ sym (near_step R sizes d (taking [] [] free) (w.tables d h).told (omega (arith, S-size)))

  -- ---- taking: `size` has the sizes that were filled in
  module _ (size : List ℕ) (r : ℕ) (r-is : r ≡ fitting (size_at S (table_in sizes)) S.count 0)
      (filled : (i : ℕ) → i < r → get_or size i 0 ≡ size_at S (table_in sizes) i) where
    each_filled : (i : ℕ) → i < S.count → get_or size i 0 ≡ size_at S (table_in sizes) i
    each_filled i g = filled i (omega (arith, all_filled S (table_in sizes) S-told))

    pub take_asks : (f tables sectors : ℕ) → f ≡ first_of R d → length size ≡ places → tables ≡ length R.from → sectors ≡ length R.kind → EntersAll o S.kind S.value size f tables sectors
    take_asks f tables sectors ef es et ek =
        let n : S.count ≡ count_of R d = ap (λ (x : Share). x.count) S-is in
        listed_at S (table_in sizes) S-told o (λ i. Enters S.kind S.value size f i tables sectors) S-listed
        (λ i g. record {
          sized = sized_at S (table_in sizes) S-told size each_filled (omega (arith, cut_fillable.roomy)) S-kind i g;
          in_value = omega (arith, cut_fillable.valued);
          in_sectors = omega (arith, n, w.sizeable.inside d h);
          in_tables = λ e. omega (arith, cut_fillable.known i g e, w.sized);
        })

    along_plan : (f : ℕ) (p : Taking) → f ≡ first_of R d → take_along S.kind S.value size f p o ≡ taking_all R sizes d p (order t)
    along_plan f p ef =
        ap (λ (x : Share). take_along x.kind x.value size f p o) S-is
        ∙ ap₂ (λ (m : ℕ) (y : List ℕ). take_along (share_of R d).kind (share_of R d).value size m p y) ef S-listed
        ∙ sym (along_is R sizes d size p (order t)
        (listed_at S (table_in sizes) S-told (order t) (λ i. SameSize (entries_at R sizes d) size (share_of R d).kind i) refl
        (λ i g. subst (λ (y : Share). SameSize (entry_in y (table_in sizes)) size y.kind i) S-is (same_at S (table_in sizes) S-told size each_filled i g))))

    pub take_low : (f : ℕ) (p q : Taking) → f ≡ first_of R d → taking_up R sizes 1 d p ≡ gives q → (take_along S.kind S.value size f p o).free ≤ 4294967295
    take_low f p q ef e =
        subst (λ (m : ℕ). m ≤ 4294967295) (sym (ap (λ (y : Taking). y.free) (along_plan f p ef) ∙ free_taken R sizes d t p)) (given_step R sizes d p (w.tables d h).told q e).1

    pub take_is : (f : ℕ) (p q z : Taking) → f ≡ first_of R d → z ≡ take_along S.kind S.value size f p o → taking_up R sizes 1 d p ≡ gives q → gives z ≡ taking_up R sizes 1 d p
    take_is f p q z ef g e = ap gives (g ∙ along_plan f p ef ∙ (given_step R sizes d p (w.tables d h).told q e).0) ∙ sym e

-- 7
pub table_far : {R : Request} {sizes orders : List ℕ} {places d : ℕ} (w : Sized R sizes orders places) → d < length R.from → 262144 < get_or sizes d 0 → (free : ℕ)
    → refuses 7 (d ∷ []) ≡ free_told (taking_up R sizes 1 d (taking [] [] free))
table_far {R = R} {sizes = sizes} {d = d} w h far free =
    let e : get_or sizes d 0 ≡ size_of (entries_at R sizes d) (w.tables d h).t = (w.tables d h).size_is in
    sym (far_step R sizes d (taking [] [] free) (w.tables d h).told (omega arith))

-- ---- the loops

-- a turn
pub turn_at : {R : Request} {sizes orders : List ℕ} {places₀ places d to : ℕ} → Sized R sizes orders places₀ → places ≡ places₀ → d < length R.from → to ≡ total (drop d R.share)
    → Turn R sizes orders places d to
turn_at w e h t = record { sized = re_place w (sym e); is_one = h; to_is = t }

module _ (R : Request) (d to : ℕ) (h : d < length R.share) (e : to ≡ total (drop d R.share)) where
  pub to_room : get_or R.share d 0 ≤ to
  to_room = omega (arith, total_step R.share d h)

  pub to_next : to - get_or R.share d 0 ≡ total (drop (d + 1) R.share)
  to_next =
      let a : to - get_or R.share d 0 ≡ total (drop (suc d) R.share) = omega (arith, total_step R.share d h) in
      a ∙ ap (λ (m : ℕ). total (drop m R.share)) {x = suc d} {y = d + 1} (omega arith)

-- what checking holds on its way: the rest comes to what all comes to
pub record Checked (R : Request) (sizes : List ℕ) (d free₀ free : ℕ) : Type 0 where
  pub so : free_told (taking_up R sizes (length R.from) 0 (taking [] [] free₀)) ≡ free_told (taking_up R sizes (length R.from - d) d (taking [] [] free))

pub checked_start : (R : Request) (sizes : List ℕ) {free₀ free : ℕ} → free ≡ free₀ → Checked R sizes 0 free₀ free
checked_start R sizes e = record {
  so = ap₂ (λ (m f : ℕ). free_told (taking_up R sizes m 0 (taking [] [] f))) {x = length R.from} {y = length R.from - 0} (omega arith) (sym e);
}

module _ {R : Request} {sizes : List ℕ} {d free₀ free : ℕ} (so_far : Checked R sizes d free₀ free) where
  -- what it comes to where the root takes what it takes
  from_root : (first sectors : List ℕ) → free₀ ≡ 33 + sectors_for (get_or sizes 0 0)
      → free_told (taking_up R sizes (length R.from) 0 (rooted R sizes first sectors)) ≡ free_told (taking_up R sizes (length R.from - d) d (taking [] [] free))
  from_root first sectors e = same_free R sizes (length R.from) 0 (rooted R sizes first sectors) (taking [] [] free₀) (sym e) ∙ so_far.so

  pub checked_end : length R.from ≤ d → (first sectors : List ℕ) → free₀ ≡ 33 + sectors_for (get_or sizes 0 0)
      → gives free ≡ free_told (taking_up R sizes (length R.from) 0 (rooted R sizes first sectors))
  checked_end h first sectors e =
      sym (from_root first sectors e
      ∙ ap (λ (m : ℕ). free_told (taking_up R sizes m d (taking [] [] free))) {x = length R.from - d} {y = 0} (omega arith)
      ∙ ap free_told (none_left R sizes d (taking [] [] free)))

  -- x is what the turn comes to
  turned : (x : Told ℕ) → x ≡ free_told (taking_up R sizes 1 d (taking [] [] free)) → d < length R.from
      → free_told (taking_up R sizes (length R.from - d) d (taking [] [] free)) ≡ and_then x (λ f. free_told (taking_up R sizes (length R.from - (d + 1)) (d + 1) (taking [] [] f)))
  turned x e h =
      ap (λ (m : ℕ). free_told (taking_up R sizes m d (taking [] [] free))) {x = length R.from - d} {y = suc (length R.from - (d + 1))} (omega arith)
      ∙ split_free R sizes (length R.from - (d + 1)) d (taking [] [] free)
      ∙ ap (λ (y : Told ℕ). and_then y (λ f. free_told (taking_up R sizes (length R.from - (d + 1)) (d + 1) (taking [] [] f)))) (sym e)

  pub checked_next : (s : ℕ) → gives s ≡ free_told (taking_up R sizes 1 d (taking [] [] free)) → d < length R.from → Checked R sizes (d + 1) free₀ s
  checked_next s e h = record { so = so_far.so ∙ turned (gives s) e h }

  pub checked_stop : (x : PlacingError) → told_placed (Err x) ≡ free_told (taking_up R sizes 1 d (taking [] [] free)) → d < length R.from
      → (first sectors : List ℕ) → free₀ ≡ 33 + sectors_for (get_or sizes 0 0)
      → told_placed (Err x) ≡ free_told (taking_up R sizes (length R.from) 0 (rooted R sizes first sectors))
  checked_stop (error.TooManyDirectoryEntries x) e h first sectors f = sym (from_root first sectors f ∙ turned (refuses 7 (x ∷ [])) e h)
  checked_stop (error.SectorOverflow x) e h first sectors f = sym (from_root first sectors f ∙ turned (refuses 8 (x ∷ [])) e h)

-- a refusal that is passed on
pub placed_on : (r : Result Sector PlacingError) (x : PlacingError) → IsErrAnd r (λ e. e ≡ x) → told_placed r ≡ told_placed (Err x)
placed_on (Ok s) x h = absurd h
placed_on (Err e) x h = ap (λ e. told_placed (Err e)) h

-- what taking holds on its way: the rest takes what all take
pub record TakenSo (R : Request) (sizes : List ℕ) (d : ℕ) (p₀ p : Taking) : Type 0 where
  pub so : taking_up R sizes (length R.from) 0 p₀ ≡ taking_up R sizes (length R.from - d) d p

pub taken_start : (R : Request) (sizes : List ℕ) {p₀ p : Taking} → p ≡ p₀ → TakenSo R sizes 0 p₀ p
taken_start R sizes e = record { so = ap₂ (λ (m : ℕ) (q : Taking). taking_up R sizes m 0 q) {x = length R.from} {y = length R.from - 0} (omega arith) (sym e) }

module _ {R : Request} {sizes : List ℕ} {d : ℕ} {p₀ p : Taking} (so_far : TakenSo R sizes d p₀ p) where
  -- the directory's own, and then the rest
  taken_split : d < length R.from → taking_up R sizes (length R.from) 0 p₀ ≡ and_then (taking_up R sizes 1 d p) (taking_up R sizes (length R.from - (d + 1)) (d + 1))
  taken_split h =
      so_far.so
      ∙ ap (λ (m : ℕ). taking_up R sizes m d p) {x = length R.from - d} {y = suc (length R.from - (d + 1))} (omega arith)
      ∙ split R sizes (length R.from - (d + 1)) d p

  pub taken_fits : d < length R.from → (q : Taking) → taking_up R sizes (length R.from) 0 p₀ ≡ gives q → (z : Taking) × (taking_up R sizes 1 d p ≡ gives z)
  taken_fits h q e = let z = then_given (taking_up R sizes 1 d p) (sym (taken_split h) ∙ e) in (z.0, z.1.0)

  pub taken_next : (p₁ : Taking) → gives p₁ ≡ taking_up R sizes 1 d p → d < length R.from → TakenSo R sizes (d + 1) p₀ p₁
  taken_next p₁ e h = record { so = taken_split h ∙ ap (λ (x : Told Taking). and_then x (taking_up R sizes (length R.from - (d + 1)) (d + 1))) (sym e) }

  pub taken_end : length R.from ≤ d → (q : Taking) → taking_up R sizes (length R.from) 0 p₀ ≡ gives q → p ≡ q
  taken_end h q e =
      let a : taking_up R sizes (length R.from - d) d p ≡ gives p =
      ap (λ (m : ℕ). taking_up R sizes m d p) {x = length R.from - d} {y = 0} (omega arith) ∙ none_left R sizes d p in
      same_given (sym a ∙ sym so_far.so ∙ e)
