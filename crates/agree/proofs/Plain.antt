-- DEMAND 3 once more, clause by clause as the paper says it. Assumes nothing.
--     found_listed      what is found is listed, under the name sought, raised, at the same offset, after at most 19 headers
--     listed_found      under rule one what is listed is found, unless a link of 255 stands on the way from the first entry; then 22
--     always_found      under rule two what is listed is found, after at most 19 headers
--     unlisted          what is not listed is 22
--     one_then_two      what is found under rule one is found the same under rule two: entry, offset and headers
-- found_listed and unlisted are of both rules. found_listed_by, listed_found_by, unlisted_by and found_again_by say the same of every set of absent links.
use Prim.Native.Nat.{ℕ, ◌+◌, ◌≤◌}
use mathlib.Core.Path.{◌≡◌, refl, sym, ap, ◌∙◌}
use mathlib.Core.Bool.{true, false}
use mathlib.Core.Logic.{inl, inr}
use mathlib.Core.List.{List, [], ◌∷◌, Memᴰ}
use native.Mathlib.Omega.{arith}
use mathlib.Core.Option.{some}
use lib.ListN.{length}
use Rattle.units.specs.Told.{Told, gives, refuses}
use Rattle.units.specs.declared.Sector.{Sector}
use Rattle.units.specs.declared.Region.{Region}
use Rattle.name_role.specs.Roles.{bad_sought}
use Rattle.read_entry.specs.Links.{is_in, one_absent, walk_absent, absent_under}
use Rattle.read_lookup.specs.Lookup.{Finding, lookup_by, lookup_of}
use Rattle.read_lookup.proofs.Rules.{lookup_by_rule}
use Rattle.read_lookup.proofs.Laws.{let_through}
use Rattle.lookup_way.specs.Along.{Real, Clear, Cut}
use Rattle.lookup_way.proofs.Along.{along_clear, along_absent, clear_or_cut}
use Rattle.lookup_way.proofs.Sets.{one_0, walk_0, rule_0, without_255, with_255, walk_clear}
use Rattle.avl_model.specs.Tree.{Tree}
use Rattle.table_model.specs.Entry.{Entry, Item}
use Rattle.table_model.specs.Place.{items}
use Rattle.table_model.proofs.Geometry.{of_item}
use Rattle.agree.specs.Written.{Written}
use Rattle.agree.specs.Agreement.{most_headers, placed_at, Same, Reached, Sound, found, missing, Agreement}
use Rattle.agree.proofs.Agrees.{agreement}

-- one of the items, whose name is the name sought, raised: what a lookup that gives x has found
pub record Listed (xs : List Item) (place : ℕ) (name : List ℕ) (x : Finding) : Type 0 where
  pub item : Item
  pub among : Memᴰ item xs
  pub named : Same name item.entry.name
  pub entry : x.entry ≡ placed_at place item
  pub offset : x.offset ≡ item.offset
  pub headers : x.headers ≤ most_headers

module _ (place : ℕ) (xs : List Item) (name : List ℕ) where
  sound_found : (a : Told Finding) → Sound place xs most_headers name a → (x : Finding) → a ≡ gives x → Listed xs place name x
  sound_found a (found y c m q k) x e =
      let same : record { entry = placed_at place y; offset = y.offset; headers = c } ≡ x = cc in
      record {
        item = y;
        among = m;
        named = q;
        entry = ap (λ (z : Finding). z.entry) (sym same);
        offset = ap (λ (z : Finding). z.offset) (sym same);
        headers = omega (arith, ap (λ (z : Finding). z.headers) same);
      }
  sound_found a (missing c k) x e = let z : ◌≡◌ {A = ℕ} 0 1 = cc in absurd (omega arith)

  sound_missing : (a : Told Finding) → Sound place xs most_headers name a → ((y : Item) → Memᴰ y xs → Same name y.entry.name → ⊥)
      → (c : ℕ) × (c ≤ most_headers) × (a ≡ refuses 22 (c ∷ []))
  sound_missing a (found y c m q k) f = absurd (f y m q)
  sound_missing a (missing c k) f = (c, k, refl)

-- what is given is not refused
pub given_not_refused : {A : Type 0} {x : Told A} {a : A} {k : ℕ} {vs : List ℕ} → x ≡ gives a → x ≡ refuses k vs → ⊥
given_not_refused e f = let z : ◌≡◌ {A = ℕ} 0 1 = cc in omega arith

-- EVERY SET OF ABSENT LINKS: where reading agrees with the items, and for a name of ASCII bytes
module _ (w : List ℕ) (first : Sector) (t : Region) (place : ℕ) (xs : List Item) (all : Agreement w first t place xs) (absent name : List ℕ) (ascii : bad_sought name ≡ false) where
  pub found_listed_by : is_in 0 absent ≡ true → (a : Finding) → lookup_by absent w first t name ≡ gives a → Listed xs place name a
  found_listed_by none a e = sound_found place xs name (lookup_by absent w first t name) (all.sound absent none name ascii) a e

  pub listed_found_by : (y : Item) → Memᴰ y xs → Same name y.entry.name → (r : Reached w first t place xs y)
      × (Clear absent r.links → lookup_by absent w first t name ≡ gives (record { entry = placed_at place y; offset = y.offset; headers = 1 + length r.links }))
      × (Cut absent r.links → (c : ℕ) × (lookup_by absent w first t name ≡ refuses 22 (c ∷ [])))
  listed_found_by y m e =
      let r = of_item (Reached w first t place xs) xs y all.reached m in
      let q = r.answers absent name ascii e in (
        r,
        (λ f. q ∙ along_clear absent (placed_at place y) y.offset 1 r.links f),
        (λ f. let k = along_absent absent (placed_at place y) y.offset 1 r.links f in (k.0, q ∙ k.1)),
      )

  pub unlisted_by : is_in 0 absent ≡ true → ((y : Item) → Memᴰ y xs → Same name y.entry.name → ⊥)
      → (c : ℕ) × (c ≤ most_headers) × (lookup_by absent w first t name ≡ refuses 22 (c ∷ []))
  unlisted_by none f = sound_missing place xs name (lookup_by absent w first t name) (all.sound absent none name ascii) f

-- what is found with one set of absent links is found the same with another, of which no link on a way is
pub found_again_by : (w : List ℕ) (first : Sector) (t : Region) (place : ℕ) (xs : List Item) → Agreement w first t place xs → (absent other : List ℕ) → is_in 0 absent ≡ true
    → ((ks : List ℕ) → Real ks → Clear other ks) → (name : List ℕ) (a : Finding) → lookup_by absent w first t name ≡ gives a → lookup_by other w first t name ≡ gives a
found_again_by w first t place xs all absent other none clear name a e =
    let ascii : bad_sought name ≡ false = let_through absent w first t name (gives a) e (λ q. omega arith) in
    let l = found_listed_by w first t place xs all absent name ascii none a e in
    let y : Item = l.item in
    let r = of_item (Reached w first t place xs) xs y all.reached l.among in
    let at_other = r.answers other name ascii l.named in
    let at-absent = r.answers absent name ascii l.named in
    elim (clear_or_cut absent r.links) [
      | inl f ↦
          at_other ∙ along_clear other (placed_at place y) y.offset 1 r.links (clear r.links r.real)
          ∙ sym (at-absent ∙ along_clear absent (placed_at place y) y.offset 1 r.links f) ∙ e
      | inr f ↦ absurd (given_not_refused e (at-absent ∙ (along_absent absent (placed_at place y) y.offset 1 r.links f).1))
    ]

-- THE TWO RULES, of a written table, in a window where it stands
module _ (entry : ℕ → Entry) (align s : ℕ) (x : Tree) (w : List ℕ) (first : Sector) (t : Region) (g : Written entry align s x w first t) where
  abbrev xs : List Item
  xs = items entry align 0 s x

  all : Agreement w first t g.stand.place xs
  all = agreement entry align s x w first t g

  pub one_then_two : (name : List ℕ) (a : Finding) → lookup_of 1 w first t name ≡ gives a → lookup_of 2 w first t name ≡ gives a
  one_then_two name a e =
      (lookup_by_rule w first t name).rule_two ∙ found_again_by w first t g.stand.place xs all one_absent walk_absent one_0 walk_clear name a (sym (lookup_by_rule w first t name).rule_one ∙ e)

  module _ (name : List ℕ) (ascii : bad_sought name ≡ false) where
    pub found_listed : (rule : ℕ) (absent : List ℕ) → absent_under rule ≡ some absent → (a : Finding) → lookup_of rule w first t name ≡ gives a → Listed xs g.stand.place name a
    found_listed rule absent e a f =
        found_listed_by w first t g.stand.place xs all absent name ascii (rule_0 rule absent e) a (sym ((lookup_by_rule w first t name).under rule absent e) ∙ f)

    pub listed_found : (y : Item) → Memᴰ y xs → Same name y.entry.name → (r : Reached w first t g.stand.place xs y)
        × ((Memᴰ 255 r.links → ⊥)
        → lookup_of 1 w first t name ≡ gives (record { entry = placed_at g.stand.place y; offset = y.offset; headers = 1 + length r.links }))
        × (Memᴰ 255 r.links → (c : ℕ) × (lookup_of 1 w first t name ≡ refuses 22 (c ∷ [])))
    listed_found y m e =
        let one = (lookup_by_rule w first t name).rule_one in
        let f = listed_found_by w first t g.stand.place xs all one_absent name ascii y m e in (
          f.0,
          (λ n. one ∙ f.1 (without_255 f.0.links f.0.real n)),
          (λ n. let k = f.2 (with_255 f.0.links n) in (k.0, one ∙ k.1)),
        )

    pub always_found : (y : Item) → Memᴰ y xs → Same name y.entry.name
        → (c : ℕ) × (c ≤ most_headers) × (lookup_of 2 w first t name ≡ gives (record { entry = placed_at g.stand.place y; offset = y.offset; headers = c }))
    always_found y m e =
        let f = listed_found_by w first t g.stand.place xs all walk_absent name ascii y m e in
        let found = f.1 (walk_clear f.0.links f.0.real) in
        let l = found_listed_by w first t g.stand.place xs all walk_absent name ascii walk_0 _ found in
        (1 + length f.0.links, l.headers, (lookup_by_rule w first t name).rule_two ∙ found)

    pub unlisted : (rule : ℕ) (absent : List ℕ) → absent_under rule ≡ some absent → ((y : Item) → Memᴰ y xs → Same name y.entry.name → ⊥)
        → (c : ℕ) × (c ≤ most_headers) × (lookup_of rule w first t name ≡ refuses 22 (c ∷ []))
    unlisted rule absent e f =
        let u = unlisted_by w first t g.stand.place xs all absent name ascii (rule_0 rule absent e) f in
        (u.0, u.1, (lookup_by_rule w first t name).under rule absent e ∙ u.2)
