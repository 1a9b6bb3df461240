-- PATHS IN A PLANNED IMAGE, the other way round: what any path finds is a planned entry to which its parts lead; and what it finds under rule one it finds under rule two. Assumes nothing.
use Prim.Native.Nat.{ℕ, suc, ◌/◌, ◌%◌, ◌≤◌, ◌<◌}
use native.Mathlib.Omega.{arith}
use native.Mathlib.Decide.{dec_le}
use mathlib.Core.Path.{◌≡◌, refl, sym, ap, subst, ◌∙◌}
use mathlib.Core.Bool.{Bool, true, false}
use mathlib.Core.Logic.{◌⊎◌, inl, inr}
use mathlib.Core.List.Memᴰ
use mathlib.Core.List.{List, [], ◌∷◌, map, Memᴰ}
use mathlib.Core.Option.{some}
use lib.Dec.{eqb}
use Rattle.units.specs.Told.{Told, gives, refuses, pick}
use Rattle.units.specs.declared.Sector.{Sector}
use Rattle.units.specs.declared.Region.{Region}
use Rattle.name_role.specs.Roles.{stored_keys}
use Rattle.layout_node.specs.Header as node
use Rattle.read_entry.specs.Entry.{Placed}
use Rattle.read_entry.specs.Links.{is_in, one_absent, walk_absent, absent_under}
use Rattle.read_lookup.specs.Lookup.{Finding, lookup_by}
use Rattle.read_path.specs.Path.{last_of, turn_of, onward, parts_from, path_by, path_of}
use Rattle.read_path.specs.Path as path
use Rattle.read_path.proofs.Rules.{path_by_rule}
use Rattle.lookup_way.specs.Along.{Real, Clear}
use Rattle.lookup_way.proofs.Along.{clear_or_cut}
use Rattle.lookup_way.proofs.Sets.{one_0, rule_0, walk_clear}
use Rattle.avl_model.proofs.Frame.{δ-same}
use Rattle.table_model.specs.Entry.{Entry, Item, attributes, header_for}
use Rattle.img_model.specs.Shares.{Request, share_of, directories_of, count_of, is_directory, value_of}
use Rattle.img_model.specs.Plan.{entries_at, Plan}
use Rattle.img_model.proofs.Rule.{some_directory, names_one}
use Rattle.agree.specs.Agreement.{placed_at, Same, most_headers}
use Rattle.agree.specs.Agreement as agreement
use Rattle.agree.specs.Given.{times}
use Rattle.agree.proofs.Plain.{given_not_refused}
use Rattle.agree_plan.specs.Planned.{items_at, sector_at}
use Rattle.agree_plan.specs.Image.{Imaged, root_of, RegionFor, PathPart, joined, Leads, last, into, region_of, Only, finds, misses, meets, AllParts}
use Rattle.agree_plan.proofs.Tables.{rule_kept}
use Rattle.agree_plan.proofs.Sectors.{sectors_planned}
use Rattle.agree_plan.proofs.Agrees.{directory_kind, file_kind, table_agrees, root_region, entry_region}
use Rattle.agree_plan.proofs.Paths.{joined_path}
use Rattle.agree_plan.proofs.Found.{path_finds_by}

-- the number of an item
record Numbered (entry : ℕ → Entry) (sector : ℕ → ℕ) (is : List ℕ) (y : Item) : Type 0 where
  number : ℕ
  listed : 1 ≤ times number is
  entry_is : y.entry ≡ entry number
  sector_is : y.sector ≡ sector number

numbered : (entry : ℕ → Entry) (sector : ℕ → ℕ) (xs : List Item) (is : List ℕ) → map (λ (y : Item). y.entry) xs ≡ map entry is → map (λ (y : Item). y.sector) xs ≡ map sector is
    → (y : Item) → Memᴰ y xs → Numbered entry sector is y
numbered entry sector [] is a b y m = absurd (Memᴰ.not-nil m)
numbered entry sector (x ∷ xs) [] a b y m = let z : ◌≡◌ {A = ℕ} 0 1 = cc in absurd (omega arith)
numbered entry sector (x ∷ xs) (j ∷ is) a b y m =
    let e : x.entry ≡ entry j = cc in
    let f : x.sector ≡ sector j = cc in
    let g : map (λ (y : Item). y.entry) xs ≡ map entry is = cc in
    let k : map (λ (y : Item). y.sector) xs ≡ map sector is = cc in
    go e f (numbered entry sector xs is g k y) (Memᴰ.cases_cons m)
  where
    go : x.entry ≡ entry j → x.sector ≡ sector j → (Memᴰ y xs → Numbered entry sector is y) → (y ≡ x) ⊎ Memᴰ y xs → Numbered entry sector (j ∷ is) y
    go e f ih (inl q) = record {
      number = j;
      listed = omega (arith, δ-same j);
      entry_is = ap (λ (v : Item). v.entry) q ∙ e;
      sector_is = ap (λ (v : Item). v.sector) q ∙ f;
    }
    go e f ih (inr n) = let r = ih n in record { number = r.number; listed = omega (arith, r.listed); entry_is = r.entry_is; sector_is = r.sector_is }

-- no parts lead nowhere
no_parts : {R : Request} {p : Plan} {d e j : ℕ} (cs : List (List ℕ)) → Leads R p d cs e j → cs ≡ [] → ⊥
no_parts cs (last _ _ a hi part same) q = let z : ◌≡◌ {A = ℕ} 0 1 = cc in omega arith
no_parts cs (into _ i _ _ a b bs hi part same dir rest) q = let z : ◌≡◌ {A = ℕ} 0 1 = cc in omega arith

module _ (R : Request) (places : ℕ) (tables sectors : List ℕ) (p : Plan) (w : List ℕ) (first : Sector) (I : Imaged R places tables sectors p w first) (absent : List ℕ) (none : is_in 0 absent ≡ true) where
  module _ (d : ℕ) (hd : d < directories_of R) (t : Region) (r : RegionFor p d t) (a : List ℕ) (part : PathPart a) where
    abbrev place : ℕ
    place = (I.stand d hd).place

    its_number : (y : Item) → Memᴰ y (items_at R p.sizes d) → Numbered (entries_at R p.sizes d) (sector_at R p d) (sectors_planned R places tables sectors p I.planned I.apart d hd).numbers y
    its_number y m =
        let s = sectors_planned R places tables sectors p I.planned I.apart d hd in
        numbered (entries_at R p.sizes d) (sector_at R p d) (items_at R p.sizes d) s.numbers s.entries s.sectors y m

    inside_of : (i : ℕ) → 1 ≤ times i (sectors_planned R places tables sectors p I.planned I.apart d hd).numbers → i < count_of R d
    inside_of i k = elim (dec_le (suc i) (count_of R d)) [
      | yes l ↦ omega (arith, l)
      | no l ↦ absurd (omega (arith, k, l, (sectors_planned R places tables sectors p I.planned I.apart d hd).others i (omega (arith, l))))
    ]

    -- an entry of the directory whose name, raised, is the part
    record Hit (y : Item) : Type 0 where
      number : ℕ
      inside : number < count_of R d
      entry_is : y.entry ≡ entries_at R p.sizes d number
      sector_is : y.sector ≡ sector_at R p d number
      same : Same a (entries_at R p.sizes d number).name

    hit : (y : Item) → Memᴰ y (items_at R p.sizes d) → Same a y.entry.name → Hit y
    hit y m s =
        let k = its_number y m in
        record {
          number = k.number;
          inside = inside_of k.number k.listed;
          entry_is = k.entry_is;
          sector_is = k.sector_is;
          same = s ∙ ap (λ (e : Entry). stored_keys e.name) k.entry_is;
        }

    abbrev Sound : Told Finding → Type 0
    Sound = agreement.Sound place (items_at R p.sizes d) most_headers a

    looked : Sound (lookup_by absent w first t a)
    looked = (table_agrees R places tables sectors p w first I d hd t r).sound absent none a part.good

    ends : (x : Told Finding) → Sound x → Only R p first d (a ∷ []) (last_of x)
    ends x (agreement.found y c m s k) =
        let h = hit y m s in
        finds d h.number place y (last d h.number a h.inside part h.same) h.entry_is h.sector_is (I.stand d hd).at_sector
    ends x (agreement.missing c k) = misses

    -- further parts
    module _ (b : List ℕ) (cs : List (List ℕ)) (next : (d₁ : ℕ) → d₁ < directories_of R → (u : Region) → RegionFor p d₁ u → Only R p first d₁ (b ∷ cs) (parts_from absent w first u (b ∷ cs))) where
      lift : (i : ℕ) → i < count_of R d → Same a (entries_at R p.sizes d i).name → is_directory (share_of R d) i ≡ true → (x : Told Placed)
          → Only R p first (value_of (share_of R d) i) (b ∷ cs) x → Only R p first d (a ∷ b ∷ cs) x
      lift i hi s dir x (finds e j pl y l q v at) = finds e j pl y (into d i e j a b cs hi part s dir l) q v at
      lift i hi s dir x misses = misses
      lift i hi s dir x (meets e j [] b₁ cs₁ q l f) = absurd (no_parts [] l refl)
      lift i hi s dir x (meets e j (c ∷ front) b₁ cs₁ q l f) = meets e j (a ∷ c ∷ front) b₁ cs₁ (ap (λ (z : List (List ℕ)). a ∷ z) q) (into d i e j a c front hi part s dir l) f

      by_kind : (y : Item) (h : Hit y) (c : Bool) → is_directory (share_of R d) h.number ≡ c
          → Only R p first d (a ∷ b ∷ cs) (onward (pick (node.is_directory (header_for y)) (path.into (region_of (placed_at place y))) (path.stops (refuses 27 []))) (λ u. parts_from absent w first u (b ∷ cs)))
      by_kind y h true dir =
          let is_dir : node.is_directory (header_for y) ≡ true =
          ap (λ (n : ℕ). eqb (n / 16 % 2) 1) (ap (λ (e : Entry). attributes e.kind) h.entry_is ∙ directory_kind (is_directory (share_of R d) h.number) dir) in
          rw is_dir
          (lift h.number h.inside h.same dir _
          (next (value_of (share_of R d) h.number) (names_one R (rule_kept R places tables sectors p I.planned) d hd h.number h.inside dir) (region_of (placed_at place y))
          (entry_region R places tables sectors p w first I d hd h.number h.inside dir y h.entry_is h.sector_is place)))
      by_kind y h false dir =
          let is_file : node.is_directory (header_for y) ≡ false =
          ap (λ (n : ℕ). eqb (n / 16 % 2) 1) (ap (λ (e : Entry). attributes e.kind) h.entry_is ∙ file_kind (is_directory (share_of R d) h.number) dir) in
          rw is_file (meets d h.number (a ∷ []) b cs refl (last d h.number a h.inside part h.same) dir)

      goes : (x : Told Finding) → Sound x → Only R p first d (a ∷ b ∷ cs) (onward (turn_of x) (λ u. parts_from absent w first u (b ∷ cs)))
      goes x (agreement.found y c m s k) = let h = hit y m s in by_kind y h (is_directory (share_of R d) h.number) refl
      goes x (agreement.missing c k) = misses

  -- ANY PARTS, from a region of directory d's table on
  pub parts_only : (cs : List (List ℕ)) → AllParts cs → (d : ℕ) → d < directories_of R → (t : Region) → RegionFor p d t → Only R p first d cs (parts_from absent w first t cs)
  unfolding parts_from
  parts_only [] ps d hd t r = absurd ps
  parts_only (a ∷ []) ps d hd t r = ends d hd t r a ps (lookup_by absent w first t a) (looked d hd t r a ps)
  parts_only (a ∷ b ∷ cs) ps d hd t r = goes d hd t r a ps.0 b cs (parts_only (b ∷ cs) ps.1) (lookup_by absent w first t a) (looked d hd t r a ps.0)

  -- ANY PATH of them, from the root, for every set of absent links that has 0 in it
  pub path_only_by : (cs : List (List ℕ)) → AllParts cs → Only R p first 0 cs (path_by absent w first (root_of p) (joined cs))
  path_only_by cs ps =
      subst (Only R p first 0 cs) (sym (joined_path absent w first (root_of p) cs ps))
      (parts_only cs ps 0 (some_directory R (rule_kept R places tables sectors p I.planned)) (root_of p) (root_region R places tables sectors p w first I))

-- BOTH RULES, of a planned image
module _ (R : Request) (places : ℕ) (tables sectors : List ℕ) (p : Plan) (w : List ℕ) (first : Sector) (I : Imaged R places tables sectors p w first) (cs : List (List ℕ)) (ps : AllParts cs) where
  -- any path of these parts, from the root, under a rule
  pub path_only : (rule : ℕ) (absent : List ℕ) → absent_under rule ≡ some absent → Only R p first 0 cs (path_of rule w first (root_of p) (joined cs))
  path_only rule absent e =
      subst (Only R p first 0 cs) (sym ((path_by_rule w first (root_of p) (joined cs)).under rule absent e)) (path_only_by R places tables sectors p w first I absent (rule_0 rule absent e) cs ps)

  -- what is found with one set of absent links is found the same with another, of which no link on a way is
  found_again_by : (absent other : List ℕ) → ((ks : List ℕ) → Real ks → Clear other ks) → (a : Told Placed) → Only R p first 0 cs a → (x : Placed) → a ≡ gives x
      → path_by absent w first (root_of p) (joined cs) ≡ gives x → path_by other w first (root_of p) (joined cs) ≡ gives x
  found_again_by absent other clear a (finds e j place item leads is at sector) x q found =
      let f = path_finds_by R places tables sectors p w first I (root_of p) (root_region R places tables sectors p w first I) e j cs leads in
      elim (clear_or_cut absent f.links) [
        | inl c ↦ f.found other (clear f.links f.real) ∙ sym (f.found absent c) ∙ found
        | inr c ↦ absurd (given_not_refused found (f.lost absent c))
      ]
  found_again_by absent other clear a misses x q found = let z : ◌≡◌ {A = ℕ} 0 1 = cc in absurd (omega arith)
  found_again_by absent other clear a (meets e j front b bs is leads file) x q found = let z : ◌≡◌ {A = ℕ} 0 1 = cc in absurd (omega arith)

  -- what is found under rule one is found the same under rule two
  pub path_one_then_two : (x : Placed) → path_of 1 w first (root_of p) (joined cs) ≡ gives x → path_of 2 w first (root_of p) (joined cs) ≡ gives x
  path_one_then_two x e =
      let found : path_by one_absent w first (root_of p) (joined cs) ≡ gives x = sym (path_by_rule w first (root_of p) (joined cs)).rule_one ∙ e in
      (path_by_rule w first (root_of p) (joined cs)).rule_two
      ∙ found_again_by one_absent walk_absent walk_clear (path_by one_absent w first (root_of p) (joined cs)) (path_only_by R places tables sectors p w first I one_absent one_0 cs ps) x found found
