-- A FILE THAT WAS PLANNED IS LOADED from a window with the image's tables and its descriptor. Assumes nothing.
use Prim.Native.Nat.{ℕ, ◌-◌, ◌*◌, ◌/◌, ◌%◌, ◌≤◌, ◌<◌}
use native.Mathlib.Omega.{arith}
use mathlib.Core.Path.{◌≡◌, refl, sym, ap, subst, ◌∙◌}
use mathlib.Core.Bool.{true, false}
use mathlib.Core.List.{List, [], ◌∷◌}
use lib.Dec.{eqb}
use borrow.Author.Tests.{le-leb}
use Rattle.units.specs.Told.{Told, gives}
use Rattle.units.specs.declared.Sector.{Sector}
use Rattle.layout_node.specs.Header as node
use Rattle.layout_volume.specs.declared.Descriptor.{Descriptor}
use Rattle.layout_volume.specs.Descriptor.{descriptor_bytes}
use Rattle.layout_volume.proofs.Laws.{read_written}
use Rattle.read_entry.specs.Entry.{Placed}
use Rattle.read_entry.specs.Links.{is_in}
use Rattle.read_path.specs.Path.{path_by, path_of}
use Rattle.limits_rule.specs.Limits.{Limits, volume_in, limits_of}
use Rattle.limits_rule.specs.Outcome as outcomes
use Rattle.limits_rule.specs.Outcome.{loaded, Outcome}
use Rattle.limits_rule.proofs.Marks.{volume_marked}
use Rattle.limits_rule.proofs.Outcomes.{outcome}
use Rattle.limits_rule.proofs.Numbers.{loads}
use Rattle.table_model.specs.Entry.{Entry, attributes}
use Rattle.img_model.specs.Shares.{Request, share_of, is_directory, value_of}
use Rattle.img_model.specs.Plan.{Plan, table_in}
use Rattle.img_model.proofs.Rule.{some_directory}
use Rattle.agree.specs.Written.{Stand}
use Rattle.agree.specs.Agreement.{placed_at}
use Rattle.agree.proofs.Plain.{given_not_refused}
use Rattle.agree_plan.specs.Planned.{sector_at}
use Rattle.agree_plan.specs.Image.{Imaged, joined, Leads, Finds}
use Rattle.agree_plan.proofs.Tables.{rule_kept, size_most}
use Rattle.agree_plan.proofs.Sectors.{root_planned}
use Rattle.agree_plan.proofs.Agrees.{file_size, file_kind}
use Rattle.agree_plan.proofs.Found.{path_finds_by, path_found_two}
use Rattle.agree_limits.specs.Loaded.{Described, FileLoaded}

-- a descriptor that stands at sector 32 is the volume's
stands : (w : List ℕ) (first : Sector) (d : Descriptor) → Stand w first (record { 0 = 32 }) (descriptor_bytes d)
    → d.root.sector.0 < 4294967296 → d.root.size < 4294967296 → d.stamp < 18446744073709551616 → volume_in w first ≡ gives d
unfolding volume_in
stands w first d s a b c =
    let at : s.place ≡ 2048 * (32 - first.0) = omega (arith, s.at_sector) in
    rw (le-leb first.0 32 (omega (arith, s.at_sector)), ← at, s.here) (read_written d s.rest a b c)

-- an answer gives one thing
one_given : {A : Type 0} {a : Told A} {x y : A} → a ≡ gives x → a ≡ gives y → x ≡ y
one_given p q = cc

module _ (R : Request) (places : ℕ) (tables sectors : List ℕ) (p : Plan) (w : List ℕ) (first : Sector) (I : Imaged R places tables sectors p w first) (d : Descriptor) (s : Described p w first d) where
  volume : volume_in w first ≡ gives d
  volume =
      let most : table_in p.sizes 0 ≤ 16384 * 2320 = size_most R places tables sectors p I.planned 0 (some_directory R (rule_kept R places tables sectors p I.planned)) in
      stands w first d s.stand (omega (arith, s.root.at, root_planned R places tables sectors p I.planned)) (omega (arith, most, s.root.sized.most)) s.stamp

  -- a path that leads to a file
  module _ (e j : ℕ) (cs : List (List ℕ)) (l : Leads R p 0 cs e j) (file : is_directory (share_of R e) j ≡ false) where
    abbrev f : Finds R p w first d.root cs e j (λ absent. path_by absent w first d.root (joined cs))
    f = path_finds_by R places tables sectors p w first I d.root s.root e j cs l

    abbrev x : Placed
    x = placed_at f.place f.item

    found : path_of 2 w first d.root (joined cs) ≡ gives x
    found = path_found_two R places tables sectors p w first I d.root s.root e j cs l

    is_file : node.is_directory x.header ≡ false
    is_file = ap (λ (n : ℕ). eqb (n / 16 % 2) 1) (ap (λ (y : Entry). attributes y.kind) f.entry_is ∙ file_kind (is_directory (share_of R e) j) file)

    size : x.header.size ≡ value_of (share_of R e) j
    size = ap (λ (y : Entry). y.size) f.entry_is ∙ file_size (is_directory (share_of R e) j) (table_in p.sizes (value_of (share_of R e) j)) (value_of (share_of R e) j) file

    as_planned : loaded d x ≡ record { number = 0; sector = record { 0 = sector_at R p e j }; size = value_of (share_of R e) j; stamp = d.stamp }
    as_planned = λ i. record { number = 0; sector = record { 0 = f.sector_is i }; size = size i; stamp = d.stamp }

    -- the date alone decides: of the other causes none is there
    by_cause : (time age : ℕ) (r : Limits) → Outcome w first (joined cs) time age r → is_in r.number (0 ∷ 40 ∷ 41 ∷ 42 ∷ []) ≡ true
    unfolding is_in
    by_cause time age r (outcomes.accepted c y a) = refl
    by_cause time age r (outcomes.no_volume h) = absurd (h (volume_marked w first d volume))
    by_cause time age r (outcomes.no_date c v h) = refl
    by_cause time age r (outcomes.clock_back c v h k) = refl
    by_cause time age r (outcomes.too_old c v h k m) = refl
    by_cause time age r (outcomes.by_path c k vs h q) =
        let same : c ≡ d = one_given h.volume volume in
        absurd (given_not_refused found (ap (λ (b : Descriptor). path_of 2 w first b.root (joined cs)) (sym same) ∙ q))
    by_cause time age r (outcomes.not_a_file c y h q k) =
        let same : c ≡ d = one_given h.volume volume in
        let one : x ≡ y = one_given found (ap (λ (b : Descriptor). path_of 2 w first b.root (joined cs)) (sym same) ∙ q) in
        let z : false ≡ true = sym is_file ∙ ap (λ (b : Placed). node.is_directory b.header) one ∙ k in
        let no : ◌≡◌ {A = ℕ} 0 1 = cc in
        absurd (omega arith)

    by_date : (time age : ℕ) → is_in (limits_of w first (joined cs) time age).number (0 ∷ 40 ∷ 41 ∷ 42 ∷ []) ≡ true
    by_date time age = by_cause time age _ (outcome w first (joined cs) time age)

    not_22 : (n : ℕ) → is_in n (0 ∷ 40 ∷ 41 ∷ 42 ∷ []) ≡ true → n ≡ 22 → ⊥
    unfolding is_in
    not_22 n h q =
        let z : is_in 22 (0 ∷ 40 ∷ 41 ∷ 42 ∷ []) ≡ true = subst (λ (m : ℕ). is_in m (0 ∷ 40 ∷ 41 ∷ 42 ∷ []) ≡ true) q h in
        let no : ◌≡◌ {A = ℕ} 0 1 = cc in
        omega arith

    -- THE FILE IS LOADED
    pub file_loaded : FileLoaded R p e j d (λ time age. limits_of w first (joined cs) time age)
    file_loaded = record {
      loaded = λ time age dated begun fresh.
          loads w first (joined cs) time age d x (record { allows = record { volume = volume; dated = dated; begun = begun; fresh = fresh }; found = found; file = is_file }) ∙ as_planned;
      by_date = by_date;
      never_22 = λ time age q. not_22 _ (by_date time age) q;
    }
