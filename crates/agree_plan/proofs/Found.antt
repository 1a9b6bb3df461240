-- PATHS IN A PLANNED IMAGE: a path whose parts lead to an entry finds it with its planned sector and size, unless a link on the way is taken for absent.
-- Assumes nothing.
--     path_finds_by     of every set of absent links
--     path_found        under rule one: unless a link of 255 stands on the way; then 22. Under rule two: always
use Prim.Native.Nat.{ℕ, ◌+◌, ◌/◌, ◌%◌, ◌≤◌, ◌<◌}
use native.Mathlib.Omega.{arith}
use native.Mathlib.Decide.{ℕ_discrete}
use mathlib.Core.Path.{◌≡◌, refl, sym, ap, ap₂, subst, ◌∙◌}
use mathlib.Core.Bool.{Bool, true, false}
use mathlib.Core.Logic.{◌⊎◌, inl, inr}
use mathlib.Core.List.Memᴰ
use mathlib.Core.List.{List, [], ◌∷◌, ◌++◌, map, Memᴰ}
use mathlib.Core.Option.{some}
use lib.Dec.{eqb}
use lib.ListN.{length}
use Rattle.units.specs.Told.{Told, gives, refuses, pick}
use Rattle.units.specs.declared.Sector.{Sector}
use Rattle.units.specs.declared.Region.{Region}
use Rattle.name_role.specs.Roles.{stored_keys}
use Rattle.layout_node.specs.Header.{is_directory}
use Rattle.read_entry.specs.Entry.{Placed, read_at, name_of}
use Rattle.read_entry.specs.Links.{one_absent, walk_absent}
use Rattle.read_lookup.specs.Lookup.{Finding, lookup_by}
use Rattle.read_path.specs.Path as path
use Rattle.read_path.specs.Path.{last_of, turn_of, onward, parts_from, path_by, path_of}
use Rattle.read_path.proofs.Rules.{path_by_rule}
use Rattle.lookup_way.specs.Along.{Along, Real, Clear, Cut}
use Rattle.lookup_way.proofs.Along.{along_clear, along_absent, clear_or_cut}
use Rattle.lookup_way.proofs.Sets.{without_255, with_255, walk_clear}
use Rattle.table_model.specs.Entry.{Entry, Item, attributes, header_for}
use Rattle.table_model.proofs.Geometry.{of_item}
use Rattle.img_model.specs.Shares.{Request, share_of, directories_of, count_of, value_of}
use Rattle.img_model.specs.Shares as shares
use Rattle.img_model.specs.Plan.{entries_at, Plan}
use Rattle.img_model.proofs.Rule.{some_directory, names_one}
use Rattle.agree.specs.Agreement.{placed_at, Same, ReadBack, Reached}
use Rattle.agree.specs.Given.{times}
use Rattle.agree.proofs.Unique.{way_ends}
use Rattle.avl_model.proofs.Frame.{δ-apart}
use Rattle.agree_plan.specs.Planned.{tree_at, start_sector, items_at, sector_at}
use Rattle.agree_plan.specs.Image.{Imaged, root_of, RegionFor, PathPart, joined, Leads, last, into, region_of, Way, here, on, Finds, AllParts}
use Rattle.agree_plan.proofs.Tables.{rule_kept}
use Rattle.agree_plan.proofs.Sectors.{sectors_planned}
use Rattle.agree_plan.proofs.Agrees.{directory_kind, table_written, table_agrees, root_region, entry_region}
use Rattle.agree_plan.proofs.Paths.{joined_path}

-- ---- lists

-- links one after the other
real_append : (ks ls : List ℕ) → Real ks → Real ls → Real (ks ++ ls)
real_append ks ls a b k m = go (Memᴰ.append_cases ks m)
  where
    go : Memᴰ k ks ⊎ Memᴰ k ls → (k ≡ 0 → ⊥) × (k ≡ 65535 → ⊥)
    go (inl n) = a k n
    go (inr n) = b k n

-- clear of a set and then cut by it: cut after them
cut_after : (absent ks ls : List ℕ) → Clear absent ks → Cut absent (ks ++ ls) → Cut absent ls
cut_after absent ks ls f t = go (Memᴰ.append_cases ks t.among)
  where
    go : Memᴰ t.link ks ⊎ Memᴰ t.link ls → Cut absent ls
    go (inl m) =
        let z : false ≡ true = sym (f t.link m) ∙ t.taken in
        let y : ◌≡◌ {A = ℕ} 0 1 = cc in
        absurd (omega arith)
    go (inr m) = record { link = t.link; among = m; taken = t.taken }

real_front : (ks ls ms : List ℕ) → ms ≡ ks ++ ls → Real ms → Real ks
real_front ks ls ms e r k m = r k (subst (Memᴰ k) (sym e) (Memᴰ.append_left ls m))

real_back : (ks ls ms : List ℕ) → ms ≡ ks ++ ls → Real ms → Real ls
real_back ks ls ms e r k m = r k (subst (Memᴰ k) (sym e) (Memᴰ.append_right ks m))

-- an answer gives one finding
one_given : {a : Told Finding} {x y : Finding} → a ≡ gives x → a ≡ gives y → x ≡ y
one_given p q = cc

-- ---- a way of parts, by how many there are

module _ (w : List ℕ) (first : Sector) (t : Region) where
  -- of one part
  record OfOne (a ks : List ℕ) (y : Placed) : Type 0 where
    at : ℕ
    read : read_at w first t at ≡ gives (some y)
    named : Same a (name_of w y.place y.header.name_len)
    way : Along (read_at w first t) 0 at ks

  of_one : (parts : List (List ℕ)) (a ks : List ℕ) (y : Placed) → parts ≡ a ∷ [] → Way w first t parts ks y → OfOne a ks y
  of_one parts a ks y e (here _ b o _ _ read same along) =
      let q : b ≡ a = cc in
      record { at = o; read = read; named = subst (λ (z : List ℕ). Same z (name_of w y.place y.header.name_len)) q same; way = along }
  of_one parts a ks y e (on _ b c cs o x _ js ls read same along rest) = let z : ◌≡◌ {A = ℕ} 0 1 = cc in absurd (omega arith)

  -- of more
  record OfMore (a b : List ℕ) (cs : List (List ℕ)) (ks : List ℕ) (y : Placed) : Type 0 where
    at : ℕ
    entry : Placed
    front : List ℕ
    back : List ℕ
    links : ks ≡ front ++ back
    read : read_at w first t at ≡ gives (some entry)
    named : Same a (name_of w entry.place entry.header.name_len)
    way : Along (read_at w first t) 0 at front
    rest : Way w first (region_of entry) (b ∷ cs) back y

  of_more : (parts : List (List ℕ)) (a b : List ℕ) (cs : List (List ℕ)) (ks : List ℕ) (y : Placed) → parts ≡ a ∷ b ∷ cs → Way w first t parts ks y → OfMore a b cs ks y
  of_more parts a b cs ks y e (here _ c o _ _ read same along) = let z : ◌≡◌ {A = ℕ} 0 1 = cc in absurd (omega arith)
  of_more parts a b cs ks y e (on _ c d ds o x _ js ls read same along rest) =
      let q : c ≡ a = cc in
      let r : d ∷ ds ≡ b ∷ cs = cc in
      record {
        at = o;
        entry = x;
        front = js;
        back = ls;
        links = refl;
        read = read;
        named = subst (λ (z : List ℕ). Same z (name_of w x.place x.header.name_len)) q same;
        way = along;
        rest = subst (λ (z : List (List ℕ)). Way w first (region_of x) z ls y) r rest;
      }

-- the item of a number
record ItemOf (entry : ℕ → Entry) (sector : ℕ → ℕ) (xs : List Item) (i : ℕ) : Type 0 where
  item : Item
  among : Memᴰ item xs
  entry_is : item.entry ≡ entry i
  sector_is : item.sector ≡ sector i

item_of : (entry : ℕ → Entry) (sector : ℕ → ℕ) (xs : List Item) (is : List ℕ) → map (λ (y : Item). y.entry) xs ≡ map entry is → map (λ (y : Item). y.sector) xs ≡ map sector is
    → (i : ℕ) → 1 ≤ times i is → ItemOf entry sector xs i
item_of entry sector xs [] a b i h = absurd (omega arith)
item_of entry sector [] (j ∷ is) a b i h = let z : ◌≡◌ {A = ℕ} 0 1 = cc in absurd (omega arith)
item_of entry sector (x ∷ xs) (j ∷ is) a b i h =
    let e : x.entry ≡ entry j = cc in
    let f : x.sector ≡ sector j = cc in
    let g : map (λ (y : Item). y.entry) xs ≡ map entry is = cc in
    let k : map (λ (y : Item). y.sector) xs ≡ map sector is = cc in
    elim (ℕ_discrete j i) [
      | yes q ↦ record { item = x; among = Memᴰ.head refl; entry_is = e ∙ ap entry q; sector_is = f ∙ ap sector q }
      | no q ↦
          let r = item_of entry sector xs is g k i (omega (arith, δ-apart j i q)) in
          record { item = r.item; among = Memᴰ.tail r.among; entry_is = r.entry_is; sector_is = r.sector_is }
    ]

module _ (R : Request) (places : ℕ) (tables sectors : List ℕ) (p : Plan) (w : List ℕ) (first : Sector) (I : Imaged R places tables sectors p w first) where
  abbrev S : List ℕ
  S = p.sizes

  -- ---- one table

  module _ (d : ℕ) (hd : d < directories_of R) (t : Region) (r : RegionFor p d t) where
    abbrev place : ℕ
    place = (I.stand d hd).place

    abbrev its : List Item
    its = items_at R S d

    -- its entry i
    module _ (i : ℕ) (hi : i < count_of R d) where
      own : ItemOf (entries_at R S d) (sector_at R p d) its i
      own =
          let s = sectors_planned R places tables sectors p I.planned I.apart d hd in
          item_of (entries_at R S d) (sector_at R p d) its s.numbers s.entries s.sectors i (omega (arith, s.once i hi))

      abbrev y : Item
      y = own.item

      back : ReadBack w first t place y
      back = of_item (ReadBack w first t place) its y (table_agrees R places tables sectors p w first I d hd t r).read own.among

      -- a lookup of its name
      record Looked (a : List ℕ) : Type 0 where
        links : List ℕ
        way : Along (read_at w first t) 0 y.offset links
        real : Real links
        headers : ℕ
        hit : (absent : List ℕ) → Clear absent links → lookup_by absent w first t a ≡ gives (record { entry = placed_at place y; offset = y.offset; headers = headers })
        miss : (absent : List ℕ) → Cut absent links → (c : ℕ) × (lookup_by absent w first t a ≡ refuses 22 (c ∷ []))

      looked : (a : List ℕ) → PathPart a → Same a (entries_at R S d i).name → Looked a
      looked a part same =
          let v = of_item (Reached w first t place its) its y (table_agrees R places tables sectors p w first I d hd t r).reached own.among in
          let alike : Same a y.entry.name = same ∙ ap (λ (e : Entry). stored_keys e.name) (sym own.entry_is) in
          record {
            links = v.links;
            way = v.way;
            real = v.real;
            headers = 1 + length v.links;
            hit = λ absent f. v.answers absent a part.good alike ∙ along_clear absent (placed_at place y) y.offset 1 v.links f;
            miss = λ absent f. let k = along_absent absent (placed_at place y) y.offset 1 v.links f in (k.0, v.answers absent a part.good alike ∙ k.1);
          }

      named : (a : List ℕ) → Same a (entries_at R S d i).name → Same a (name_of w (place + y.offset) (length y.entry.name))
      named a same = same ∙ ap (λ (e : Entry). stored_keys e.name) (sym own.entry_is) ∙ ap stored_keys (sym back.named)

      -- an entry that has the part for its name, and to which a way leads, is this one, and the way is the same
      only_here : (a : List ℕ) (part : PathPart a) (same : Same a (entries_at R S d i).name) (o : ℕ) (x : Placed) (ks : List ℕ) → read_at w first t o ≡ gives (some x)
          → Same a (name_of w x.place x.header.name_len) → Along (read_at w first t) 0 o ks → Real ks
          → (x ≡ placed_at place y) × (ks ≡ (looked a part same).links)
      only_here a part same o x ks read alike way real =
          let l = looked a part same in
          let all = table_agrees R places tables sectors p w first I d hd t r in
          let v =
          way_ends (entries_at R S d) 1 (start_sector R S d) (tree_at R S d) w first t (table_written R places tables sectors p w first I d hd t r) o ks way real x read in
          let b = of_item (ReadBack w first t place) its v.0 all.read v.1 in
          let at : read_at w first t o ≡ gives (some (placed_at place v.0)) = ap (read_at w first t) (sym v.2) ∙ b.reads in
          let is : x ≡ placed_at place v.0 = cc in
          let called : Same a v.0.entry.name =
          alike ∙ ap (λ (z : Placed). stored_keys (name_of w z.place z.header.name_len)) is ∙ ap stored_keys b.named in
          let c = of_item (Reached w first t place its) its v.0 all.reached v.1 in
          let one =
          one_given (l.hit walk_absent (walk_clear l.links l.real))
          (c.answers walk_absent a part.good called
          ∙ along_clear walk_absent (placed_at place v.0) v.0.offset 1 c.links (walk_clear c.links c.real)) in
          let there : o ≡ y.offset = sym v.2 ∙ sym (ap (λ (z : Finding). z.offset) one) in (
            is ∙ sym (ap (λ (z : Finding). z.entry) one),
            all.one_way y.offset ks l.links (subst (λ (q : ℕ). Along (read_at w first t) 0 q ks) there way) real l.way l.real,
          )

      -- where it is the last part
      ends : (a : List ℕ) → PathPart a → Same a (entries_at R S d i).name → Finds R p w first t (a ∷ []) d i (λ absent. parts_from absent w first t (a ∷ []))
      unfolding parts_from
      ends a part same =
          let l = looked a part same in
          record {
            item = y;
            among = own.among;
            entry_is = own.entry_is;
            sector_is = own.sector_is;
            place = place;
            at_sector = (I.stand d hd).at_sector;
            links = l.links;
            way = here t a y.offset (placed_at place y) l.links back.reads (named a same) l.way;
            real = l.real;
            one_way = λ ks z v real.
                let o = of_one w first t (a ∷ []) a ks z refl v in
                let h = only_here a part same o.at z ks o.read o.named o.way real in
                (h.1, h.0);
            found = λ absent f. ap last_of (l.hit absent f);
            lost = λ absent f. ap last_of (l.miss absent f).1;
          }

      -- where it is not: the table that it names
      module _ (dir : shares.is_directory (share_of R d) i ≡ true) where
        abbrev u : Region
        u = region_of (placed_at place y)

        below : RegionFor p (value_of (share_of R d) i) u
        below = entry_region R places tables sectors p w first I d hd i hi dir y own.entry_is own.sector_is place

        is_dir : is_directory (header_for y) ≡ true
        is_dir =
            ap (λ (n : ℕ). eqb (n / 16 % 2) 1) (ap (λ (e : Entry). attributes e.kind) own.entry_is ∙ directory_kind (shares.is_directory (share_of R d) i) dir)

        -- the lookup goes into it, or ends
        through : (absent a b : List ℕ) (cs : List (List ℕ)) (l : Looked a) → Clear absent l.links
            → parts_from absent w first t (a ∷ b ∷ cs) ≡ parts_from absent w first u (b ∷ cs)
        unfolding parts_from
        through absent a b cs l f =
            ap (λ (x : Told Finding). onward (turn_of x) (λ v. parts_from absent w first v (b ∷ cs))) (l.hit absent f)
            ∙ ap (λ (c : Bool). onward (pick c (path.into u) (path.stops (refuses 27 []))) (λ v. parts_from absent w first v (b ∷ cs))) is_dir

        stopped : (absent a b : List ℕ) (cs : List (List ℕ)) (l : Looked a) → Cut absent l.links → parts_from absent w first t (a ∷ b ∷ cs) ≡ refuses 22 []
        unfolding parts_from
        stopped absent a b cs l f = ap (λ (x : Told Finding). onward (turn_of x) (λ v. parts_from absent w first v (b ∷ cs))) (l.miss absent f).1

        goes : (a b : List ℕ) (cs : List (List ℕ)) (e j : ℕ) → PathPart a → Same a (entries_at R S d i).name
            → Finds R p w first u (b ∷ cs) e j (λ absent. parts_from absent w first u (b ∷ cs))
            → Finds R p w first t (a ∷ b ∷ cs) e j (λ absent. parts_from absent w first t (a ∷ b ∷ cs))
        goes a b cs e j part same n =
            let l = looked a part same in
            record {
              item = n.item;
              among = n.among;
              entry_is = n.entry_is;
              sector_is = n.sector_is;
              place = n.place;
              at_sector = n.at_sector;
              links = l.links ++ n.links;
              way = on t a b cs y.offset (placed_at place y) (placed_at n.place n.item) l.links n.links back.reads (named a same) l.way n.way;
              real = real_append l.links n.links l.real n.real;
              one_way = λ ks z v real.
                  let o = of_more w first t (a ∷ b ∷ cs) a b cs ks z refl v in
                  let h = only_here a part same o.at o.entry o.front o.read o.named o.way (real_front o.front o.back ks o.links real) in
                  let m =
                  n.one_way o.back z (subst (λ (x : Placed). Way w first (region_of x) (b ∷ cs) o.back z) h.0 o.rest)
                  (real_back o.front o.back ks o.links real) in
                  (o.links ∙ ap₂ ◌++◌ h.1 m.0, m.1);
              found = λ absent f.
                  through absent a b cs l (λ k m. f k (Memᴰ.append_left n.links m)) ∙ n.found absent (λ k m. f k (Memᴰ.append_right l.links m));
              lost = λ absent f. missed absent l f (clear_or_cut absent l.links);
            }
          where
            missed : (absent : List ℕ) (l : Looked a) → Cut absent (l.links ++ n.links) → Clear absent l.links ⊎ Cut absent l.links
                → parts_from absent w first t (a ∷ b ∷ cs) ≡ refuses 22 []
            missed absent l f (inl c) = through absent a b cs l c ∙ n.lost absent (cut_after absent l.links n.links c f)
            missed absent l f (inr c) = stopped absent a b cs l c

  -- ---- all the way, from a region of directory d's table on

  leads_to : (d e j : ℕ) (cs : List (List ℕ)) → Leads R p d cs e j → d < directories_of R → (t : Region) → RegionFor p d t
      → Finds R p w first t cs e j (λ absent. parts_from absent w first t cs)
  leads_to d e j cs (last _ _ a hi part same) hd t r = ends d hd t r j hi a part same
  leads_to d e j cs (into _ i _ _ a b bs hi part same dir rest) hd t r =
      goes d hd t r i hi dir a b bs e j part same
      (leads_to (value_of (share_of R d) i) e j (b ∷ bs) rest (names_one R (rule_kept R places tables sectors p I.planned) d hd i hi dir)
      (region_of (placed_at (I.stand d hd).place (own d hd t r i hi).item)) (below d hd t r i hi dir))

  all_parts : (d e j : ℕ) (cs : List (List ℕ)) → Leads R p d cs e j → AllParts cs
  all_parts d e j cs (last _ _ a hi part same) = part
  all_parts d e j cs (into _ i _ _ a b bs hi part same dir rest) = (part, all_parts (value_of (share_of R d) i) e j (b ∷ bs) rest)

  -- from a region of the root's table, which may have its size as reported or more, up to that size rounded
  module _ (t : Region) (r : RegionFor p 0 t) where
    -- THE PARTS, one after the other
    pub parts_find : (e j : ℕ) (cs : List (List ℕ)) → Leads R p 0 cs e j → Finds R p w first t cs e j (λ absent. parts_from absent w first t cs)
    parts_find e j cs l = leads_to 0 e j cs l (some_directory R (rule_kept R places tables sectors p I.planned)) t r

    -- THE PATH that has slashes between them, for every set of absent links
    pub path_finds_by : (e j : ℕ) (cs : List (List ℕ)) → Leads R p 0 cs e j → Finds R p w first t cs e j (λ absent. path_by absent w first t (joined cs))
    path_finds_by e j cs l =
        subst (Finds R p w first t cs e j) (sym (λ k absent. joined_path absent w first t cs (all_parts 0 e j cs l) k)) (parts_find e j cs l)

    -- under rule two it finds the planned entry, whatever links stand on the way
    pub path_found_two : (e j : ℕ) (cs : List (List ℕ)) (l : Leads R p 0 cs e j)
        → let f = path_finds_by e j cs l in path_of 2 w first t (joined cs) ≡ gives (placed_at f.place f.item)
    path_found_two e j cs l =
        let f = path_finds_by e j cs l in
        (path_by_rule w first t (joined cs)).rule_two ∙ f.found walk_absent (walk_clear f.links f.real)

  -- A PATH finds the planned entry: under rule one, unless a link of 255 stands on the way, and then 22; under rule two always
  pub path_found : (e j : ℕ) (cs : List (List ℕ)) → Leads R p 0 cs e j → (f : Finds R p w first (root_of p) cs e j (λ absent. path_by absent w first (root_of p) (joined cs)))
      × ((Memᴰ 255 f.links → ⊥) → path_of 1 w first (root_of p) (joined cs) ≡ gives (placed_at f.place f.item))
      × (Memᴰ 255 f.links → path_of 1 w first (root_of p) (joined cs) ≡ refuses 22 [])
      × (path_of 2 w first (root_of p) (joined cs) ≡ gives (placed_at f.place f.item))
  path_found e j cs l =
      let root = root_region R places tables sectors p w first I in
      let f = path_finds_by (root_of p) root e j cs l in
      let one = (path_by_rule w first (root_of p) (joined cs)).rule_one in (
        f,
        (λ n. one ∙ f.found one_absent (without_255 f.links f.real n)),
        (λ m. one ∙ f.lost one_absent (with_255 f.links m)),
        path_found_two (root_of p) root e j cs l,
      )
