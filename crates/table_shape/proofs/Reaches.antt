-- WHAT A LOOKUP IN A TREE ANSWERS. In a tree whose names are in order each entry is reached along links, and a lookup of its name answers along them, for every
-- set of absent links. In any tree, with every link absent that is so for the walk, an entry of the tree is found, or the answer is 22. Assumes nothing.
use Prim.Native.Nat.{ℕ, zero, suc, ◌+◌, ◌*◌, ◌≤◌, max}
use mathlib.Core.Path.{◌≡◌, refl, sym, ap, ◌∙◌}
use mathlib.Core.Bool.{Bool, true, false}
use mathlib.Core.List.Memᴰ
use mathlib.Core.List.{List, [], ◌∷◌, Memᴰ}
use mathlib.Core.Option.{Option, some, none}
use native.Mathlib.Omega.{arith}
use Rattle.units.specs.Told.{Told, gives, refuses, pick}
use Rattle.units.specs.declared.Sector.{Sector}
use Rattle.units.specs.declared.Region.{Region}
use Rattle.std.specs.declared.cmp.Ordering.{Ordering}
use Rattle.std.specs.declared.cmp.Ordering.TheVariants.{Less, Equal, Greater}
use Rattle.name_role.specs.Roles.{stored_order, sought_order, bad_sought}
use Rattle.name_role.proofs.Roles.{sought_equal, sought_then}
use Rattle.read_entry.specs.declared.Placed.{Placed}
use Rattle.read_entry.specs.Entry.{read_at}
use Rattle.read_entry.specs.Links.{is_in, walk_absent}
use Rattle.read_lookup.specs.Lookup.{by_link, by_order, Finding, ending, most, lookup_by}
use Rattle.lookup_way.specs.Along.{Along, there, left, right, Real, answer_along}
use Rattle.lookup_way.proofs.Steps.{chain, follow, follow_is, chain_entry, chain_blank, lookup_is}
use Rattle.lookup_way.proofs.Sets.{followed, real_cons}
use Rattle.strict_rule.specs.Strict.{name_in}
use Rattle.table_shape.specs.Shape.{Shape, leaf, node, preorder, Every, place_by, Hangs, nowhere, blank, entry, Ordered}
use Rattle.table_shape.specs.Found.{Named}
use Rattle.table_shape.proofs.Trees.{depth, every_map, every_both, EveryLink, headers, hung_sized}

module _ (w : List ℕ) (first : Sector) (t : Region) where
  abbrev f : ℕ → Told (Option Placed)
  f = read_at w first t

  -- an entry is reached: there is a way to it from the first entry along links that are read, and a lookup of its
  -- name answers along that way; that is, it finds the entry at its offset, unless a link on the way is taken for
  -- absent, and then answers 22
  pub record Reached (o : ℕ) (x : Placed) : Type 0 where
    pub links : List ℕ
    pub way : Along (read_at w first t) 0 o links
    -- none of these links is 0 or 65,535, so that of them rule one takes exactly 255 for absent, and rule two none
    pub real : Real links
    pub answers : (absent name : List ℕ) → bad_sought name ≡ false → Named w name x
        → lookup_by absent w first t name ≡ answer_along absent x o 1 links

  -- EACH ENTRY IS REACHED: the entry y at p from offset o, by a lookup that may read d headers or more
  record To (d o p : ℕ) (y : Placed) : Type 0 where
    links : List ℕ
    way : Along f o p links
    real : Real links
    answers : (absent name : List ℕ) (m n : ℕ) → d ≤ m → Named w name y → chain absent w first t name m n o ≡ answer_along absent y p (n + 1) links

  -- .. and from a place
  abbrev ToFrom : ℕ → Option ℕ → ℕ → Placed → Type 0
  ToFrom d none p y = ⊥
  ToFrom d (some o) p y = To d o p y

  module _ (o : ℕ) (x : Placed) (read : f o ≡ gives (some x)) where
    to_here : (d : ℕ) → To (suc d) o o x
    to_here d = record { links = []; way = there; real = λ k m. absurd (Memᴰ.not-nil m); answers = answer }
      where
        answer : (absent name : List ℕ) (m n : ℕ) → suc d ≤ m → Named w name x → chain absent w first t name m n o ≡ answer_along absent x o (n + 1) []
        answer absent name zero n l q = absurd (omega arith)
        answer absent name (suc m) n l q = chain_entry absent w first t name o m n x Equal read (sought_equal name (name_in w x) q)

    -- through the link k, which is the one that a name in order c to the entry's is looked for at
    module _ (k : ℕ) (c : Ordering) (side : (absent : List ℕ) → by_order absent x c ≡ by_link absent k) (step : (p : ℕ) (ks : List ℕ) → Along f (4 * k) p ks → Along f o p (k ∷ ks)) where
      to_down : (d e p : ℕ) (y : Placed) → d ≤ e → stored_order (name_in w y) (name_in w x) ≡ c → ToFrom d (place_by k) p y → To (suc e) o p y
      to_down d e p y h q g = by (is_in k walk_absent) refl g
        where
          answer : (to : To d (4 * k) p y) (absent name : List ℕ) (m n : ℕ) → suc e ≤ m → Named w name y
              → chain absent w first t name m n o ≡ answer_along absent y p (n + 1) (k ∷ to.links)
          answer to absent name zero n l s = absurd (omega arith)
          answer to absent name (suc m) n l s =
              chain_entry absent w first t name o m n x c read (sought_then name (name_in w y) (name_in w x) (sought_equal name (name_in w y) s) ∙ q)
              ∙ ap (λ a. ending a o (n + 1) (λ i. chain absent w first t name m (n + 1) i)) (side absent)
              ∙ follow_is absent w first t name m (n + 1) o k
              ∙ ap (pick (is_in k absent) (refuses 22 ((n + 1) ∷ []))) (to.answers absent name m (n + 1) (omega arith) s)

          by : (b : Bool) → is_in k walk_absent ≡ b → ToFrom d (pick b none (some (4 * k))) p y → To (suc e) o p y
          by true z to = absurd to
          by false z to = record {
            links = k ∷ to.links;
            way = step p to.links to.way;
            real = real_cons k to.links (followed k z).0 (followed k z).1 to.real;
            answers = answer to;
          }

  all_to : {place : Option ℕ} {s : Shape} → Hangs f place s → Ordered w s → Every (ToFrom (depth s) place) s
  all_to nowhere h = tt
  all_to (blank e) h = tt
  all_to (entry {o = o} {x = x} {l = l} {r = r} e a b) h =
      let d : ℕ = max (depth l) (depth r) in (
        to_here o x e d,
        every_both _ _ _ l (λ p y g q. to_down o x e x.header.left.0 Less (λ absent. refl) (λ i ks a. left e a) (depth l) d p y (omega arith) q g) (all_to a h.2) h.0,
        every_both _ _ _ r (λ p y g q. to_down o x e x.header.right.0 Greater (λ absent. refl) (λ i ks a. right e a) (depth r) d p y (omega arith) q g) (all_to b h.3) h.1,
      )

  -- the whole table, where the tree hangs at offset 0
  pub all_reached : {s : Shape} → Hangs f (some 0) s → Ordered w s → depth s ≤ most → Every Reached s
  all_reached {s} h ordered low = every_map (ToFrom (depth s) (some 0)) _ s (λ o x to. reach o x to) (all_to h ordered)
    where
      reach : (o : ℕ) (x : Placed) → To (depth s) 0 o x → Reached o x
      reach o x to = record {
        links = to.links;
        way = to.way;
        real = to.real;
        answers = λ absent name good named. lookup_is absent w first t name good (hung_sized w first t h) ∙ to.answers absent name most 0 low named;
      }

-- WHAT IS FOUND IS AN ENTRY OF THE TREE: an answer gives the offset of one of its entries, or is 22, after at most m headers
pub data Lands (s : Shape) (m : ℕ) : Told Finding → Type 0 where
  on : (x : Finding) → Memᴰ x.offset (preorder s) → x.headers ≤ m → Lands s m (gives x)
  off : (c : ℕ) → c ≤ m → Lands s m (refuses 22 (c ∷ []))

wider : (s u : Shape) (m n : ℕ) → ((o : ℕ) → Memᴰ o (preorder s) → Memᴰ o (preorder u)) → m ≤ n → (a : Told Finding) → Lands s m a → Lands u n a
wider s u m n g h a (on x i k) = on x (g x.offset i) (omega arith)
wider s u m n g h a (off c k) = off c (omega arith)

-- a link that is absent for the walk is in the set
abbrev pub Stops : List ℕ → ℕ → Type 0
Stops absent k = is_in k walk_absent ≡ true → is_in k absent ≡ true

module _ (absent w : List ℕ) (first : Sector) (t : Region) (name : List ℕ) where
  abbrev answer : ℕ → ℕ → ℕ → Told Finding
  answer m n o = chain absent w first t name m n o

  -- from a place, by a lookup that may read d headers or more
  abbrev LandsFrom : ℕ → Option ℕ → Shape → Type 0
  LandsFrom d none s = Unit {0}
  LandsFrom d (some o) s = (m n : ℕ) → d ≤ m → Lands s (n + d) (answer m n o)

  at_link : (d k : ℕ) (s : Shape) → Stops absent k → LandsFrom d (place_by k) s → (m n o : ℕ) → d ≤ m → Lands s (n + d) (follow absent w first t name m n o k)
  at_link d k s stops g m n o l = rw (follow_is absent w first t name m n o k) (by (is_in k walk_absent) refl g (is_in k absent) refl)
    where
      by : (b : Bool) → is_in k walk_absent ≡ b → LandsFrom d (pick b none (some (4 * k))) s → (c : Bool) → is_in k absent ≡ c
          → Lands s (n + d) (pick c (refuses 22 (n ∷ [])) (answer m n (4 * k)))
      by b e h true q = off n (omega arith)
      by true e h false q = let z : true ≡ false = sym (stops e) ∙ q in let y : ◌≡◌ {A = ℕ} 0 1 = cc in absurd (omega arith)
      by false e h false q = h m n l

  at_entry : (o : ℕ) (x : Placed) (l r : Shape) (d e : ℕ) → read_at w first t o ≡ gives (some x) → Stops absent x.header.left.0 × Stops absent x.header.right.0
      → LandsFrom d (place_by x.header.left.0) l → LandsFrom e (place_by x.header.right.0) r
      → (c : Ordering) → sought_order name (name_in w x) ≡ c → (m n : ℕ) → max d e ≤ m → Lands (node l o x r) (n + suc (max d e)) (answer (suc m) n o)
  unfolding preorder
  at_entry o x l r d e read stops a b Less q m n h =
      rw (chain_entry absent w first t name o m n x Less read q)
      (wider l (node l o x r) (n + 1 + d) _ (λ p i. Memᴰ.tail (Memᴰ.append_left (preorder r) i)) (omega arith) _ (at_link d x.header.left.0 l stops.0 a m (n + 1) o (omega arith)))
  at_entry o x l r d e read stops a b Equal q m n h =
      rw (chain_entry absent w first t name o m n x Equal read q) (on (record { entry = x; offset = o; headers = n + 1 }) (Memᴰ.head refl) (omega arith))
  at_entry o x l r d e read stops a b Greater q m n h =
      rw (chain_entry absent w first t name o m n x Greater read q)
      (wider r (node l o x r) (n + 1 + e) _ (λ p i. Memᴰ.tail (Memᴰ.append_right (preorder l) i)) (omega arith) _ (at_link e x.header.right.0 r stops.1 b m (n + 1) o (omega arith)))

  all_land : {place : Option ℕ} {s : Shape} (h : Hangs (read_at w first t) place s) → EveryLink (Stops absent) s → LandsFrom (headers (read_at w first t) h) place s
  all_land nowhere stops = tt
  all_land (blank {o = o} e) stops = by
    where
      by : (m n : ℕ) → 1 ≤ m → Lands leaf (n + 1) (answer m n o)
      by zero n h = absurd (omega arith)
      by (suc m) n h = rw (chain_blank absent w first t name o m n e) (off (n + 1) (omega arith))
  all_land (entry {o = o} {x = x} {l = l} {r = r} e a b) stops = by (headers (read_at w first t) a) (headers (read_at w first t) b) (all_land a stops.1) (all_land b stops.2)
    where
      by : (i j : ℕ) → LandsFrom i (place_by x.header.left.0) l → LandsFrom j (place_by x.header.right.0) r → (m n : ℕ) → suc (max i j) ≤ m
          → Lands (node l o x r) (n + suc (max i j)) (answer m n o)
      by i j u v zero n h = absurd (omega arith)
      by i j u v (suc m) n h = at_entry o x l r i j e stops.0 u v (sought_order name (name_in w x)) refl m n (omega arith)

  -- the whole table, where the tree hangs at offset 0
  pub lands : {s : Shape} (h : Hangs (read_at w first t) (some 0) s) → EveryLink (Stops absent) s → headers (read_at w first t) h ≤ most → bad_sought name ≡ false
      → (m : ℕ) → headers (read_at w first t) h ≤ m → Lands s m (lookup_by absent w first t name)
  lands {s} h stops low good m k =
      rw (lookup_is absent w first t name good (hung_sized w first t h)) (wider s s (0 + headers (read_at w first t) h) m (λ o i. i) (omega arith) _ (all_land h stops most 0 low))
