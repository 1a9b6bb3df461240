-- Demand 3 of the writers of tables: cited. Assumes nothing.
use Prim.Native.Nat.{ℕ, ◌+◌, ◌-◌, ◌≤◌}
use native.Mathlib.Omega.{arith}
use mathlib.Core.Path.{◌≡◌, sym, ap, subst, ◌∙◌}
use mathlib.Core.Bool.{false}
use mathlib.Core.List.{List, ◌++◌}
use lib.ListN.{length, take, replicate, length-map}
use Rattle.units.specs.Told.{gives}
use Rattle.units.specs.declared.Sector.{Sector}
use Rattle.units.specs.declared.Region.{Region}
use mathlib.Core.Option.{some}
use Rattle.name_role.specs.Roles.{bad_sought}
use Rattle.read_entry.specs.Entry.{Placed, read_at}
use Rattle.read_entry.specs.Links.{one_absent, walk_absent}
use Rattle.read_lookup.specs.Lookup.{lookup_by}
use Rattle.read_lookup.proofs.Rules.{lookup_by_rule}
use Rattle.read_walk.specs.Walk as walking
use Rattle.strict_rule.specs.Strict as checking
use Rattle.strict_rule.specs.Strict.{strict_of}
use Rattle.table_model.specs.Entry.{Entry, Item}
use Rattle.table_model.specs.Place.{items}
use Rattle.table_model.specs.Table.{Placing}
use Rattle.table_model.proofs.Geometry.{of_item, items-length}
use Rattle.dirtab_entry.specs.Entry.{rounded}
use Rattle.dirtab_arena.specs.Arena.{entry_at, tree_of}
use Rattle.dirtab_arena.proofs.Passed.{held}
use Rattle.dirtab.specs.Serialise as serialise
use Rattle.dirtab_list.specs.Whole as whole
use Rattle.dirtab_list.specs.Whole.{Listing, given_name, entry_in}
use Rattle.agree.specs.Agreement.{Same, offsets, placed_at, ReadBack, Reached, Sound, Agreement}
use Rattle.agree.specs.Given.{EachOnce}
use Rattle.agree.proofs.FromList.{grown-size}
use Rattle.agree.proofs.Plain.{found_listed_by, found_again_by}
use Rattle.agree_list.proofs.Same.{same_answer, same_output}
use Rattle.agree_writers.specs.Wrote.{WroteList, WroteArena}
use Rattle.agree_writers.proofs.OfList.{list_agrees, list_each, list_strict}
use Rattle.agree_writers.proofs.OfArena.{arena_agrees, arena_each, arena_strict}
use Rattle.agree_causes.specs.Lists.{tree_for, items_for}
use Rattle.lookup_way.specs.Along.{Along, Real, answer_along}
use Rattle.lookup_way.proofs.Sets.{one_0, walk_0, rule_0, walk_clear}
use Rattle.lookup_way.proofs.ByRule.{found_one, lost_one, found_two}
use Rattle.agree_causes.proofs.Listed.{walk_lists, check_lists}
use Rattle.agree_causes.proofs.Serialised.{serialised_arena}
use Rattle.claims.specs.Found.{FoundByName, Kept, ListKept, TurnKept, ArenaKept}

-- an entry to which links lead, where a lookup of its name answers along them
pub found_by_name : (w : List ℕ) (first : Sector) (t : Region) (x : Placed) (o : ℕ) (stored : List ℕ) (most : ℕ) (links : List ℕ) → Along (read_at w first t) 0 o links → Real links
    → ((ks : List ℕ) → Along (read_at w first t) 0 o ks → Real ks → ks ≡ links)
    → ((absent name : List ℕ) → bad_sought name ≡ false → Same name stored → lookup_by absent w first t name ≡ answer_along absent x o 1 links)
    → ((name : List ℕ) → bad_sought name ≡ false → Same name stored → 1 + length links ≤ most)
    → FoundByName w first t x o stored most
found_by_name w first t x o stored most links way real one_way answers low = record {
  links = links;
  way = way;
  real = real;
  one_way = one_way;
  found_one = λ none name good same. found_one w first t name x o links real (λ absent. answers absent name good same) none;
  lost_one = λ some name good same. lost_one w first t name x o links real (λ absent. answers absent name good same) some;
  found_two = λ name good same. (found_two w first t name x o links real (λ absent. answers absent name good same), low name good same);
}

module _ (w : List ℕ) (first : Sector) (t : Region) (place : ℕ) where
  item_found : (xs : List Item) (y : Item) → Agreement w first t place xs → Reached w first t place xs y → FoundByName w first t (placed_at place y) y.offset y.entry.name 19
  item_found xs y a r = found_by_name w first t (placed_at place y) y.offset y.entry.name 19 r.links r.way r.real
      (λ ks k q. a.one_way y.offset ks r.links k q r.way r.real) r.answers
      (λ name good same. (found_listed_by w first t place xs a walk_absent name good walk_0 _
      (sym (lookup_by_rule w first t name).rule_two
      ∙ found_two w first t name (placed_at place y) y.offset r.links r.real (λ absent. r.answers absent name good same))).headers)

  -- what the agreement of a table, its entries and the strict check give
  pub kept : (n : ℕ) (entry : ℕ → Entry) (xs : List Item) → length xs ≡ n → Agreement w first t place xs → EachOnce entry n xs
      → ((room : ℕ) → n ≤ room → strict_of w first t room ≡ gives (offsets xs)) → Kept w first t place n entry xs
  kept n entry xs long a e s =
      let same : length (offsets xs) ≡ n = length-map xs (λ (y : Item). y.offset) ∙ long in
      record {
        each = e;
        inside = a.inside;
        apart = a.apart;
        sectors = a.sectors;
        listed = λ list scratch h l.
            subst (λ (k : ℕ). (walking.walk_answer w first t (length list) (length scratch) ≡ gives k)
            × (walking.list_after w first t list (length scratch) ≡ offsets xs ++ replicate (length list - k) 0)) same
            (walk_lists w first t list (length scratch) l (offsets xs) (a.listed (length list) (omega arith)));
        read = λ y m. of_item (ReadBack w first t place) xs y a.read m;
        found = λ y m. item_found xs y a (of_item (Reached w first t place xs) xs y a.reached m);
        only = λ rule absent e name low. subst (Sound place xs 19 name) (sym ((lookup_by_rule w first t name).under rule absent e)) (a.sound absent (rule_0 rule absent e) name low);
        same = λ name x f. (lookup_by_rule w first t name).rule_two ∙ found_again_by w first t place xs a one_absent walk_absent one_0 walk_clear name x (sym (lookup_by_rule w first t name).rule_one ∙ f);
        accepted = λ list scratch h l.
            subst (λ (k : ℕ). (checking.strict_answer w first t (length list) (length scratch) ≡ gives k)
            × (checking.list_after w first t list (length scratch) ≡ offsets xs ++ replicate (length list - k) 0)) same
            (check_lists w first t list (length scratch) l (offsets xs) (s (length list) h));
      }

long : (L : Listing) (s : ℕ) → length (items_for L s) ≡ L.count
long L s = items-length (entry_in L) 1 (tree_for L) 0 s ∙ grown-size (given_name L) L.count

of_list : (L : Listing) (n s : ℕ) (out : List ℕ) (p : Placing) (w : List ℕ) (first : Sector) (t : Region) (g : WroteList L n s out p w first t)
    → Kept w first t g.stand.place L.count (entry_in L) (items_for L s)
of_list L n s out p w first t g =
    kept w first t g.stand.place L.count (entry_in L) (items_for L s) (long L s) (list_agrees L n s out p w first t g) (list_each L n s out p w first t g)
    (list_strict L n s out p w first t g)

pub list_kept : ListKept
list_kept L s m p w first t g =
    of_list L (whole.places_in m) s m.out p w first t (record { sizes = g.sizes; answer = g.answer; stand = g.stand; sized = g.sized })

pub turn_kept : TurnKept
turn_kept L s c m p w first t g =
    of_list L L.count s m.out p w first t
    (record {
      sizes = g.sizes;
      answer = same_answer L (serialise.places_in m) g.scratch s L.count g.places c g.wide (length m.out) ∙ g.answer;
      stand = record {
        place = g.stand.place;
        at_sector = g.stand.at_sector;
        rest = g.stand.rest;
        here = g.stand.here ∙ ap (λ (z : List ℕ). take (rounded p.size) z ++ g.stand.rest)
            (sym (same_output L (serialise.places_in m) g.scratch s L.count g.places c g.wide m.out));
      };
      sized = g.sized;
    })

pub arena_kept : ArenaKept
arena_kept A s m p w first t g =
    let n : ℕ = serialise.places_in m in
    let q : WroteArena A s n m.out p w first t = record { sizes = g.sizes; answer = g.answer; stand = g.stand; sized = g.sized } in
    let a = serialised_arena A s n (length m.out) p g.answer in
    kept w first t g.stand.place A.count (entry_at A) (items (entry_at A) 1 0 s (tree_of A))
    (items-length (entry_at A) 1 (tree_of A) 0 s ∙ (held A a).size_is) (arena_agrees A s n m.out p w first t q) (arena_each A a s)
    (arena_strict A s n m.out p w first t q)
