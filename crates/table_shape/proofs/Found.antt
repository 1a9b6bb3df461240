-- THE THEOREMS: of a table that the rule of the strict check accepts and whose walk lists xs. The check accepts exactly those (crate strict_rule). Assumes nothing.
--     shaped            the table is a tree, from offset 0 on: the walk lists its entries, and every name to the left of an entry is less than the entry's,
--                       every name to the right of it greater
--     listed_entry      at each offset that is listed stands an entry
--     reached           for every set of links that a lookup takes for absent: a lookup of a listed entry's name answers along the way to the entry
--     one_way           and this way is the only one
--     entry_found_one   under rule one a listed entry is found by its name, unless a link of 255 stands on the way to it ..
--     entry_lost        .. and then the answer is 22
--     entry_found_two   under rule two a listed entry is always found by its name
--     sound_two         and nothing else is found under rule two: what a lookup finds is listed and has the name sought; 22 is answered only where no listed
--                       entry has it; and 23, 24, 25 never are
-- `shaped`, `listed_entry`, `way_listed` and `one_way` hold of windows of any numbers; for the others each element of the window is below 256.
use Prim.Native.Nat.{ℕ, suc, ◌+◌, ◌≤◌}
use mathlib.Core.Path.{◌≡◌, refl, sym, ap, subst, ◌∙◌}
use mathlib.Core.Bool.{false}
use mathlib.Core.List.Memᴰ
use mathlib.Core.List.{List, [], ◌∷◌, Memᴰ}
use native.Mathlib.Omega.{arith}
use borrow.Author.Tests.{eq-eqb, ne_eqb}
use lib.ListN.{length}
use Rattle.units.specs.Told.{Told, gives, refuses}
use Rattle.units.specs.declared.Sector.{Sector}
use Rattle.units.specs.declared.Region.{Region}
use Rattle.name_role.specs.Roles.{bad_sought}
use Rattle.name_role.proofs.Roles.{sought_equal→}
use Rattle.read_entry.specs.declared.Placed.{Placed}
use Rattle.read_entry.specs.Entry.{read_at}
use Rattle.read_entry.specs.Links.{walk_absent}
use Rattle.read_entry.proofs.Fit.{Bytes}
use Rattle.read_lookup.specs.Lookup.{Finding, lookup_of}
use Rattle.read_lookup.proofs.Laws.{found_stands}
use Rattle.read_lookup.proofs.Rules.{lookup_by_rule}
use Rattle.lookup_way.specs.Along.{Along, Real}
use Rattle.lookup_way.proofs.Along.{one_read}
use Rattle.lookup_way.proofs.ByRule.{found_one, lost_one, found_two}
use Rattle.read_walk.specs.Walk.{walk_of}
use Rattle.strict_rule.specs.Strict.{name_in}
use Rattle.strict_rule.specs.Accepts.{EntryAt, Accepts}
use Rattle.strict_rule.proofs.Way.{Way, way_of}
use Rattle.table_shape.specs.Shape.{preorder, Shaped}
use Rattle.table_shape.specs.Found.{Named, Answered, found, missing}
use Rattle.table_shape.proofs.Trees.{depth, every_both, every_all, every_listed, of_listed, depth_listed, headers-depth, hangs_reached}
use Rattle.table_shape.proofs.Walked.{tree_of, in_order}
use Rattle.table_shape.proofs.Few.{Once, few}
use Rattle.table_shape.proofs.Reaches.{Reached, all_reached, Lands, on, off, lands}
use Rattle.table_shape.proofs.Ways.{inside, distinct, single}

module _ (w : List ℕ) (first : Sector) (t : Region) (xs : List ℕ) (rule : Accepts w first t xs) where
  -- the walk's steps; a table of size 0 lists nothing
  steps : (t.size ≡ 0 → ⊥) → Way (read_at w first t) (0 ∷ []) xs
  unfolding walk_of
  steps some_size = (way_of (read_at w first t) (length xs) (0 ∷ []) xs (rw (ne_eqb _ _ some_size) at (rule.ends (length xs) (omega arith)))).0

  nothing : t.size ≡ 0 → xs ≡ []
  unfolding walk_of
  nothing z = let y : ◌≡◌ {A = Told (List ℕ)} (gives []) (gives xs) = rw (eq-eqb _ _ z) at (rule.ends (length xs) (omega arith)) in cc

  pub some_size : (o : ℕ) → Memᴰ o xs → t.size ≡ 0 → ⊥
  some_size o m z = Memᴰ.not-nil (subst (Memᴰ o) (nothing z) m)

  -- A TABLE OF SOME SIZE IS AN ORDERED TREE
  pub shaped : (t.size ≡ 0 → ⊥) → Shaped w first t xs
  shaped sized =
      let s = tree_of (read_at w first t) 0 xs (steps sized) in
      record {
        shape = s.0;
        hangs = s.1;
        lists = s.2;
        ordered = in_order w first t s.1
            (every_both _ _ _ s.0 (λ o x m e. rule.in_order o x (subst (Memᴰ o) s.2 m) e.1) (every_listed s.0) (hangs_reached (read_at w first t) s.1));
      }

  -- AT EACH LISTED OFFSET STANDS AN ENTRY
  pub listed_entry : (o : ℕ) → Memᴰ o xs → (x : Placed) × EntryAt w first t o x
  listed_entry o m =
      let tree = shaped (some_size o m) in
      let p = of_listed _ tree.shape o (hangs_reached (read_at w first t) tree.hangs) (subst (Memᴰ o) (sym tree.lists) m) in
      (p.0, p.1.1)

  once_in : (tree : Shaped w first t xs) → Once (preorder tree.shape)
  once_in tree = subst Once (sym tree.lists) rule.once

  -- A WAY FROM THE FIRST ENTRY, along links of which none is 0 or 65,535, that ends at an entry ends at a listed one
  pub way_listed : (t.size ≡ 0 → ⊥) → (o : ℕ) (x : Placed) (ks : List ℕ) → EntryAt w first t o x → Along (read_at w first t) 0 o ks → Real ks → Memᴰ o xs
  way_listed sized o x ks e a u = let tree = shaped sized in subst (Memᴰ o) tree.lists (inside (read_at w first t) o x e tree.hangs ks a u)

  -- AND THERE IS ONLY ONE WAY TO EACH ENTRY: two of them that parted would list the entry's offset twice
  pub one_way : (o : ℕ) (x : Placed) → Memᴰ o xs → EntryAt w first t o x → (ks ls : List ℕ) → Along (read_at w first t) 0 o ks → Real ks
      → Along (read_at w first t) 0 o ls → Real ls → ks ≡ ls
  one_way o x m e ks ls a u b v =
      let tree = shaped (some_size o m) in
      single (read_at w first t) o x e tree.hangs (distinct (preorder tree.shape) (once_in tree)) ks ls a u b v

  module _ (bytes : Bytes w) where
    -- no entry is so deep that a lookup is cut short before it
    low : (tree : Shaped w first t xs) → depth tree.shape ≤ 65535
    low tree = omega (arith, depth_listed tree.shape, few w first t bytes tree.shape tree.hangs (once_in tree))

    reached_in : (sized : t.size ≡ 0 → ⊥) (o : ℕ) (x : Placed) → Memᴰ o xs → EntryAt w first t o x → Reached w first t o x
    reached_in sized o x m e =
        let tree = shaped sized in
        let p = of_listed (λ q y. Reached w first t q y × EntryAt w first t q y) tree.shape o
        (every_both _ _ _ tree.shape (λ q y g h. (g, h.1)) (all_reached w first t tree.hangs tree.ordered (omega (arith, low tree))) (hangs_reached (read_at w first t) tree.hangs))
        (subst (Memᴰ o) (sym tree.lists) m) in
        subst (Reached w first t o) (one_read p.1.1 e) p.1.0

    module _ (o : ℕ) (x : Placed) (listed : Memᴰ o xs) (is : EntryAt w first t o x) where
      -- A LISTED ENTRY IS REACHED
      pub reached : Reached w first t o x
      reached = reached_in (some_size o listed) o x listed is

      module _ (name : List ℕ) (good : bad_sought name ≡ false) (named : Named w name x) where
        -- RULE ONE: found by its name after a header for each link and one more, unless a link of 255 stands on the way; then 22
        pub entry_found_one : (Memᴰ 255 reached.links → ⊥)
            → lookup_of 1 w first t name ≡ gives (record { entry = x; offset = o; headers = 1 + length reached.links })
        entry_found_one = found_one w first t name x o reached.links reached.real (λ absent. reached.answers absent name good named)

        pub entry_lost : Memᴰ 255 reached.links → (c : ℕ) × (lookup_of 1 w first t name ≡ refuses 22 (c ∷ []))
        entry_lost = lost_one w first t name x o reached.links reached.real (λ absent. reached.answers absent name good named)

        -- RULE TWO: always found by its name
        pub entry_found_two : lookup_of 2 w first t name ≡ gives (record { entry = x; offset = o; headers = 1 + length reached.links })
        entry_found_two = found_two w first t name x o reached.links reached.real (λ absent. reached.answers absent name good named)

    -- RULE TWO FINDS NOTHING ELSE, reads at most a header for each entry and one more, and answers 22 only where there is nothing to find
    module _ (sized : t.size ≡ 0 → ⊥) (name : List ℕ) (good : bad_sought name ≡ false) where
      answered : (tree : Shaped w first t xs) (m n : ℕ) → m ≤ n → (a : Told Finding) → lookup_of 2 w first t name ≡ a → Lands tree.shape m a → Answered w first t xs n name a
      answered tree m n h a e (on x i k) =
          let s = found_stands walk_absent w first t name x (sym (lookup_by_rule w first t name).rule_two ∙ e) in
          found x.offset x.headers x.entry (subst (Memᴰ x.offset) tree.lists i) s.0 (sought_equal→ name (name_in w x.entry) s.1) (omega arith)
      answered tree m n h a e (off c k) =
          missing c (omega arith) (λ o x i is named.
          let g : ◌≡◌ {A = Told Finding} (refuses 22 (c ∷ [])) (gives _) = sym e ∙ entry_found_two o x i is name good named in
          let z : ◌≡◌ {A = ℕ} 0 1 = cc in
          omega arith)

      pub sound_two : Answered w first t xs (length xs + 1) name (lookup_of 2 w first t name)
      sound_two =
          let tree = shaped sized in
          let few-headers = headers-depth (read_at w first t) tree.hangs in
          answered tree (suc (depth tree.shape)) _ (omega (arith, depth_listed tree.shape, ap length tree.lists)) (lookup_of 2 w first t name) refl
          (rw (lookup_by_rule w first t name).rule_two
          (lands walk_absent w first t name tree.hangs (every_all _ tree.shape (λ o x. (λ k. k, λ k. k))) (omega (arith, low tree)) good _ few-headers))
