-- Where adding gives, every check passed; and where a held entry has the name, the answer is 4.
use Rattle.std.proofs.Common.{ℕ, ◌<◌, arith, ◌≡◌, refl, sym, Bool, true, false, []}
use Rattle.units.specs.Told.{Told, gives, refuses, pick}
use Rattle.std.specs.declared.cmp.Ordering.TheVariants.{Equal}
use Rattle.dirtab_entry.specs.declared.Entry as given
use Rattle.dirtab_entry.specs.Entry.{name_in, check_of}
use Rattle.avl_model.specs.declared.Place.{Place}
use Rattle.avl_model.specs.declared.Place.TheVariants.{Root}
use Rattle.avl_model.specs.declared.Spot.{Spot}
use Rattle.avl_model.specs.declared.Spot.TheVariants.{Same, Free}
use Rattle.avl_model.specs.Seek.{spot_in}
use Rattle.avl_model.proofs.Search.{equal_found}
use Rattle.dirtab_arena.specs.Arena.{Arena, names_of, is_arena, tree_of}
use Rattle.dirtab_add.specs.Add.{Grown, order_to, has_room, if_taken, if_free, add_of, columns_after}
use Rattle.dirtab_add.specs.inner.Judging.{Checked, Taking}
use Rattle.dirtab_arena.proofs.Passed.{held}
use Rattle.dirtab_add.proofs.Ways.{same_name, refused}

pick_gives : (b : Bool) (k : ℕ) (x : Told Grown) (g : Grown) → pick b x (refuses k []) ≡ gives g → (b ≡ true) × (x ≡ gives g)
pick_gives true k x g e = (refl, e)
pick_gives false k x g e = let z : ◌≡◌ {A = ℕ} 0 1 = cc in absurd (omega arith)

taken_gives : (t : Told (Unit {0})) (x : Told Grown) (g : Grown) → if_taken t x ≡ gives g → (t ≡ gives tt) × (x ≡ gives g)
taken_gives (gives u) x g e = (refl, e)
taken_gives (refuses k vs) x g e = let z : ◌≡◌ {A = ℕ} 0 1 = cc in absurd (omega arith)

free_gives : (s : Spot) (x : Told Grown) (g : Grown) → if_free s x ≡ gives g → ((q : Place) × (s ≡ Free q)) × (x ≡ gives g)
free_gives (Same i) x g e = let z : ◌≡◌ {A = ℕ} 0 1 = cc in absurd (omega arith)
free_gives (Free q) x g e = ((q, refl), e)

module _ (A : Arena) (e : given.Entry) where
  -- adding gives only where every check passed
  pub given_taking : (g : Grown) → add_of A e ≡ gives g → (q : Place) × Taking A e q
  unfolding add_of
  given_taking g h0 =
      let h1 = pick_gives (is_arena A) 12 _ g h0 in
      let h2 = taken_gives (check_of A.bytes e) _ g h1.1 in
      let h3 = free_gives (spot_in (order_to A e) (tree_of A) Root) _ g h2.1 in
      let h4 = pick_gives (has_room A.count A.columns) 6 _ g h3.1 in
      (h3.0.0, record { checked = record { passes = h1.0; taken = h2.0 }; free = h3.0.1; room = h4.0 })

  -- a name that a held entry has is refused 4, whether there is room or not, and all is as it was
  pub duplicate : Checked A e → (j : ℕ) → j < A.count → order_to A e j ≡ Equal → (add_of A e ≡ refuses 4 []) × (columns_after A e ≡ A.columns)
  duplicate c j h q =
      let t = held A c.passes in
      let f = equal_found (names_of A) (name_in A.bytes e) (tree_of A) Root j t.ordered (omega (arith, t.each j h)) q in
      let r = refused A e _ (same_name A e c refl f.1) in
      (sym r.0, sym r.1)
