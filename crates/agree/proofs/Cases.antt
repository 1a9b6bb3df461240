-- The starred cases hold, computed. Assumes nothing.
use Prim.Native.Nat.{ℕ, zero, suc, ◌+◌, ◌/◌, ◌<◌}
use mathlib.Core.Path.{◌≡◌, refl, sym, ap, ◌∙◌}
use mathlib.Core.List.{List, [], ◌∷◌, append-nil}
use mathlib.Core.Option.{Option, some}
use native.Mathlib.Omega.{arith}
use Rattle.units.specs.Told.{Told, gives}
use Rattle.units.specs.Region.{locate_of}
use Rattle.layout_bytes.specs.Bytes.{all}
use Rattle.layout_name.specs.Order.{raised, number_order, list_order}
use Rattle.name_role.specs.Roles.{given_keys, stored_keys, sought_keys, stored_of, given_order, sought_order, bad_sought}
use Rattle.layout_node.specs.Header.{header_of, header_bytes, is_blank}
use Rattle.layout_sector.specs.Counter.{sectors_for}
use Rattle.dirtab_entry.specs.Entry.{any_bad, check_of}
use Rattle.read_entry.specs.Entry.{Placed, read_here, read_at, name_of}
use Rattle.read_entry.specs.Links.{is_in, absent_under}
use Rattle.read_lookup.specs.Lookup.{by_link, step_at, chain_from, lookup_by, lookup_of}
use Rattle.lookup_way.specs.Along.{Along, there, left}
use Rattle.read_walk.specs.Walk.{push, to_entry, walk_from, walk_of}
use Rattle.avl_model.specs.Tree.{bal}
use Rattle.avl_model.specs.Laws.{least}
use Rattle.table_model.specs.Entry.{entry_bytes}
use Rattle.table_model.specs.Place.{start_after, end_of, free_of, items}
use Rattle.table_model.specs.Table.{any_far, bytes_from, size_of, table_bytes, place_of}
use Rattle.table_model.specs.Said.{Stands}
use Rattle.table_model.proofs.Geometry.{of_item, inside, never_262140}
use Rattle.table_model.proofs.Placing.{place_seven}
use Rattle.agree.specs.Given.{Given, Good, numbered, grown, WrittenList}
use Rattle.agree.specs.Cases.{a, b, c, bytes_of, region_of, starred, Each, Starred}

computed : Each starred
unfolding grown bal items end_of free_of start_after sectors_for table_bytes bytes_from entry_bytes header_bytes raised number_order list_order given_order given_keys stored_of least
    any_bad check_of walk_of walk_from to_entry push read_at locate_of read_here is_blank all header_of name_of is_in lookup_of absent_under lookup_by bad_sought sought_order sought_keys stored_keys chain_from step_at by_link
computed = (
  (refl, refl),
  (
    refl,
    (
      refl,
      (
        (refl, refl),
        (
          refl,
          (
            (refl, refl),
            (
              refl,
              (
                refl,
                (
                  refl,
                  (
                    (refl, refl),
                    (
                      refl,
                      (
                        refl,
                        (
                          refl,
                          (
                            refl,
                            (
                              refl,
                              (
                                refl,
                                (
                                  refl,
                                  (
                                    refl,
                                    (
                                      refl,
                                      (
                                        refl,
                                        (
                                          refl,
                                          (
                                            refl,
                                            (
                                              refl,
                                              (
                                                refl,
                                                (refl, (refl, (refl, tt))),
                                              ),
                                            ),
                                          ),
                                        ),
                                      ),
                                    ),
                                  ),
                                ),
                              ),
                            ),
                          ),
                        ),
                      ),
                    ),
                  ),
                ),
              ),
            ),
          ),
        ),
      ),
    ),
  ),
)

-- THE STARRED CASES
pub cases : Starred
cases = record {
  computed = computed;
  link_65532 = λ entry align s x y m e. (ap (λ (o : ℕ). o / 4) e, omega arith);
  seven = λ entry align s x y m e. place_seven entry align s x y m (omega arith);
  never = λ entry align s x f y m e.
      never_262140 0 (size_of entry x) y (of_item (Stands 0 (size_of entry x)) (items entry align 0 s x) y (inside entry align x s f) m) e;
}

-- WHAT THE THEOREMS SUPPOSE CAN BE MET: by the table of `a`, `b`, `c`, that stands at sector 33 in a window of its bytes
abbrev abc : List Given
abc = a ∷ b ∷ c ∷ []

abc_good : (i : ℕ) → i < 3 → Good (numbered abc i)
unfolding any_bad
abc_good zero h = record { some = omega arith; short = omega arith; ascii = refl; small = omega arith; roundable = λ e. omega arith }
abc_good (suc zero) h = record { some = omega arith; short = omega arith; ascii = refl; small = omega arith; roundable = λ e. omega arith }
abc_good (suc (suc zero)) h = record { some = omega arith; short = omega arith; ascii = refl; small = omega arith; roundable = λ e. omega arith }
abc_good (suc (suc (suc i))) h = absurd (omega arith)

abc_raised : (i : ℕ) → i < 3 → given_keys (numbered abc i).name ≡ (65 + i) ∷ []
unfolding given_keys raised
abc_raised zero h = refl
abc_raised (suc zero) h = refl
abc_raised (suc (suc zero)) h = refl
abc_raised (suc (suc (suc i))) h = absurd (omega arith)

abc_differ : (i j : ℕ) → i < 3 → j < 3 → given_keys (numbered abc i).name ≡ given_keys (numbered abc j).name → i ≡ j
abc_differ i j h k e =
    let same : (65 + i) ∷ [] ≡ (65 + j) ∷ [] = sym (abc_raised i h) ∙ e ∙ abc_raised j k in
    let first : 65 + i ≡ 65 + j = cc in
    omega arith

pub abc_written : WrittenList 1 34 abc (bytes_of abc 34) (record { 0 = 33 }) (region_of abc)
unfolding place_of any_far grown bal items end_of free_of start_after sectors_for raised number_order list_order given_order given_keys stored_of
abc_written = record {
  admitted = record {
    aligned = omega arith;
    few = omega arith;
    good = abc_good;
    differ = abc_differ;
    placing = record { size = 48; free = 37 };
    placed = refl;
  };
  stand = record { place = 0; at_sector = refl; rest = []; here = sym (append-nil (bytes_of abc 34)) };
  sized = refl;
}

-- A LINK OF 0 WOULD MAKE A SECOND WAY: `a` has no links, so both are 0, which is the offset of the first entry. Along 4 a way leads from `b` to `a`, at 16, and
-- so does one along 4, 0, 4
abbrev at_b : Placed
at_b = record { header = record { left = record { 0 = 4 }; right = record { 0 = 8 }; sector = record { 0 = 34 }; size = 1; attributes = 32; name_len = 1 }; place = 0 }

abbrev at_a : Placed
at_a = record { header = record { left = record { 0 = 0 }; right = record { 0 = 0 }; sector = record { 0 = 35 }; size = 1; attributes = 32; name_len = 1 }; place = 16 }

abbrev reads_abc : ℕ → Told (Option Placed)
reads_abc = read_at (bytes_of abc 34) (record { 0 = 33 }) (region_of abc)

reads_b : reads_abc 0 ≡ gives (some at_b)
unfolding grown bal items end_of free_of start_after sectors_for table_bytes bytes_from entry_bytes header_bytes raised number_order list_order given_order given_keys stored_of
    locate_of read_at read_here is_blank all header_of
reads_b = refl

reads_a : reads_abc 16 ≡ gives (some at_a)
unfolding grown bal items end_of free_of start_after sectors_for table_bytes bytes_from entry_bytes header_bytes raised number_order list_order given_order given_keys stored_of
    locate_of read_at read_here is_blank all header_of
reads_a = refl

pub two_ways : Along reads_abc 0 16 (4 ∷ []) × Along reads_abc 0 16 (4 ∷ 0 ∷ 4 ∷ [])
two_ways = (left {x = at_b} reads_b there, left {x = at_b} reads_b (left {x = at_a} reads_a (left {x = at_b} reads_b there)))
