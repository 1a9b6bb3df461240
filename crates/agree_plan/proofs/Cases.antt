-- Two plans computed: one that meets all that is supposed, with a window in which a path goes through it, and one with an entry in two shares. Assumes nothing.
use Prim.Native.Nat.{ℕ, zero, suc, ◌+◌, ◌<◌}
use native.Mathlib.Omega.{arith}
use mathlib.Core.Path.{◌≡◌, refl, sym, ap, ◌∙◌}
use mathlib.Core.List.{List, [], ◌∷◌, ◌++◌, map, append-nil}
use lib.ListN.{length, get_or}
use lib.Seq.{drop_at}
use Rattle.units.specs.Told.{gives}
use Rattle.units.specs.Region.{locate_of}
use Rattle.units.specs.declared.Sector.{Sector}
use Rattle.layout_bytes.specs.Bytes.{all}
use Rattle.layout_name.specs.Order.{list_order, number_order, raised}
use Rattle.name_role.specs.Roles.{given_keys, stored_keys, sought_keys, stored_of, given_order, sought_order, bad_sought}
use Rattle.layout_node.specs.Header.{header_of, header_bytes, is_blank}
use Rattle.layout_sector.specs.Counter.{sectors_for}
use Rattle.read_entry.specs.Entry.{read_here, read_at, name_of}
use Rattle.read_entry.specs.Links.{is_in, absent_under}
use Rattle.read_lookup.specs.Lookup.{by_link, step_at, chain_from, lookup_by}
use Rattle.read_path.specs.Path.{trim, split, unended, parts_from, path_by, path_of}
use Rattle.dirtab_entry.specs.Entry.{rounded, any_bad, check_of}
use Rattle.avl_model.specs.Tree.{bal}
use Rattle.table_model.specs.Entry.{Item, entry_bytes}
use Rattle.table_model.specs.Place.{items, end_of, free_of, start_after}
use Rattle.table_model.specs.Table.{any_far, bytes_from, table_bytes, place_of}
use Rattle.table_model.proofs.Bytes.{table_length}
use Rattle.dirtab_grow.specs.Grow.{grow_from}
use Rattle.img_model.specs.Shares.{Request, columns, directories_of, first_of, count_of, share_of, is_tree}
use Rattle.img_model.specs.Plan.{Plan, table_in, size_at, total, tree_in, sizes_down, entries_at, taking_all, taking_up, plan_of}
use Rattle.img_model.proofs.Passed.{all_fit}
use Rattle.agree.specs.Written.{Stand}
use Rattle.agree_plan.specs.Planned.{Planned, Disjoint, tree_at, start_sector, items_at, table_sector}
use Rattle.agree_plan.specs.InTurn.{SizesFor}
use Rattle.agree_plan.specs.Image.{Imaged, root_of, any_slash, Leads, last, into}
use Rattle.agree_plan.proofs.Tables.{table_planned}

abbrev plan : List ℕ → List ℕ → List ℕ → ℕ → Plan
plan sizes tables sectors free = record { sizes = sizes; taken = record { tables = tables; sectors = sectors; free = free } }

-- the root has a directory `d` and a file `a` of 3,000 bytes; `d` has a file `b` of 1 byte
abbrev pub request : Request
request = columns (0 ∷ 2 ∷ []) (2 ∷ 1 ∷ []) (0 ∷ 1 ∷ 2 ∷ []) (1 ∷ 1 ∷ 1 ∷ []) (1 ∷ 0 ∷ 0 ∷ []) (1 ∷ 3000 ∷ 1 ∷ []) (100 ∷ 97 ∷ 98 ∷ [])

abbrev pub its_plan : Plan
its_plan = plan (32 ∷ 16 ∷ []) (33 ∷ 34 ∷ []) (34 ∷ 35 ∷ 37 ∷ []) 38

pub planned : Planned request 3 (0 ∷ 0 ∷ []) (0 ∷ 0 ∷ 0 ∷ []) its_plan
unfolding plan_of is_tree total sizes_down tree_in taking_up taking_all grow_from check_of any_bad given_order given_keys stored_of list_order number_order raised bal place_of any_far items end_of free_of start_after sectors_for
planned = record { table_places = refl; entry_places = refl; given = refl }

own : (d e i j : ℕ) → d < directories_of request → e < directories_of request → i < count_of request d → j < count_of request e → first_of request d + i ≡ first_of request e + j → d ≡ e
own zero zero i j hd he hi hj q = refl
own zero (suc zero) i j hd he hi hj q = absurd (omega arith)
own (suc zero) zero i j hd he hi hj q = absurd (omega arith)
own (suc zero) (suc zero) i j hd he hi hj q = refl
own (suc (suc d)) e i j hd he hi hj q = absurd (omega arith)
own zero (suc (suc e)) i j hd he hi hj q = absurd (omega arith)
own (suc zero) (suc (suc e)) i j hd he hi hj q = absurd (omega arith)

pub disjoint : Disjoint request
disjoint = record { once = own }

-- the tables' bytes one after the other, from sector 33 on, are a window in which they stand
abbrev bytes : ℕ → List ℕ
bytes d = table_bytes (entries_at request its_plan.sizes d) 1 (start_sector request its_plan.sizes d) (tree_at request its_plan.sizes d)

abbrev pub window : List ℕ
window = bytes 0 ++ bytes 1

abbrev pub window_first : Sector
window_first = record { 0 = 33 }

root_long : length (bytes 0) ≡ 2048
root_long =
    let T = table_planned request 3 (0 ∷ 0 ∷ []) (0 ∷ 0 ∷ 0 ∷ []) its_plan planned 0 (omega arith) in
    table_length (entries_at request its_plan.sizes 0) 1 (tree_at request its_plan.sizes 0) (start_sector request its_plan.sizes 0)
    (all_fit (share_of request 0) (table_in its_plan.sizes) T.grown)
    ∙ ap rounded (sym T.sized)

both_stand : (d : ℕ) → d < directories_of request → Stand window window_first (record { 0 = table_sector its_plan d }) (bytes d)
both_stand zero h = record { place = 0; at_sector = refl; rest = bytes 1; here = refl }
both_stand (suc zero) h = record { place = 2048; at_sector = refl; rest = []; here = drop_at (bytes 0) (bytes 1) 2048 root_long ∙ sym (append-nil (bytes 1)) }
both_stand (suc (suc d)) h = absurd (omega arith)

pub imaged : Imaged request 3 (0 ∷ 0 ∷ []) (0 ∷ 0 ∷ 0 ∷ []) its_plan window window_first
imaged = record { planned = planned; apart = disjoint; stand = both_stand }

-- `D/B` leads to the file `b`: entry 0 of directory 1
pub led : Leads request its_plan 0 ((68 ∷ []) ∷ (66 ∷ []) ∷ []) 1 0
unfolding sought_keys stored_keys stored_of raised any_slash bad_sought
led =
    into 0 0 1 0 (68 ∷ []) (66 ∷ []) [] (omega arith) (record { some = omega arith; plain = refl; good = refl }) refl refl
    (last 1 0 (66 ∷ []) (omega arith) (record { some = omega arith; plain = refl; good = refl }) refl)

-- and it is found there: its sector is 37, its size 1
found_there : path_of 1 window window_first (root_of its_plan) (68 ∷ 47 ∷ 66 ∷ [])
    ≡ gives (record {
      header = record { left = record { 0 = 0 }; right = record { 0 = 0 }; sector = record { 0 = 37 }; size = 1; attributes = 32; name_len = 1 };
      place = 2048;
    })
unfolding start_sector tree_in grow_from check_of any_bad given_order given_keys stored_of list_order number_order raised bal place_of any_far items end_of free_of start_after sectors_for
    table_bytes bytes_from entry_bytes header_bytes path_of absent_under path_by trim split unended parts_from bad_sought sought_order sought_keys stored_keys read_at locate_of read_here is_blank all header_of name_of is_in lookup_by chain_from
    step_at by_link
found_there = refl

-- the sizes with which the root's list is written
pub root_sizes : SizesFor request its_plan 0 (16 ∷ 3000 ∷ [])
root_sizes = record { long = refl; each = two }
  where
    two : (i : ℕ) → i < count_of request 0 → get_or (16 ∷ 3000 ∷ []) i 0 ≡ size_at (share_of request 0) (table_in its_plan.sizes) i
    two zero h = refl
    two (suc zero) h = refl
    two (suc (suc i)) h = absurd (omega arith)

-- the root has a directory `d` and a file `a` of 1 byte, and the share of `d` is that file once more: each table has it with a sector of its own, and the
-- column of sectors keeps the later
abbrev shared : Request
shared = columns (0 ∷ 1 ∷ []) (2 ∷ 1 ∷ []) (0 ∷ 1 ∷ []) (1 ∷ 1 ∷ []) (1 ∷ 0 ∷ []) (1 ∷ 1 ∷ []) (100 ∷ 97 ∷ [])

shared_planned : plan_of shared 3 (0 ∷ 0 ∷ []) (0 ∷ 0 ∷ []) ≡ gives (plan (32 ∷ 16 ∷ []) (33 ∷ 34 ∷ []) (34 ∷ 36 ∷ []) 37)
unfolding plan_of is_tree total sizes_down tree_in taking_up taking_all grow_from check_of any_bad given_order given_keys stored_of list_order number_order raised bal place_of any_far items end_of free_of start_after sectors_for
shared_planned = refl

-- in the root's table it has sector 35, in that of `d` sector 36
shared_tables : (map (λ (y : Item). y.sector) (items_at shared (32 ∷ 16 ∷ []) 0) ≡ 34 ∷ 35 ∷ []) × (map (λ (y : Item). y.sector) (items_at shared (32 ∷ 16 ∷ []) 1) ≡ 36 ∷ [])
unfolding start_sector tree_in grow_from check_of any_bad given_order given_keys stored_of list_order number_order raised bal place_of any_far items end_of free_of start_after sectors_for
shared_tables = (refl, refl)
