-- EVERY TABLE OF A PLANNED IMAGE is read as it was written: walk, lookup and strict check agree with it, at the root's size and at the rounded size that the
-- entry of a directory has. Assumes nothing.
use Prim.Native.Nat.{ℕ, suc, ◌*◌, ◌≤◌, ◌<◌}
use native.Mathlib.Omega.{arith}
use mathlib.Core.Path.{◌≡◌, refl, sym, ap, subst, ◌∙◌}
use mathlib.Core.Bool.{Bool, true, false}
use mathlib.Core.List.{List}
use Rattle.units.specs.Told.{gives, pick}
use Rattle.units.specs.declared.Sector.{Sector}
use Rattle.units.specs.declared.Region.{Region}
use Rattle.dirtab_entry.specs.declared.Kind.TheVariants.{File, Directory}
use Rattle.dirtab_entry.specs.Entry.{rounded, stored_size}
use Rattle.strict_rule.specs.Strict.{strict_of}
use Rattle.table_model.specs.Entry.{Entry, Item, attributes}
use Rattle.img_model.specs.Shares.{Request, share_of, directories_of, count_of, is_directory, value_of}
use Rattle.img_model.specs.Plan.{table_in, entries_at, Plan}
use Rattle.img_model.proofs.Passed.{all_fit}
use Rattle.agree.specs.Written.{SizedFor, Written}
use Rattle.agree.specs.Agreement.{offsets, placed_at, Agreement}
use Rattle.agree.proofs.Sized.{as_reported, as_rounded}
use Rattle.agree.proofs.Agrees.{agreement}
use Rattle.agree_strict.proofs.Passes.{written_passes}
use Rattle.agree_plan.specs.Planned.{tree_at, start_sector, items_at, sector_at}
use Rattle.agree_plan.specs.Image.{Imaged, root_of, RegionFor, region_of}
use Rattle.agree_plan.proofs.Grew.{tree_ordered, tree_balanced, tree_size}
use Rattle.agree_plan.proofs.Tables.{table_planned}
use Rattle.agree_plan.proofs.Sectors.{root_planned, sectors_planned}

-- the entry of a directory: its size is the table's, rounded, and its attribute that of a directory
pub directory_size : (b : Bool) (x v : ℕ) → b ≡ true → stored_size (pick b Directory File) (pick b x v) ≡ rounded x
directory_size true x v e = refl
directory_size false x v e = let z : ◌≡◌ {A = ℕ} 0 1 = cc in absurd (omega arith)

pub directory_kind : (b : Bool) → b ≡ true → attributes (pick b Directory File) ≡ 16
directory_kind true e = refl
directory_kind false e = let z : ◌≡◌ {A = ℕ} 0 1 = cc in absurd (omega arith)

-- and of a file
pub file_size : (b : Bool) (x v : ℕ) → b ≡ false → stored_size (pick b Directory File) (pick b x v) ≡ v
file_size true x v e = let z : ◌≡◌ {A = ℕ} 0 1 = cc in absurd (omega arith)
file_size false x v e = refl

pub file_kind : (b : Bool) → b ≡ false → attributes (pick b Directory File) ≡ 32
file_kind true e = let z : ◌≡◌ {A = ℕ} 0 1 = cc in absurd (omega arith)
file_kind false e = refl

module _ (R : Request) (places : ℕ) (tables sectors : List ℕ) (p : Plan) (w : List ℕ) (first : Sector) (I : Imaged R places tables sectors p w first) where
  abbrev S : List ℕ
  S = p.sizes

  module _ (d : ℕ) (hd : d < directories_of R) (t : Region) (r : RegionFor p d t) where
    -- it was written
    unfoldable pub table_written : Written (entries_at R p.sizes d) 1 (start_sector R p.sizes d) (tree_at R p.sizes d) w first t
    table_written =
        let T = table_planned R places tables sectors p I.planned d hd in
        record {
          writable = record {
            aligned = omega arith;
            fits = all_fit (share_of R d) (table_in S) T.grown;
            ordered = tree_ordered (share_of R d) (table_in S) (tree_at R S d) T.grown;
            balanced = tree_balanced (share_of R d) (table_in S) (tree_at R S d) T.grown;
            placing = record { size = table_in S d; free = start_sector R S (suc d) };
            placed = T.placed;
          };
          stand = record {
            place = (I.stand d hd).place;
            at_sector = ap (λ (n : ℕ). 2048 * n) r.at ∙ (I.stand d hd).at_sector;
            rest = (I.stand d hd).rest;
            here = (I.stand d hd).here;
          };
          sized = subst (λ (n : ℕ). SizedFor n t.size) T.sized r.sized;
        }

    -- DEMAND 3 of it
    pub table_agrees : Agreement w first t (I.stand d hd).place (items_at R p.sizes d)
    unfolding table_written
    table_agrees = agreement (entries_at R S d) 1 (start_sector R S d) (tree_at R S d) w first t table_written

    -- and it passes the strict check
    pub table_passes : (room : ℕ) → count_of R d ≤ room → strict_of w first t room ≡ gives (offsets (items_at R p.sizes d))
    table_passes room h =
        written_passes (entries_at R S d) 1 (start_sector R S d) (tree_at R S d) w first t table_written room
        (omega (arith, tree_size (share_of R d) (table_in S) (tree_at R S d) (table_planned R places tables sectors p I.planned d hd).grown))

  -- THE ROOT is read in the region where a search starts
  pub root_region : RegionFor p 0 (root_of p)
  root_region = record { at = sym (root_planned R places tables sectors p I.planned); sized = as_reported (table_in S 0) (table_in S 0) refl }

  -- A DIRECTORY'S ENTRY names the region of its table
  pub entry_region : (d : ℕ) → d < directories_of R → (i : ℕ) → i < count_of R d → is_directory (share_of R d) i ≡ true → (y : Item) → y.entry ≡ entries_at R p.sizes d i
      → y.sector ≡ sector_at R p d i → (place : ℕ) → RegionFor p (value_of (share_of R d) i) (region_of (placed_at place y))
  entry_region d hd i hi dir y is_entry_lem is-sector place = record {
    at = is-sector ∙ sym ((sectors_planned R places tables sectors p I.planned I.apart d hd).tables i hi dir);
    sized = as_rounded (table_in S (value_of (share_of R d) i)) y.entry.size
        (ap (λ (e : Entry). e.size) is_entry_lem ∙ directory_size (is_directory (share_of R d) i) (table_in S (value_of (share_of R d) i)) (value_of (share_of R d) i) dir);
  }
