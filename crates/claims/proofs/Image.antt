-- Demand 3 of a planned image: cited. Assumes nothing.
use Prim.Native.Nat.{ℕ, ◌<◌}
use mathlib.Core.Path.{subst, ◌∙◌}
use mathlib.Core.List.{List}
use lib.ListN.{length, take}
use Rattle.units.specs.declared.Sector.{Sector}
use Rattle.units.specs.declared.Region.{Region}
use Rattle.table_model.proofs.Geometry.{items-length}
use Rattle.dirtab_list.specs.Whole as whole
use Rattle.img_model.specs.Shares.{Request, share_of, directories_of, count_of}
use Rattle.img_model.specs.Plan.{table_in, entries_at, Plan}
use Rattle.img_model.specs.Image.{request_in}
use Rattle.agree.specs.Given.{EachOnce}
use Rattle.agree_plan.specs.Planned.{tree_at, start_sector, items_at}
use Rattle.agree_plan.specs.Runs.{runs_of, Follow}
use Rattle.agree_plan.specs.Image.{Imaged, RegionFor}
use Rattle.agree_plan.proofs.Grew.{tree_size}
use Rattle.agree_plan.proofs.Tables.{table_planned}
use Rattle.agree_plan.proofs.Sectors.{sectors_planned}
use Rattle.agree_plan.proofs.Follows.{runs_follow, runs_apart}
use Rattle.agree_plan.proofs.Writes.{table_writes, table_left}
use Rattle.agree_plan.proofs.Agrees.{table_agrees, table_passes}
use Rattle.agree_plan.proofs.Found.{path_found}
use Rattle.agree_plan.proofs.Only.{path_only, path_one_then_two}
use Rattle.claims.specs.Found.{Kept}
use Rattle.claims.specs.Image.{ImageKept, TablesWritten}
use Rattle.claims.proofs.Found.{kept}

module _ (R : Request) (places : ℕ) (tables sectors : List ℕ) (p : Plan) (w : List ℕ) (first : Sector) (I : Imaged R places tables sectors p w first) where
  each : (d : ℕ) → d < directories_of R → EachOnce (entries_at R p.sizes d) (count_of R d) (items_at R p.sizes d)
  each d h =
      let s = sectors_planned R places tables sectors p I.planned I.apart d h in
      record { numbers = s.numbers; entries = s.entries; once = s.once; others = s.others }

  table : (d : ℕ) (h : d < directories_of R) (t : Region) → RegionFor p d t
      → Kept w first t (I.stand d h).place (count_of R d) (entries_at R p.sizes d) (items_at R p.sizes d)
  table d h t r =
      kept w first t (I.stand d h).place (count_of R d) (entries_at R p.sizes d) (items_at R p.sizes d)
      (items-length (entries_at R p.sizes d) 1 (tree_at R p.sizes d) 0 (start_sector R p.sizes d)
      ∙ tree_size (share_of R d) (table_in p.sizes) (tree_at R p.sizes d) (table_planned R places tables sectors p I.planned d h).grown)
      (table_agrees R places tables sectors p w first I d h t r) (each d h) (table_passes R places tables sectors p w first I d h t r)

pub image_kept : ImageKept
image_kept A m f q w first g =
    let R : Request = request_in A in
    let p : Plan = q.plan in
    let places : ℕ = length m.order in
    let tables : List ℕ = take A.directories m.tables in
    let sectors : List ℕ = take A.entries m.sectors in
    let I : Imaged R places tables sectors p w first = record { planned = q.planned; apart = g.apart; stand = g.stand } in
    record {
      tables = table R places tables sectors p w first I;
      path = path_found R places tables sectors p w first I;
      only = path_only R places tables sectors p w first I;
      same = path_one_then_two R places tables sectors p w first I;
      follow = subst (Follow 33 (runs_of R p.sizes (directories_of R))) q.free (runs_follow R places tables sectors p q.planned);
      runs = runs_apart R places tables sectors p q.planned;
    }

pub tables_written : TablesWritten
tables_written A m f q d h size z k room enough =
    let R : Request = request_in A in
    let p : Plan = q.plan in
    let tables : List ℕ = take A.directories m.tables in
    let sectors : List ℕ = take A.entries m.sectors in
    record {
      answer = table_writes R (length m.order) tables sectors p q.planned d h size z (whole.places_in k) room (length k.out) enough;
      output = table_left R (length m.order) tables sectors p q.planned d h size z (whole.places_in k) room k.out enough;
    }
