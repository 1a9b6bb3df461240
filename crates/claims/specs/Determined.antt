-- DETERMINED: no two differing answers satisfy a contract, nor do two differing contents of the lent memory. For
-- each public operation whose answer is a Result or an Option, and for a name, which is a part of the window; the
-- contract of every other reads `r ≡ D`, with D of the arguments alone. Assumes nothing.
use Rattle.std.specs.Prelude.{ℕ, ◌≡◌, List, length}
use Rattle.std.specs.Borrow.{Bor}
use Rattle.units.specs.Lent.{IsPart}
use Rattle.units.specs.declared.Sector.{Sector}
use Rattle.units.specs.declared.Region.{Region}
use Rattle.units.specs.declared.Offset.{Offset}
use Rattle.units.specs.Region as locating
use Rattle.dirtab_entry.specs.declared.Entry.{Entry}
use Rattle.layout_volume.specs.declared.Descriptor.{Descriptor}
use Rattle.layout_volume.specs.Descriptor as volume
use Rattle.layout_sector.specs.Counter as counter
use Rattle.read_entry.specs.Entry as entry
use Rattle.read_lookup.specs.Lookup as lookup
use Rattle.read_path.specs.Path as following
use Rattle.read_walk.specs.Walk as walking
use Rattle.read_place.specs.Place as place
use Rattle.strict_rule.specs.Strict as checking
use Rattle.limits_rule.specs.Limits as loading
use Rattle.dirtab_arena.specs.Arena.{Arena}
use Rattle.dirtab_add.specs.Add as adding
use Rattle.dirtab.specs.Serialise as serialising
use Rattle.dirtab_list.specs.Whole as whole
use Rattle.img_model.specs.Plan as planning
use Rattle.img_model.specs.Image as image

-- a contract allows one answer; and, where memory is lent, one answer and one content of it
abbrev pub One : {R : Type 0} → (R → Type 0) → Type 0
One {R} allows = (r s : R) → allows r → allows s → r ≡ s

abbrev pub OneAndMemory : {R M : Type 0} → (R → M → Type 0) → Type 0
OneAndMemory {R} {M} allows = (r s : R) (m n : M) → allows r m → allows s n → (r ≡ s) × (m ≡ n)

-- a contract allows one part of a slice: one place that it points to, and one content
abbrev pub OnePart : (Bor (List ℕ) → Type 0) → Type 0
OnePart allows = (r s : Bor (List ℕ)) → allows r → allows s → (r.ref_ptr ≡ s.ref_ptr) × (r.now ≡ s.now)

pub record Determined : Type 0 where
  pub read_descriptor : (s : List ℕ) → One (λ r. volume.read_told r ≡ volume.read_of s)
  pub write_descriptor : (out : List ℕ) (d : Descriptor)
      → OneAndMemory (λ r m. (volume.write_told r ≡ volume.write_of out) × (m ≡ volume.bytes_after out d))
  pub read_date : (stamp : ℕ) → One (λ r. volume.date_told r ≡ volume.date_of stamp)
  pub take : (next n : ℕ) → One (λ r. counter.told r ≡ counter.take_of 1 next n)
  pub locate : (t : Region) (o : Offset) → One (λ r. locating.told r ≡ locating.locate_of t o)
  pub read_entry : (w : List ℕ) (first : Sector) (t : Region) (o : ℕ)
      → One (λ r. entry.told r ≡ entry.read_at w first t o)
  pub entry_name : (w : Bor (List ℕ)) (at n : ℕ) → OnePart (λ r. IsPart r w (entry.name_part w.now at n))
  pub look_up : (w : List ℕ) (first : Sector) (t : Region) (name : List ℕ) (rule : ℕ)
      → One (λ r. lookup.told r ≡ lookup.lookup_of rule w first t name)
  pub find_path : (w : List ℕ) (first : Sector) (t : Region) (path : List ℕ) (rule : ℕ)
      → One (λ r. following.told r ≡ following.path_of rule w first t path)
  pub name : (w : Bor (List ℕ)) (first : Sector) (t : Region) (o : ℕ)
      → OnePart (λ r. IsPart r w (place.name_at w.now first t o))
  pub enter : (w : List ℕ) (first : Sector) (t : Region) (o : ℕ)
      → One (λ r. place.entered r ≡ place.table_at w first t o)
  pub left : (w : List ℕ) (first : Sector) (t : Region) (o : ℕ) → One (λ r. place.linked r ≡ place.left_at w first t o)
  pub right : (w : List ℕ) (first : Sector) (t : Region) (o : ℕ)
      → One (λ r. place.linked r ≡ place.right_at w first t o)
  pub walk : (w : List ℕ) (first : Sector) (t : Region) (list scratch : List ℕ)
      → OneAndMemory (λ r (m : List ℕ × List ℕ).
      (walking.told r ≡ walking.walk_answer w first t (length list) (length scratch))
      × ((m.0 ≡ walking.list_after w first t list (length scratch))
      × (m.1 ≡ walking.scratch_after (length list) scratch)))
  pub check_table : (w : List ℕ) (first : Sector) (t : Region) (list scratch : List ℕ)
      → OneAndMemory (λ r (m : List ℕ × List ℕ).
      (checking.told r ≡ checking.strict_answer w first t (length list) (length scratch))
      × ((m.0 ≡ checking.list_after w first t list (length scratch))
      × (m.1 ≡ checking.scratch_after (length list) scratch)))
  pub load_limits : (w : List ℕ) (first : Sector) (path : List ℕ) (time age : ℕ)
      → One (λ r. loading.told r ≡ loading.load_of w first path time age)
  pub add : (A : Arena) (e : Entry)
      → OneAndMemory (λ r c. (adding.told r ≡ adding.add_of A e) × (c ≡ adding.columns_after A e))
  pub serialise : (A : Arena) (s : ℕ) (m : serialising.Lent)
      → OneAndMemory (λ r n. (serialising.told r ≡ serialising.answer_in A s m) × (n ≡ serialising.lent_after A s m))
  pub write_list : (L : whole.Listing) (s : ℕ) (m : whole.Lent)
      → OneAndMemory (λ r n. (whole.told r ≡ whole.answer_in L s m) × (n ≡ whole.lent_after L s m))
  pub plan : (A : image.Asked) (m : image.Lent)
      → OneAndMemory (λ r n. (planning.told r ≡ image.answer_in A m) × (n ≡ image.lent_after A m))
