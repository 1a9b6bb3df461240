-- THE WAY TO AN ENTRY IS THE ONLY ONE: in a table that was written, no offset is listed twice, so two ways from the first entry to one offset, along links of which none
-- is 0 or 65,535, have the same links; and each ends at an item. Assumes nothing.
use Prim.Native.Nat.{ℕ, zero, suc, ◌≤◌, ◌<◌}
use mathlib.Core.Path.{◌≡◌, refl, sym, ap, subst, ◌∙◌}
use mathlib.Core.List.Memᴰ
use mathlib.Core.List.{List, [], ◌∷◌, Memᴰ}
use mathlib.Core.Option.{some}
use native.Mathlib.Omega.{arith}
use lib.ListN.{length, get_or}
use Rattle.units.specs.Told.{gives}
use Rattle.units.specs.declared.Sector.{Sector}
use Rattle.units.specs.declared.Region.{Region}
use Rattle.read_entry.specs.Entry.{Placed, read_at}
use Rattle.lookup_way.specs.Along.{Along, Real}
use Rattle.lookup_way.proofs.Along.{no_step}
use Rattle.table_shape.specs.Shape.{preorder}
use Rattle.table_shape.proofs.Few.{Once}
use Rattle.table_shape.proofs.Ways.{distinct, inside, single, solid_ends}
use Rattle.avl_model.specs.Tree.{Tree, leaf, node}
use Rattle.table_model.specs.Entry.{Entry, Item}
use Rattle.table_model.specs.Place.{items}
use Rattle.table_model.specs.Table.{stop}
use Rattle.table_model.specs.Said.{AllIn, Apart}
use Rattle.table_model.proofs.Geometry.{apart}
use Rattle.agree.specs.Written.{Written}
use Rattle.agree.specs.Agreement.{offsets}
use Rattle.agree.proofs.Sized.{empty_size}
use Rattle.agree.proofs.Setting.{Setting}
use Rattle.agree.proofs.Holds.{setting, ready}
use Rattle.agree.proofs.Shapes.{shape_of, lists_offsets, hung_root, empty_read, written_hangs}

-- offsets of items that are apart differ
later : (xs : List Item) (o : ℕ) → AllIn (λ y. o < y.offset) xs → (j : ℕ) → j < length (offsets xs) → o < get_or (offsets xs) j 0
later [] o a j h = absurd (omega arith)
later (x ∷ xs) o a zero h = a.0
later (x ∷ xs) o a (suc j) h = later xs o a.1 j (omega arith)

after : (x : Item) (xs : List Item) → AllIn (λ y. stop x ≤ y.offset) xs → AllIn (λ y. x.offset < y.offset) xs
after x [] a = tt
after x (y ∷ xs) a = (omega (arith, a.0), after x xs a.1)

pub differ : (xs : List Item) → Apart xs → Once (offsets xs)
differ [] a i j h k e = absurd (omega arith)
differ (x ∷ xs) a zero zero h k e = refl
differ (x ∷ xs) a zero (suc j) h k e = absurd (omega (arith, later xs x.offset (after x xs a.0) j (omega arith)))
differ (x ∷ xs) a (suc i) zero h k e = absurd (omega (arith, later xs x.offset (after x xs a.0) i (omega arith)))
differ (x ∷ xs) a (suc i) (suc j) h k e = ap suc (differ xs a.1 i j (omega arith) (omega arith) e)

-- THE WAY IS THE ONLY ONE
pub way_unique : (entry : ℕ → Entry) (align s : ℕ) (x : Tree) (w : List ℕ) (first : Sector) (t : Region) → Written entry align s x w first t
    → (o : ℕ) (ks ls : List ℕ) → Along (read_at w first t) 0 o ks → Real ks → Along (read_at w first t) 0 o ls → Real ls → ks ≡ ls
way_unique entry align s leaf w first t g o ks ls a u b v =
    let e = empty_read entry align s w first t g.stand (empty_size t.size g.sized) in
    (no_step e a).1 ∙ sym (no_step e b).1
way_unique entry align s (node l i r) w first t g o ks ls a u b v =
    let F : Setting = setting entry align s (node l i r) w first t g in
    let h = hung_root F l i r s (ready entry align s (node l i r) w first t g) in
    let y = solid_ends (read_at w first t) h.0 h.1 o ks a u in
    let once = subst Once (sym (lists_offsets F (node l i r) 0 s)) (differ (items entry align 0 s (node l i r)) (apart entry align (node l i r) s g.writable.fits)) in
    single (read_at w first t) o y.0 y.1 h.0 (distinct (preorder (shape_of F 0 s (node l i r))) once) ks ls a u b v

-- AND IT ENDS AT AN ITEM, where an entry is read
pub way_ends : (entry : ℕ → Entry) (align s : ℕ) (x : Tree) (w : List ℕ) (first : Sector) (t : Region) → Written entry align s x w first t
    → (o : ℕ) (ks : List ℕ) → Along (read_at w first t) 0 o ks → Real ks → (y : Placed) → read_at w first t o ≡ gives (some y)
    → (z : Item) × Memᴰ z (items entry align 0 s x) × (z.offset ≡ o)
way_ends entry align s x w first t g o ks a u y q =
    Memᴰ.of_map (λ (z : Item). z.offset) (items entry align 0 s x)
    (subst (Memᴰ o) (lists_offsets (setting entry align s x w first t g) x 0 s) (inside (read_at w first t) o y q (written_hangs entry align s x w first t g).0 ks a u))
